-- What calls give: reports in outputs that have room, and outputs that are too short.
use mathlib.Core.Path.{◌≡◌, refl}
use Prim.Native.Nat.{ℕ, ◌≤◌, ◌<◌}
use native.Mathlib.Omega.{arith}
use mathlib.Core.Bool.{true, false}
use Rattle.std.specs.Prelude.{Option, None, Some}
use lib.ListN.{length, length-append, length-replicate}
use lib.Dec.{leb}
use borrow.Author.Tests.{le-leb, lt-leb}
use Rattle.names.specs.Bytes.{Bytes}
use Rattle.names.specs.Check.{Check, checked}
use Rattle.refs.specs.Answer.{Reference}
use Rattle.refs.specs.Search.{Searched, Result, answers, turned_away, unfit}
use Rattle.capi.specs.Report.{Report, result_report, answer_report, searched_report, check_number, checked_number, too_short}
use Rattle.capi.specs.Layout.{reference_size, reference_bytes, reference_field, report_size, report_bytes}
use Rattle.capi.specs.Output.{number_given, output_given, Given}
use Rattle.capi.specs.Promises.{Reported}
use Rattle.refs.specs.Means.{answer_only}
use Rattle.capi.proofs.Fields.{low_first_length, padded_length, in_front}

-- ---- room

reference_length : (r : Option Reference) → length (reference_field r) ≡ reference_size
unfolding reference_bytes
reference_length None = length-replicate {A = ℕ} reference_size 0
reference_length (Some r) = simp (length-append, low_first_length, padded_length) refl

-- a report has its size, whatever it reports
pub report_length : (r : Report) → length (report_bytes r) ≡ report_size
unfolding report_bytes
report_length r = simp (length-append, low_first_length) (omega (arith, reference_length r.reference))

-- an output that is too short stays
pub too_short_given : (r : Report) (out : Bytes) → length out < report_size → Given r out out too_short
unfolding number_given output_given
too_short_given r out h = let e : leb report_size (length out) ≡ false = lt-leb report_size (length out) h in record { number = rw e refl; output = rw e refl }

-- one that is not has the report in front
pub report_given : (r : Report) {q : Report} {out after : Bytes} {n : ℕ} → report_size ≤ length out → q ≡ r → Reported out q after n → Given r out after n
unfolding number_given output_given
report_given r {q} {out} {after} {n} h e p =
    let room : leb report_size (length out) ≡ true = le-leb report_size (length out) h in
    record { number = rw room (rw e at p.number); output = rw room (in_front (report_bytes r) (report_length r) h (rw e at p.bytes)) }

-- ---- calls

-- how many candidates were tried is not reported
pub only_answer : (x : Result Searched) → result_report answer_report (answer_only x) ≡ result_report searched_report x
only_answer (answers s) = refl
only_answer (turned_away k) = refl
only_answer (unfit f) = refl

-- ---- names

pub number_of : {A : Type 0} (c : Check) (a : A) → check_number c ≡ checked_number (checked c a)
number_of None a = refl
number_of (Some k) a = refl
