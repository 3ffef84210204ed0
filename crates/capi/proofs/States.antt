-- A listing's state as bytes, and what openings and steps give.
use mathlib.Core.Path.{◌≡◌, refl, ap, ◌∙◌}
use Prim.Native.Nat.{ℕ, zero, suc, ◌+◌, ◌-◌, ◌*◌, ◌≤◌, ◌<◌}
use native.Mathlib.Omega.{arith}
use mathlib.Core.Bool.{Bool, true, false}
use mathlib.Core.Logic.{◌⊎◌, inl, inr}
use mathlib.Core.List.{[], ◌∷◌, ◌++◌}
use Rattle.std.specs.Int.{from_bool}
use lib.Dec.{leb}
use lib.ListN.{length, take, drop, replicate, length-append, length-take}
use borrow.Author.Tests.{le-leb, lt-leb}
use Rattle.names.specs.Bytes.{Bytes}
use Rattle.names.specs.Name.{longest}
use Rattle.names.specs.Check.{Checked, gives, refuses}
use Rattle.refs.specs.Listing.{Positions}
use Rattle.refs.specs.Run.{State, Step}
use Rattle.output.specs.Pasted.{pasted}
use Rattle.output.proofs.Pastes.{pasted_apart}
use Rattle.capi.specs.Report.{answer_report, too_short}
use Rattle.capi.specs.Layout.{word_size, word, bit, padded, field, report_size, report_bytes, expansion_at, state_size, number_bytes, state_bytes, state_from}
use Rattle.capi.specs.Output.{opening_number, opening_state, OpenGiven, step_number, step_state, step_output, StepGiven}
use Rattle.capi.specs.Promises.{Wrote, Reported}
use Rattle.capi.proofs.Fields.{low_first_length, padded_length, padded_whole, wrote_both, in_front}
use Rattle.capi.proofs.Calls.{report_length}

-- ---- writing and reading

module _ (at : Positions) (ended : Bool) (k : ℕ) where
  pub wrote_numbers : {b m n o p a : Bytes} → Wrote b 0 (word at.worktree) m → Wrote m word_size (word at.common) n → Wrote n (2 * word_size) (word at.packed) o
      → Wrote o (3 * word_size) (word (bit ended)) p → Wrote p (4 * word_size) (word k) a → Wrote b 0 (number_bytes at ended k) a
  wrote_numbers g h i j l =
      let two = wrote_both g h (simp low_first_length (omega arith)) in
      let three = wrote_both two i (simp (length-append, low_first_length) (omega arith)) in
      let four = wrote_both three j (simp (length-append, low_first_length) (omega arith)) in
      wrote_both four l (simp (length-append, low_first_length) (omega arith))

  numbers_length : length (number_bytes at ended k) ≡ expansion_at
  numbers_length = simp (length-append, low_first_length) (omega arith)

pub wrote_state : (s : State) {b m a : Bytes} → Wrote b 0 (number_bytes s.at s.ended (length s.expansion)) m → Wrote m expansion_at (padded longest s.expansion) a
    → Wrote b 0 (state_bytes s) a
unfolding state_bytes
wrote_state s g h = wrote_both g h (omega (arith, numbers_length s.at s.ended (length s.expansion)))

pub bit_is : (b : Bool) → from_bool b ≡ bit b
bit_is true = refl
bit_is false = refl

module _ (b : Bytes) where
  pub expansion_short : length (state_from b).expansion ≤ longest
  unfolding state_from
  expansion_short = simp length-take (omega arith)

take_again : (n m : ℕ) (s : Bytes) → take (length (take n (take m s))) s ≡ take n (take m s)
take_again zero m s = refl
take_again (suc n) zero s = refl
take_again (suc n) (suc m) [] = refl
take_again (suc n) (suc m) (x ∷ s) = ap (λ (l : Bytes). x ∷ l) (take_again n m s)

expansion_again : (b : Bytes) → take (length (state_from b).expansion) (drop expansion_at b) ≡ (state_from b).expansion
unfolding state_from
expansion_again b = take_again (field 4 b) longest (drop expansion_at b)

-- the numbers are written, and zeros behind the expansion, which stays
pub wrote_next : (at : Positions) (ended : Bool) {b m a : Bytes} → state_size ≤ length b → Wrote b 0 (number_bytes at ended (length (state_from b).expansion)) m
    → a ≡ pasted m (expansion_at + length (state_from b).expansion) (replicate (longest - length (state_from b).expansion) 0)
    → Wrote b 0 (state_bytes (record { at = at; ended = ended; expansion = (state_from b).expansion })) a
unfolding state_bytes
wrote_next at ended {b} {m} {a} h g e =
    let x = (state_from b).expansion in
    let zeros : Bytes = replicate (longest - length x) 0 in
    let front = number_bytes at ended (length x) in
    let size = numbers_length at ended (length x) in
    let there : take (length x) (drop expansion_at b) ≡ x = expansion_again b in
    let room : length front + length x ≤ length b = omega (arith, size, h, expansion_short b) in
    let apart : pasted (pasted b 0 front) (expansion_at + length x) zeros ≡ pasted b 0 (front ++ (x ++ zeros)) = rw (size, there) at (pasted_apart b front (length x) zeros room) in
    record { bytes = e ∙ rw (g.bytes, ← padded_whole longest x (expansion_short b)) apart }

-- ---- room

pub state_length : (s : State) → length (state_bytes s) ≡ state_size
unfolding state_bytes
state_length s = simp (length-append, low_first_length, padded_length) refl

-- ---- openings

pub open_too_short : (c : Checked State) (state : Bytes) → length state < state_size → OpenGiven c state state too_short
unfolding opening_number opening_state
open_too_short c state h = let e : leb state_size (length state) ≡ false = lt-leb state_size (length state) h in record { number = rw e refl; left = rw e refl }

-- one that is refused
pub open_refused : (c : Checked State) (k n : ℕ) (state : Bytes) → state_size ≤ length state → refuses k ≡ c → n ≡ k → OpenGiven c state state n
unfolding opening_number opening_state
open_refused c k n state h e m =
    let room : leb state_size (length state) ≡ true = le-leb state_size (length state) h in
    record { number = rw (room, ← e) m; left = rw (room, ← e) refl }

-- and one that gives a state
pub open_gives : (c : Checked State) (st : State) {state after : Bytes} → state_size ≤ length state → gives st ≡ c → Wrote state 0 (state_bytes st) after → OpenGiven c state after 0
unfolding opening_number opening_state
open_gives c st {state} {after} h e p =
    let room : leb state_size (length state) ≡ true = le-leb state_size (length state) h in
    record { number = rw (room, ← e) refl; left = rw (room, ← e) (in_front (state_bytes st) (state_length st) h p) }

-- ---- steps

-- a state that is too short, or an output
step_state_short : (d : Step) (state out : Bytes) → length state < state_size → StepGiven d state out state out too_short
unfolding step_number step_state step_output
step_state_short d state out h =
    let e : leb state_size (length state) ≡ false = lt-leb state_size (length state) h in
    record { number = rw e refl; next = rw e refl; output = rw e refl }

step_output_short : (d : Step) (state out : Bytes) → state_size ≤ length state → length out < report_size → StepGiven d state out state out too_short
unfolding step_number step_state step_output
step_output_short d state out h k =
    let a : leb state_size (length state) ≡ true = le-leb state_size (length state) h in
    let b : leb report_size (length out) ≡ false = lt-leb report_size (length out) k in
    record { number = rw (a, b) refl; next = rw (a, b) refl; output = rw (a, b) refl }

pub step_short : (d : Step) (state out : Bytes) → (length state < state_size) ⊎ ((state_size ≤ length state) × (length out < report_size)) → StepGiven d state out state out too_short
step_short d state out (inl h) = step_state_short d state out h
step_short d state out (inr h) = step_output_short d state out h.0 h.1

-- a step that has room: its report, and the next state with the expansion as before
pub step_given : (d : Step) {at : Positions} {ended : Bool} {x : Bytes} {n : ℕ} {state out state-after out-after : Bytes} → state_size ≤ length state → report_size ≤ length out
    → x ≡ (state_from state).expansion → record { at = at; ended = ended; expansion = x } ≡ d.next → Reported out (answer_report d.answer) out-after n
    → Wrote state 0 (state_bytes (record { at = at; ended = ended; expansion = (state_from state).expansion })) state-after
    → StepGiven d state out state-after out-after n
unfolding step_number step_state step_output
step_given d {at} {ended} {x} {n} {state} {out} {state-after} {out-after} h k q e r p =
    let a : leb state_size (length state) ≡ true = le-leb state_size (length state) h in
    let b : leb report_size (length out) ≡ true = le-leb report_size (length out) k in
    record {
      number = rw (a, b) r.number;
      next = rw (a, b) (in_front (state_bytes d.next) (state_length d.next) h (rw (rw q at e) at p));
      output = rw (a, b) (in_front (report_bytes (answer_report d.answer)) (report_length (answer_report d.answer)) k r.bytes);
    }
