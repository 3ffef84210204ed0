-- What a call answers and what it leaves in the outputs that are lent to it.
use Rattle.std.specs.Prelude.{◌≡◌, ℕ, zero, suc, List, [], ◌∷◌, ◌++◌, Bool, ◌&&◌, leb, length, drop, if◌then◌else◌}
use Rattle.names.specs.Bytes.{Bytes}
use Rattle.names.specs.Check.{Checked, gives, refuses}
use Rattle.blocks.specs.Snapshot.{Snapshot}
use Rattle.blocks.specs.Means.{id_width}
use Rattle.refs.specs.Run.{State, Step, step}
use Rattle.capi.specs.Report.{Report, too_short, answer_report, checked_number}
use Rattle.capi.specs.Layout.{report_size, report_bytes, state_size, state_bytes, state_from}

-- an output has so many bytes
abbrev pub holds : ℕ → Bytes → Bool
holds size out = leb size (length out)

-- ---- a report

-- the number, unless the output is too short
unfoldable pub number_given : Report → Bytes → ℕ
number_given r out = if holds report_size out then r.number else too_short

-- the report at the front; what lies behind it stays
abbrev pub report_over : Report → Bytes → Bytes
report_over r out = report_bytes r ++ drop report_size out

-- an output that is too short stays whole
unfoldable pub output_given : Report → Bytes → Bytes
output_given r out = if holds report_size out then report_over r out else out

-- what a call that reports gives: its number, and the output after it
pub record Given (r : Report) (out after : Bytes) (n : ℕ) : Type 0 where
  pub number : n ≡ number_given r out
  pub output : after ≡ output_given r out

-- ---- a listing

-- the state at the front, in the same way
abbrev pub state_over : State → Bytes → Bytes
state_over st state = state_bytes st ++ drop state_size state

-- an opening that is refused leaves the state as it was
abbrev pub opened_over : Checked State → Bytes → Bytes
opened_over (gives st) state = state_over st state
opened_over (refuses k) state = state

-- an opening's number and what it leaves
unfoldable pub opening_number : Checked State → Bytes → ℕ
opening_number c state = if holds state_size state then checked_number c else too_short

unfoldable pub opening_state : Checked State → Bytes → Bytes
opening_state c state = if holds state_size state then opened_over c state else state

-- what an opening gives
pub record OpenGiven (c : Checked State) (state after : Bytes) (n : ℕ) : Type 0 where
  pub number : n ≡ opening_number c state
  pub left : after ≡ opening_state c state

-- a step has room for both, or writes nothing
abbrev pub step_fits : Bytes → Bytes → Bool
step_fits state out = holds state_size state && holds report_size out

-- a step's number and what it leaves
unfoldable pub step_number : Step → Bytes → Bytes → ℕ
step_number d state out = if step_fits state out then (answer_report d.answer).number else too_short

unfoldable pub step_state : Step → Bytes → Bytes → Bytes
step_state d state out = if step_fits state out then state_over d.next state else state

unfoldable pub step_output : Step → Bytes → Bytes → Bytes
step_output d state out = if step_fits state out then report_over (answer_report d.answer) out else out

-- what a step gives: its number, the state and the output after it
pub record StepGiven (d : Step) (state out state-after out-after : Bytes) (n : ℕ) : Type 0 where
  pub number : n ≡ step_number d state out
  pub next : state-after ≡ step_state d state out
  pub output : out-after ≡ step_output d state out

-- what n steps report, each from the bytes that the one before left
unfoldable pub reports : ℕ → Snapshot → Bytes → List Report
reports zero s state = []
reports (suc n) s state = let d = step id_width s (state_from state) in answer_report d.answer ∷ reports n s (state_over d.next state)
