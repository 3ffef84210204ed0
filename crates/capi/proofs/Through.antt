-- A listing whose state goes with the caller, as bytes, is the listing.
use mathlib.Core.Path.{◌≡◌, ap}
use Prim.Native.Nat.{ℕ, zero, suc, ◌≤◌, ◌<◌}
use native.Mathlib.Omega.{arith}
use mathlib.Core.List.{List, ◌∷◌, ◌++◌, map}
use Rattle.std.specs.Prelude.{Option}
use lib.ListN.{length, drop}
use lib.Seq.{drop_at}
use Rattle.names.specs.Bytes.{Bytes}
use Rattle.names.specs.Name.{longest}
use Rattle.names.specs.Check.{gives}
use Rattle.blocks.specs.Layout.{most_blocks}
use Rattle.blocks.specs.Snapshot.{Snapshot}
use Rattle.blocks.specs.Means.{id_width}
use Rattle.refs.specs.Run.{State, step, run, open_listing}
use Rattle.refs.proofs.ListOpens.{opened_start}
use Rattle.refs.proofs.Moves.{run_none, run_more}
use Rattle.refs.proofs.Positions.{AtMost, step_at_most, step_expansion}
use Rattle.capi.specs.Report.{Report, answer_report}
use Rattle.capi.specs.Layout.{word_size, state_size, state_bytes}
use Rattle.capi.specs.Output.{state_over, reports}
use Rattle.capi.proofs.Kept.{limit, Held, state_kept}
use Rattle.capi.proofs.States.{state_length}

-- a state that openings and steps lead to
pub record Reached (st : State) : Type 0 where
  pub at : AtMost most_blocks st.at
  pub expansion : length st.expansion ≤ longest

blocks_fit : most_blocks < limit word_size
unfolding limit
blocks_fit = omega arith

held : (st : State) → Reached st → Held st
held st r =
    record {
      worktree = omega (arith, r.at.worktree, blocks_fit);
      common = omega (arith, r.at.common, blocks_fit);
      packed = omega (arith, r.at.packed, blocks_fit);
      expansion = r.expansion;
    }

next_reached : (s : Snapshot) (st : State) → Reached st → Reached (step id_width s st).next
next_reached s st r = record { at = step_at_most id_width s st r.at; expansion = rw (step_expansion id_width s st) r.expansion }

-- a state over a state
over_again : (d st : State) (b : Bytes) → state_over d (state_over st b) ≡ state_over d b
over_again d st b = ap (λ (l : Bytes). state_bytes d ++ l) (drop_at (state_bytes st) (drop state_size b) state_size (state_length st))

-- the reports of n steps from a state in a lent buffer are those of its run
pub run_reports : (n : ℕ) (s : Snapshot) (st : State) (b : Bytes) → Reached st → reports n s (state_over st b) ≡ map answer_report (run id_width s n st).answers
unfolding reports
run_reports zero s st b r = rw (run_none id_width s st)
run_reports (suc n) s st b r =
    let d = step id_width s st in
    rw (run_more id_width s n st, state_kept st (drop state_size b) (held st r), over_again d.next st b)
    (ap (λ (l : List Report). answer_report d.answer ∷ l) (run_reports n s d.next b (next_reached s st r)))

-- an opening's state
opened_reached : (s : Snapshot) (namespace : Option Bytes) (st : State) → open_listing s namespace ≡ gives st → Reached st
opened_reached s namespace st e =
    let fresh = opened_start s namespace st e in
    rw fresh.0 (record { at = record { worktree = omega arith; common = omega arith; packed = omega arith }; expansion = fresh.1 })

-- a listing through the boundary
pub listing_reports : (n : ℕ) (s : Snapshot) (namespace : Option Bytes) (st : State) (b : Bytes) → open_listing s namespace ≡ gives st
    → reports n s (state_over st b) ≡ map answer_report (run id_width s n st).answers
listing_reports n s namespace st b e = run_reports n s st b (opened_reached s namespace st e)
