-- `reflist` leaves nothing out: after its steps the listing answers that it is ended.
use mathlib.Core.Path.{◌≡◌}
use Prim.Native.Nat.{ℕ}
use mathlib.Core.Bool.{true}
use Rattle.std.specs.Prelude.{None, Some}
use native.Mathlib.Omega.{arith}
use lib.ListN.{length}
use Rattle.names.specs.Bytes.{Bytes}
use Rattle.blocks.specs.Block.{Region}
use Rattle.blocks.specs.Snapshot.{Snapshot, or_empty, size_check}
use Rattle.blocks.proofs.Walks.{length_entries}
use Rattle.blocks.proofs.Stores.{entries_if_any, store_is}
use Rattle.refs.specs.Run.{start, is_nothing, step, run}
use Rattle.refs.proofs.Moves.{run_ends}
use Rattle.text.specs.Reflist.{block_total, files_check, report, size_report}

pub all_handed_out : (width : ℕ) (s : Snapshot) (e : Bytes) → size_check s ≡ None → is_nothing (step width s (run width s (block_total s) (start e)).last).answer ≡ true
unfolding block_total
all_handed_out width s e z =
    run_ends width s (block_total s) (start e) z
    (rw (store_is width s, entries_if_any width Region.common s.common)
    (omega (arith, length_entries width Region.worktree s.worktree, length_entries width Region.common (or_empty s.common), length_entries width Region.packed s.packed)))

-- of files whose sizes are refused the program writes what `report` gives, whatever they hold
pub sizes_suffice : (width : ℕ) (s : Snapshot) (k : ℕ) → files_check (length s.worktree) (length (or_empty s.common)) (length s.packed) ≡ Some k
    → report width s ≡ size_report (files_check (length s.worktree) (length (or_empty s.common)) (length s.packed))
unfolding report
sizes_suffice width s k h = rw h
