use mathlib.Core.Path.{◌≡◌}
use Rattle.std.specs.Prelude.{None}
use lib.ListN.{length}
use Rattle.blocks.specs.Means.{snapshot_of}
use Rattle.blocks.specs.Snapshot.{or_empty}
use Rattle.text.specs.Reflist.{files_check, report}
use Rattle.text.proofs.Puts.{◌then◌, whole}
use Rattle.text.proofs.Runs.{few_blocks}
use native.Mathlib.Omega.{arith}
use Rattle.text.proofs.reflist.put_report.Goals as goal

pub returns-in-Ok : goal.returns-in-Ok
unfolding report files_check
returns-in-Ok c =
    let s = snapshot_of c.args.s in
    let right : None ≡ files_check (length s.worktree) (length (or_empty s.common)) (length s.packed) = rw (← c.sizes.ensures.worktree, ← c.sizes.ensures.common, ← c.sizes.ensures.packed) c.in-Ok.ensures in
    rw (← right) (whole (rw c.clear.ensures at c.put.ensures then c.put_listing.ensures) (omega (arith, few_blocks s right)))

pub returns-in-Err : goal.returns-in-Err
unfolding report files_check
returns-in-Err c =
    rw (← c.sizes.ensures.worktree, ← c.sizes.ensures.common, ← c.sizes.ensures.packed, ← c.in-Err.ensures) c.put_refusal.ensures
