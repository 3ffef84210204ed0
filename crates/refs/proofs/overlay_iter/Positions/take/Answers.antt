use mathlib.Core.Path.{refl}
use Rattle.blocks.specs.Means.{snapshot_of}
use Rattle.refs.specs.Means.{positions_of}
use Rattle.refs.proofs.ListChooses.{take_error, take_nothing, take_name}
use Rattle.refs.proofs.overlay_iter.Positions.take.Goals as goal

pub returns-in-Some : goal.returns-in-Some
returns-in-Some c =
    rw c.with.ensures
    (take_error (snapshot_of c.args.s) c.args.e.now (positions_of c.args.self.now) _ _ _
    (rw c.as_ref-w.ensures.value c.peek-worktree.ensures.waits) (rw c.as_ref-c.ensures.value c.peek-common.ensures.waits) (rw c.as_ref-p.ensures.value c.peek-packed.ensures.waits)
    (rw c.as_ref-w.ensures.value c.peek-worktree.ensures.stands) (rw c.as_ref-c.ensures.value c.peek-common.ensures.stands) (rw c.as_ref-p.ensures.value c.peek-packed.ensures.stands) c.in-Some.x.now c.in-Some.ensures)

pub returns-in_err-x : goal.returns-in_err-x
returns-in_err-x c =
    rw c.from_residual.ensures
    (take_nothing (snapshot_of c.args.s) c.args.e.now (positions_of c.args.self.now) _ _ _
    (rw c.as_ref-w.ensures.value c.peek-worktree.ensures.waits) (rw c.as_ref-c.ensures.value c.peek-common.ensures.waits) (rw c.as_ref-p.ensures.value c.peek-packed.ensures.waits) c.in_default.ensures
    _ _ (c.least.ensures c.args.e.now) (c.least-2.ensures c.args.e.now) (rw c.in_err-x.was refl))

pub returns : goal.returns
returns c =
    take_name (snapshot_of c.args.s) c.args.e.now (positions_of c.args.self.now) _ _ _
    (rw c.as_ref-w.ensures.value c.peek-worktree.ensures.waits) (rw c.as_ref-c.ensures.value c.peek-common.ensures.waits) (rw c.as_ref-p.ensures.value c.peek-packed.ensures.waits) c.in_default.ensures
    _ _ (c.least.ensures c.args.e.now) (c.least-2.ensures c.args.e.now)
    c.in_ok-x.x.now (rw c.in_ok-x.was refl) _ _ _ c.name-n.result.now c.name-n.ensures.is
    (c.past.ensures c.args.e.now) (c.past-2.ensures c.args.e.now) (c.past-3.ensures c.args.e.now)
