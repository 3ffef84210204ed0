use native.Mathlib.Omega.{arith}
use Rattle.std.specs.Prelude.{option_copied}
use Rattle.refs.specs.Run.{open_listing}
use Rattle.blocks.specs.Means.{snapshot_of}
use Rattle.refs.specs.Means.{state_of, open_number}
use Rattle.capi.proofs.States.{open_too_short, open_gives, open_refused}
use Rattle.capi.proofs.listing.cosvint_list_open.Goals as goal

pub returns-then-state-lt-STATE_SIZE : goal.returns-then-state-lt-STATE_SIZE
returns-then-state-lt-STATE_SIZE c = open_too_short (open_listing (snapshot_of c.args.s) (option_copied c.args.namespace)) c.args.state.now c.if-state-lt-STATE_SIZE.true

pub returns-in-Ok : goal.returns-in-Ok
returns-in-Ok c =
    open_gives (open_listing (snapshot_of c.args.s) (option_copied c.args.namespace)) (state_of c.in-Ok.listing)
    (omega (arith, c.if-state-lt-STATE_SIZE.false)) c.in-Ok.ensures (rw c.from.ensures at c.put.ensures)

pub returns-in-Err : goal.returns-in-Err
returns-in-Err c =
    open_refused (open_listing (snapshot_of c.args.s) (option_copied c.args.namespace)) (open_number c.in-Err.why) c.into.result c.args.state.now
    (omega (arith, c.if-state-lt-STATE_SIZE.false)) c.in-Err.ensures c.into.ensures
