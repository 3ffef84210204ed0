use mathlib.Core.Path.{◌≡◌, ap}
use Prim.Native.Nat.{◌≤◌}
use native.Mathlib.Omega.{arith}
use lib.ListN.{length}
use Rattle.names.specs.Name.{longest}
use Rattle.refs.specs.Run.{State}
use Rattle.capi.specs.Layout.{state_from}
use Rattle.refs.specs.Means.{positions_of}
use Rattle.capi.proofs.States.{expansion_short, wrote_next}
use Rattle.capi.proofs.listing.put_next.Goals as goal

pub overflow_sub-length : goal.overflow_sub-length
overflow_sub-length c =
    let kept : c.read.result.expansion.now ≡ (state_from c.args.state.now).expansion = ap (λ (s : State). s.expansion) c.read.ensures in
    let short : length c.read.result.expansion.now ≤ longest = rw kept (expansion_short c.args.state.now) in
    omega (arith, short)

pub returns : goal.returns
returns c =
    let args = c.args in
    let kept : c.read.result.expansion.now ≡ (state_from args.state.now).expansion = ap (λ (s : State). s.expansion) c.read.ensures in
    wrote_next (positions_of args.cursor.at) args.cursor.ended c.requires (rw kept at c.put_numbers.ensures) (rw kept at c.clear.ensures)
