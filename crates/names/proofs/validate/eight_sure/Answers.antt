use mathlib.Core.Path.{◌≡◌}
use native.Mathlib.Omega.{arith}
use Rattle.names.proofs.validate.eight_sure.Goals as goal

pub returns : goal.returns
returns c =
    let e : c.loop-j.j ≡ 8 = omega arith in
    rw e at c.loop-j.invariant
