use Rattle.text.specs.Reflist.{error_line}
use Rattle.text.proofs.Puts.{wider}
use native.Mathlib.Omega.{arith}
use Rattle.text.proofs.reflist.put_error.Goals as goal

pub returns : goal.returns
unfolding error_line
returns c = rw (← c.from.ensures) (wider c.put_numbered.ensures (omega arith))
