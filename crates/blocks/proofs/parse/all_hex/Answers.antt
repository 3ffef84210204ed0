use mathlib.Core.Bool.{and-true, and_assoc}
use Rattle.names.proofs.Walks.{every_at, every_end}
use Rattle.blocks.specs.Content.{is_hex}
use native.Mathlib.Omega.{arith}
use Rattle.blocks.proofs.parse.all_hex.Goals as goal

pub loop-b-preserved : goal.loop-b-preserved
loop-b-preserved c = rw (c.loop-b.invariant, every_at _ _ c.loop-b-test.true is_hex, ← c.is_hex_digit-hex.ensures, and_assoc)

pub returns : goal.returns
returns c = rw (c.loop-b.invariant, every_end c.args.s.now c.loop-b.b-index (omega arith) is_hex, and-true)
