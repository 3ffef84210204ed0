use mathlib.Core.Bool.{and-true, and_assoc}
use Rattle.names.proofs.Walks.{every_at, every_end}
use Rattle.blocks.specs.Block.{is_zero}
use native.Mathlib.Omega.{arith}
use Rattle.blocks.proofs.block.all_zero.Goals as goal

pub loop-b-preserved : goal.loop-b-preserved
loop-b-preserved c = rw (c.loop-b.invariant, every_at _ _ c.loop-b-test.true is_zero, and_assoc)

pub returns : goal.returns
returns c = rw (c.loop-b.invariant, every_end c.args.s.now c.loop-b.b-index (omega arith) is_zero, and-true)
