use mathlib.Core.Path.{◌≡◌}
use mathlib.Core.Bool.{◌&&◌}
use lib.ListN.{drop}
use Rattle.names.specs.Bytes.{every}
use Rattle.blocks.specs.Block.{is_zero}
use Rattle.blocks.proofs.block.all_zero.Given as goal

-- The invariant: whether every byte passed is 0, and the rest is still to be seen.
abbrev pub invariant-loop-b : goal.invariant-loop-b
invariant-loop-b l = every is_zero l.s ≡ (l.zero && every is_zero (drop l.b-index l.s))
