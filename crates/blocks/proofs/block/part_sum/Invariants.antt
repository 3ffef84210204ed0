use mathlib.Core.Path.{◌≡◌}
use Prim.Native.Nat.{◌≤◌, ◌*◌}
use lib.ListN.{take}
use Rattle.blocks.specs.Block.{weighted}
use Rattle.blocks.proofs.block.part_sum.Given as goal

-- The invariant: the sum of the first i bytes.
abbrev pub invariant-loop-i : goal.invariant-loop-i
invariant-loop-i l = (l.sum ≤ 129795 * l.i) × (l.sum ≡ weighted l.k (take l.i l.s))
