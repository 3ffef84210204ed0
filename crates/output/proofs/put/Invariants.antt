-- The invariant: the buffer has the first i bytes of s pasted at `start`.
use mathlib.Core.Path.{◌≡◌}
use lib.Seq.{paste}
use Rattle.output.proofs.put.Given as goal

-- The invariant: the buffer has the first i bytes of s pasted at `start`.
abbrev pub invariant-loop-i : goal.invariant-loop-i
invariant-loop-i l = l.out ≡ paste l.initial.out l.start l.s l.i
