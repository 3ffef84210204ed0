use mathlib.Core.Path.{◌≡◌}
use Rattle.names.specs.Promises.{all_sure}
use Rattle.names.proofs.validate.eight_sure.Given as goal

-- The invariant: the answer so far is that of the first j.
abbrev pub invariant-loop-j : goal.invariant-loop-j
invariant-loop-j l = l.sure ≡ all_sure l.s l.i l.j
