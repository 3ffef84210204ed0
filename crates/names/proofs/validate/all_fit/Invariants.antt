use mathlib.Core.Path.{◌≡◌}
use Prim.Native.Nat.{◌≤◌}
use lib.ListN.{drop, length}
use Rattle.names.specs.Bytes.{slash}
use Rattle.names.specs.Promises.{rules_after}
use Rattle.names.proofs.validate.all_fit.Given as goal

-- The invariant: the answer is that of what is left from i on, behind the byte before.
abbrev pub invariant-loop-i : goal.invariant-loop-i
invariant-loop-i l = (l.i ≤ length l.s) × (rules_after slash l.s ≡ rules_after l.p (drop l.i l.s))
