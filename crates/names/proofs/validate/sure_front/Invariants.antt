use mathlib.Core.Path.{◌≡◌}
use Prim.Native.Nat.{◌+◌, ◌≤◌}
use lib.ListN.{drop, get_or, length}
use Rattle.names.specs.Bytes.{slash}
use Rattle.names.specs.Promises.{rules_after}
use Rattle.names.proofs.validate.sure_front.Given as goal

-- The invariant: the answer is that of what is left behind place i.
abbrev pub invariant-loop-i : goal.invariant-loop-i
invariant-loop-i l = record {
  next : l.front ≡ l.i + 1;
  within : l.front ≤ length l.s;
  same : rules_after slash l.s ≡ rules_after (get_or l.s l.i 0) (drop (l.i + 1) l.s);
}
