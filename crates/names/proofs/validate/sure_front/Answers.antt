use mathlib.Core.Path.{◌≡◌, refl, sym, ◌∙◌}
use native.Mathlib.Omega.{arith}
use Prim.Native.Nat.{◌+◌}
use Rattle.names.proofs.ByteRules.{before_next, first_plain, rules_sure}
use Rattle.names.proofs.validate.sure_front.Goals as goal

pub loop-i-init : goal.loop-i-init
loop-i-init c = record {
  next = refl;
  within = omega arith;
  same = first_plain c.args.s.now (omega arith) (sym c.is_plain.ensures ∙ c.if-not-is_plain.false);
}

pub returns-then-not-eight_sure : goal.returns-then-not-eight_sure
returns-then-not-eight_sure c =
    let l = c.loop-i.invariant in
    (l.within, rw (l.next, before_next) l.same)

pub loop-i-preserved : goal.loop-i-preserved
loop-i-preserved c =
    let l = c.loop-i in
    let s = c.args.s.now in
    record {
      next = omega arith;
      within = omega arith;
      same = l.invariant.same ∙ rules_sure s l.i 8 (omega arith) (sym c.eight_sure.ensures ∙ c.if-not-eight_sure.false);
    }

pub returns-else-not-eight_sure : goal.returns-else-not-eight_sure
returns-else-not-eight_sure c =
    let l = c.loop-i in
    let s = c.args.s.now in
    let n : l.i + 9 ≡ l.i + 8 + 1 = omega arith in
    (omega arith, rw (n, before_next) (l.invariant.same ∙ rules_sure s l.i 8 (omega arith) (sym c.eight_sure.ensures ∙ c.if-not-eight_sure.false)))
