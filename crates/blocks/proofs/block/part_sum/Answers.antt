use mathlib.Core.Path.{◌≡◌, sym, ap₂, ◌∙◌}
use Prim.Native.Nat.{◌+◌, ◌*◌}
use native.Mathlib.Nat.{mod-eq_of_lt}
use Rattle.blocks.proofs.Sums.{weighted_more, weighted_none, product_le}
use native.Mathlib.Omega.{arith}
use Rattle.blocks.proofs.block.part_sum.Goals as goal

pub loop-i-init : goal.loop-i-init
loop-i-init c = (omega arith, sym (weighted_none c.args.k c.args.s.now))

pub loop-i-preserved : goal.loop-i-preserved
loop-i-preserved c =
    let start = c.args in
    let i = c.loop-i.i in
    let x = c.type_inv.s i in
    let weight = c.from in
    let h = product_le weight.result c.from-in-loop-i.result (omega arith) (omega arith) in
    let w : weight.result ≡ start.k + i + 1 = weight.ensures ∙ mod-eq_of_lt (omega arith) in
    let e = ap₂ ◌*◌ w c.from-in-loop-i.ensures in
    let more = weighted_more start.k start.s.now i (omega arith) in
    (omega arith, omega arith)
