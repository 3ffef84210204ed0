use mathlib.Core.Path.{◌≡◌, ◌∙◌}
use native.Mathlib.Numerals.{add-one}
use native.Mathlib.Omega.{arith}
use lib.Seq.{paste-suc}
use Rattle.output.proofs.Pastes.{roomy}
use Rattle.output.proofs.put.Goals as goal

pub loop-i-preserved : goal.loop-i-preserved
loop-i-preserved c =
    let loop = c.loop-i in
    let start = c.min-start in
    let n = c.min-n in
    rw (loop.invariant, add-one, ← paste-suc c.args.out.now start.result c.args.s.now loop.i 0 (omega (arith, c.loop-i-test.true, n.ensures)) (omega (arith, c.loop-i-test.true, n.ensures)))

pub returns : goal.returns
returns c =
    let loop = c.loop-i in
    let start = c.min-start in
    let n = c.min-n in
    let e : loop.i ≡ n.result = omega (arith, loop.auto.i-end, c.loop-i-test.false) in
    loop.invariant ∙ rw e (roomy c.args.out.now c.args.at c.args.s.now start.result n.result start.ensures n.ensures)
