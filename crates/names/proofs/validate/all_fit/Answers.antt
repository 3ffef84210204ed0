use mathlib.Core.Path.{◌∙◌}
use native.Mathlib.Omega.{arith}
use Rattle.names.proofs.Parts.{tail_part}
use Rattle.names.proofs.ByteRules.{rules_at, rules_end, step_fits}
use Rattle.names.proofs.validate.all_fit.Goals as goal

pub returns-then-not-fits_after : goal.returns-then-not-fits_after
returns-then-not-fits_after c =
    let s = c.args.s.now in
    let l = c.loop-i in
    let f = c.fits_after in
    rw (l.invariant.1, rules_at l.p s l.i (omega arith), ← tail_part s l.i, ← f.ensures, c.if-not-fits_after.true)

pub loop-i-preserved : goal.loop-i-preserved
loop-i-preserved c =
    let s = c.args.s.now in
    let l = c.loop-i in
    let f = c.fits_after in
    (omega arith, l.invariant.1 ∙ step_fits l.p s l.i (omega arith) f.result f.ensures c.if-not-fits_after.false)

pub returns : goal.returns
returns c =
    let l = c.loop-i in
    rw (l.invariant.1, rules_end l.p c.args.s.now l.i (omega arith))
