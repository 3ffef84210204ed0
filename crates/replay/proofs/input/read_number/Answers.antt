use Rattle.std.proofs.Common.{arith, sym, ◌∙◌}
use Rattle.replay.specs.Input.{number_in}
use Rattle.replay.proofs.Decimals.{stops_at, steps_at, ends_at}
use Rattle.replay.proofs.input.read_number.Goals as goal

pub returns-in_err-value : goal.returns-in_err-value
unfolding number_in
returns-in_err-value c =
    let l = c.loop-b in
    let e = stops_at c.args.s.now l.b-index l.value (omega arith) (sym c.with_digit.ensures ∙ c.in_err-value.was) in
    rw (c.from_residual.ensures, ← c.is_empty.ensures, c.if-is_empty.false, l.invariant.so_far, e)

pub loop-b-preserved : goal.loop-b-preserved
loop-b-preserved c =
    let l = c.loop-b in
    let e = steps_at c.args.s.now l.b-index l.value c.in_ok-value.value (omega arith) (sym c.with_digit.ensures ∙ c.in_ok-value.was) in
    record { so_far = l.invariant.so_far ∙ e.0; fits = e.1 }

pub returns : goal.returns
unfolding number_in
returns c =
    let l = c.loop-b in
    rw (← c.is_empty.ensures, c.if-is_empty.false, l.invariant.so_far, ends_at c.args.s.now l.b-index l.value (omega arith) l.invariant.fits)
