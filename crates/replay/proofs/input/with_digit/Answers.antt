use Rattle.std.proofs.Common.{[], arith, sym, ◌∙◌}
use Rattle.replay.proofs.Decimals.{decimal, no_digit, too_large, checked}
use Rattle.replay.proofs.input.with_digit.Goals as goal

pub returns-then-not-is_ascii_digit : goal.returns-then-not-is_ascii_digit
returns-then-not-is_ascii_digit c =
    let a = c.args in
    sym (no_digit a.value a.b [] (sym (decimal a.b) ∙ sym c.is_ascii_digit.ensures.value ∙ c.if-not-is_ascii_digit.true))

pub returns-in_err-checked_mul : goal.returns-in_err-checked_mul
returns-in_err-checked_mul c =
    c.from_residual.ensures ∙ sym (too_large c.args.value c.args.b [] (omega (arith, c.in_err-checked_mul.ensures)))

pub returns : goal.returns
returns c =
    let a = c.args in
    let e = c.in_ok-checked_mul.ensures in
    checked a.value a.b _ (sym (decimal a.b) ∙ sym c.is_ascii_digit.ensures.value ∙ c.if-not-is_ascii_digit.false) (rw (e.1, c.from.ensures) at c.checked_add.ensures)
