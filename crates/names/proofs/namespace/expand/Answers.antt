use Rattle.std.specs.Prelude.{◌≡◌, Some, None}
use Rattle.std.proofs.Common.{rules}
use Rattle.names.specs.Means.{content, if_fits}
use Rattle.names.specs.Namespace.{expand}
use Rattle.names.proofs.Held.{fits_is, fits_there, fits_not}
use Rattle.names.proofs.Rows.{expanded_is, namespace_rows}
use Rattle.names.proofs.namespace.expand.Goals as goal

pub returns-in_err-check_partial : goal.returns-in_err-check_partial
returns-in_err-check_partial c =
    let k = c.in_err-check_partial.ensures in
    rw (expanded_is c.args.s.now, namespace_rows c.args.s.now, ← k) (search rules)

pub returns-in_err-ok_or : goal.returns-in_err-ok_or
returns-in_err-ok_or c =
    let s = c.args.s.now in
    let none : None ≡ if_fits (expand s) = rw c.in_err-ok_or.ensures.ok_part at c.expansion.ensures in
    let why = rw c.in_err-ok_or.ensures.ok_part at c.in_err-ok_or.ensures.value in
    rw (expanded_is s, namespace_rows s, ← c.in_ok-check_partial.ensures, fits_not (expand s) none) (search rules)

pub returns : goal.returns
returns c =
    let s = c.args.s.now in
    let there : Some (content c.in_ok-ok_or.field-0) ≡ if_fits (expand s) = rw c.in_ok-ok_or.ensures.ok_part at c.expansion.ensures in
    rw (
      expanded_is s,
      namespace_rows s,
      ← c.in_ok-check_partial.ensures,
      fits_there (expand s) _ there,
      fits_is (expand s) _ there,
    )
