use mathlib.Core.Path.{ap, sym, ◌∙◌}
use Rattle.std.specs.Prelude.{None, Some}
use Rattle.names.specs.Namespace.{expand, names_check}
use Rattle.names.proofs.Rows.{expanded_is}
use Rattle.capi.specs.Report.{check_number, checked_number}
use Rattle.capi.proofs.Calls.{number_of}
use Rattle.capi.proofs.validate.cosvint_namespace.Goals as goal

pub returns : goal.returns
returns c =
    let s = c.args.namespace.now in
    c.number.ensures ∙ ap check_number c.check_namespace.ensures ∙ number_of (names_check None (Some s)) (expand s) ∙ ap checked_number (sym (expanded_is s))
