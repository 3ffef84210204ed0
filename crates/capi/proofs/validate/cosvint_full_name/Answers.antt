use mathlib.Core.Path.{ap, sym, ◌∙◌}
use Rattle.names.specs.Means.{full_check}
use Rattle.names.proofs.Rows.{full_checked_is}
use Rattle.capi.specs.Report.{check_number, checked_number}
use Rattle.capi.proofs.Calls.{number_of}
use Rattle.capi.proofs.validate.cosvint_full_name.Goals as goal

pub returns : goal.returns
returns c =
    let name = c.args.name.now in
    c.number.ensures ∙ ap check_number c.check_full.ensures ∙ number_of (full_check name) name ∙ ap checked_number (sym (full_checked_is name))
