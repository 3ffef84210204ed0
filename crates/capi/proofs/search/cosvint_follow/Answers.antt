use mathlib.Core.Path.{ap, ◌∙◌}
use native.Mathlib.Omega.{arith}
use Rattle.std.specs.Prelude.{option_copied}
use Rattle.blocks.specs.Means.{id_width, snapshot_of}
use Rattle.refs.specs.Follow.{follow}
use Rattle.capi.specs.Report.{result_report, followed_report}
use Rattle.capi.proofs.Calls.{too_short_given, report_given}
use Rattle.capi.proofs.search.cosvint_follow.Goals as goal

pub returns-then-out-lt-REPORT_SIZE : goal.returns-then-out-lt-REPORT_SIZE
returns-then-out-lt-REPORT_SIZE c =
    let args = c.args in
    too_short_given (result_report followed_report (follow id_width (snapshot_of args.s) args.name.now (option_copied args.namespace))) args.out.now c.if-out-lt-REPORT_SIZE.true

pub returns : goal.returns
returns c =
    let args = c.args in
    let call = follow id_width (snapshot_of args.s) args.name.now (option_copied args.namespace) in
    report_given (result_report followed_report call) (omega (arith, c.if-out-lt-REPORT_SIZE.false)) (c.from.ensures ∙ ap (result_report followed_report) c.follow.ensures) c.put.ensures
