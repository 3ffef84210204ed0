use mathlib.Core.Path.{ap, ◌∙◌}
use native.Mathlib.Omega.{arith}
use Rattle.capi.specs.Report.{result_report, passed_report, fitness_report}
use Rattle.blocks.specs.Means.{snapshot_of}
use Rattle.capi.proofs.Calls.{too_short_given, report_given}
use Rattle.capi.proofs.search.cosvint_fitness.Goals as goal

pub returns-then-out-lt-REPORT_SIZE : goal.returns-then-out-lt-REPORT_SIZE
returns-then-out-lt-REPORT_SIZE c = too_short_given (fitness_report (snapshot_of c.args.s)) c.args.out.now c.if-out-lt-REPORT_SIZE.true

pub returns : goal.returns
returns c = report_given (fitness_report (snapshot_of c.args.s)) (omega (arith, c.if-out-lt-REPORT_SIZE.false)) (c.from.ensures ∙ ap (result_report passed_report) c.check_fit.ensures) c.put.ensures
