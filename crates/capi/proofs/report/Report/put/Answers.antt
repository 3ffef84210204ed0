use mathlib.Core.Path.{refl}
use Rattle.std.specs.Prelude.{None, Some}
use Rattle.capi.specs.Report.{report, unfit_report}
use Rattle.capi.specs.Promises.{shown}
use Rattle.blocks.specs.Means.{flaw_in}
use Rattle.capi.proofs.Records.{reported}
use Rattle.capi.proofs.report.Report.put.Goals as goal

pub returns-in-Number : goal.returns-in-Number
returns-in-Number c =
    let arm = c.in-Number in
    rw arm.is (reported (report arm.number None) arm.number refl c.put_place.ensures c.put_no_reference.ensures)

pub returns-in-Reference : goal.returns-in-Reference
returns-in-Reference c =
    let arm = c.in-Reference in
    rw arm.is (reported (report arm.number (Some (shown arm.reference))) arm.number refl c.put_place-in-Reference.ensures c.put.ensures)

pub returns-in-Unfit : goal.returns-in-Unfit
returns-in-Unfit c =
    let arm = c.in-Unfit in
    let number = c.from-number in
    rw arm.is
    (reported (unfit_report (flaw_in arm.flaw)) number.result number.ensures (rw c.region_number.ensures at c.put_place-in-Unfit.ensures) c.put_no_reference-in-Unfit.ensures)
