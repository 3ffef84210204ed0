-- What private functions promise.
use Rattle.std.specs.Prelude.{◌≡◌, ℕ}
use Rattle.std.specs.Prelude.{None, Some}
use Rattle.std.specs.Option.{option_map}
use Rattle.names.specs.Bytes.{Bytes}
use Rattle.blocks.specs.Content.{Target, object, symbolic}
use Rattle.blocks.specs.Means.{flaw_in}
use Rattle.refs.specs.Answer.{Reference}
use Rattle.refs.specs.Run.{State}
use Rattle.refs.specs.Reasons.{reason_number}
use Rattle.refs.specs.Means.{turned_back, state_at}
use Rattle.refs.specs.declared.check.CallError.{CallError}
use Rattle.refs.specs.declared.find.FindError.{FindError}
use Rattle.refs.specs.declared.find.FindError.TheVariants.{Call, Entry}
use Rattle.output.specs.Pasted.{pasted}
use Rattle.capi.specs.declared.report.Aim.{Aim}
use Rattle.capi.specs.declared.report.Aim.TheVariants.{Object, Symbolic}
use Rattle.capi.specs.declared.report.Shown.{Shown}
use Rattle.capi.specs.declared.report.Report as code
use Rattle.capi.specs.declared.report.Report.TheVariants as reported
use Rattle.capi.specs.declared.listing.State as listing
use Rattle.capi.specs.Report.{Report, report, unfit_report, result_report, passed_report}
use Rattle.capi.specs.Layout.{report_bytes}

-- s was written over a buffer from a position on
pub record Wrote (before : Bytes) (at : ℕ) (s after : Bytes) : Type 0 where
  pub bytes : after ≡ pasted before at s

-- a report was written at the front, and its number is answered
pub record Reported (before : Bytes) (r : Report) (after : Bytes) (n : ℕ) : Type 0 where
  pub bytes : Wrote before 0 (report_bytes r) after
  pub number : n ≡ r.number

-- ---- what is reported

-- a target: its id, or its lent name
abbrev pub aim_of : Aim → Target
aim_of (Object id) = object id.digits
aim_of (Symbolic name) = symbolic name.now

-- a reference
abbrev pub shown : Shown → Reference
shown r = record { name = r.name.now; target = aim_of r.target; peeled = option_map (λ i. i.digits) r.peeled }

-- a number, by itself or with a reference; or 6 to 8 with region and block
abbrev pub report_of : code.Report → Report
report_of (reported.Number k) = report k None
report_of (reported.Reference k r) = report k (Some (shown r))
report_of (reported.Unfit flaw) = unfit_report (flaw_in flaw)

-- the report of a check that turned a call away
abbrev pub turned_report : CallError → Report
turned_report e = result_report passed_report (turned_back e)

-- the same, or of an entry that is refused
abbrev pub refused_report : FindError → Report
refused_report (Call e) = turned_report e
refused_report (Entry why) = report (reason_number why) None

-- ---- a listing's state

-- what the struct holds
abbrev pub state_of : listing.State → State
state_of s = state_at s.expansion.now s.cursor
