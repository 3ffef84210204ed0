use mathlib.Core.Path.{◌∙◌}
use Rattle.blocks.specs.Means.{id_width, region_of}
use Rattle.blocks.proofs.Sound.{fit_taken}
use Rattle.refs.proofs.Whole.{entry_whole}
use Rattle.refs.proofs.fit.FitRegion.entry_of.Goals as goal

pub invariant_of-result : goal.invariant_of-result
invariant_of-result c =
    let self = c.args.self in
    record { within = entry_whole (region_of self.region) _ c.in_ok-k.k _ (c.in_ok-entry.ensures ∙ fit_taken id_width (region_of self.region) _ self.flawless c.in_ok-k.k) }

pub returns-in_err-entry : goal.returns-in_err-entry
returns-in_err-entry c =
    let self = c.args.self in
    rw c.from_residual-in_err-entry.ensures (c.in_err-entry.ensures ∙ fit_taken id_width (region_of self.region) _ self.flawless c.in_ok-k.k ∙ c.in_ok-k.ensures.block)

pub returns : goal.returns
returns c =
    let self = c.args.self in
    c.in_ok-entry.ensures ∙ fit_taken id_width (region_of self.region) _ self.flawless c.in_ok-k.k ∙ c.in_ok-k.ensures.block
