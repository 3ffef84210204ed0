use mathlib.Core.Path.{◌∙◌}
use Rattle.std.proofs.Common.{rules}
use Rattle.std.proofs.lemmas.Iterator.{YieldsList-from_slice}
use Rattle.std.proofs.lemmas.Iterator.Search.{any_from_yields_List}
use Rattle.names.specs.Name.{directory}
use Rattle.names.specs.Means.{path}
use Rattle.blocks.specs.Means.{region_of, name_in}
use Rattle.blocks.proofs.Chunks.{chunks}
use Rattle.refs.proofs.Regions.{clash_found}
use Rattle.refs.proofs.fit.FitRegion.has_clash.Goals as goal

pub returns : goal.returns
returns c =
    let self = c.args.self in
    let p = path c.args.name in
    any_from_yields_List (λ b. directory (name_in b 0) p) _ _ _ c.any.ensures.ran (YieldsList-from_slice (chunks self.blocks.now) cc) (λ x b q k. search rules)
    ∙ clash_found (region_of self.region) p self.blocks.now self.flawless
