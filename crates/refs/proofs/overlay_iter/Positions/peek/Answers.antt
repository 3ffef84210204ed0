use Rattle.std.proofs.Common.{rules}
use Rattle.blocks.specs.Means.{region_of}
use Rattle.refs.proofs.ListWaits.{looked}
use Rattle.refs.proofs.overlay_iter.Positions.peek.Goals as goal

pub returns-clause-waits : goal.returns-clause-waits
returns-clause-waits c =
    rw (← c.region-blocks.ensures, ← c.at-from.ensures)
    (looked _ _ (region_of c.args.region) c.region-blocks.result.now c.args.e.now c.at-from.result
    (λ k w l h. search rules) c.find_map.ensures.runs.0 c.find_map.ensures.runs.1 (λ a o q k. search rules) c.find_map.result c.find_map.ensures.runs.2)
