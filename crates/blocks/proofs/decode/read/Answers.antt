use mathlib.Core.Path.{sym, ◌∙◌}
use Rattle.blocks.specs.Means.{id_width}
use Rattle.blocks.proofs.Contents.{id_bound}
use Rattle.blocks.proofs.decode.read.Goals as goal

pub slice_bounds-result-end : goal.slice_bounds-result-end
slice_bounds-result-end c = id_bound id_width c.args.s.now (sym c.is_id.ensures ∙ c.if-is_id.true)
