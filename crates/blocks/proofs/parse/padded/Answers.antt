use mathlib.Core.Path.{refl}
use Rattle.blocks.specs.Means.{id_width}
use Rattle.blocks.proofs.Ids.{padded_is}
use Rattle.blocks.proofs.parse.padded.Goals as goal

pub returns : goal.returns
returns c = padded_is id_width c.min-n.result c.args.s.now _ _ c.min-n.ensures c.copy_from_slice.ensures.after refl
