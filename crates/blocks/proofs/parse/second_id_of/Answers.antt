use mathlib.Core.Path.{refl}
use Rattle.blocks.specs.Means.{id_width}
use Rattle.blocks.proofs.Parts.{rest_got}
use Rattle.blocks.proofs.parse.second_id_of.Goals as goal

pub returns : goal.returns
returns c = rw (c.id_of.ensures, rest_got c.args.s.now id_width c.get.result _ c.unwrap_or.result refl c.get.ensures.lookup.0 c.unwrap_or.ensures)
