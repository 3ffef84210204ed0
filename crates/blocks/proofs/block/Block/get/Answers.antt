use Rattle.blocks.proofs.Chunks.{got}
use Rattle.blocks.proofs.block.Block.get.Goals as goal

pub returns : goal.returns
returns c = got c.args.s.now _ c.blocks-2.ensures.value c.args.k _ c.in_ok-bytes.ensures.lookup.3
