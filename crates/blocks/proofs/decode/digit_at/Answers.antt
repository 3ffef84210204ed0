use Rattle.std.proofs.Common.{rules}
use Rattle.blocks.proofs.Contents.{digit_got}
use Rattle.blocks.proofs.decode.digit_at.Goals as goal

pub returns : goal.returns
returns c = digit_got c.args.s.now c.args.i c.get.result c.is_some_and.result c.get.ensures.lookup.3 c.is_some_and.ensures (λ x q. search rules)
