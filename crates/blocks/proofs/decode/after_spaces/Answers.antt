use mathlib.Core.Path.{◌≡◌}
use borrow.Author.Tests.{tests}
use Rattle.std.proofs.Common.{rules}
use Rattle.std.proofs.lemmas.Iterator.{IsFirst-from_position, YieldsList-from_slice}
use Rattle.names.proofs.Parts.{tail_part}
use Rattle.blocks.proofs.Lines.{spaces_found, drop_spaces}
use Rattle.blocks.proofs.decode.after_spaces.Goals as goal

pub returns : goal.returns
returns c =
    let first = IsFirst-from_position _ _ _ (λ b. b ≡ 32 → ⊥) (λ b. b ≡ 32) c.position.ensures.ran (YieldsList-from_slice _ c.iter.ensures.rest) (λ x q k. search (rules, tests)) (λ x q k. search (rules, tests)) in
    rw (tail_part, c.unwrap_or-n.ensures, ← spaces_found c.args.s.now c.position.result first) (drop_spaces c.args.s.now)
