use mathlib.Core.Path.{◌≡◌}
use mathlib.Core.Bool.{true, false}
use borrow.Author.Tests.{tests}
use Rattle.std.proofs.Common.{rules}
use Rattle.std.proofs.lemmas.Iterator.{IsFirst-from_position, YieldsList-from_slice}
use Rattle.blocks.specs.Content.{ends_line}
use Rattle.blocks.proofs.Lines.{end_found, take_line}
use Rattle.blocks.proofs.decode.first_line.Goals as goal

pub returns : goal.returns
returns c =
    let first = IsFirst-from_position _ _ _ (λ b. ends_line b ≡ true) (λ b. ends_line b ≡ false) c.position.ensures.ran (YieldsList-from_slice _ c.iter.ensures.rest) (λ x q k. search (rules, tests)) (λ x q k. search (rules, tests)) in
    rw (c.unwrap_or-n.ensures, ← end_found c.args.s.now c.position.result first) (take_line c.args.s.now)
