use mathlib.Core.Path.{◌∙◌}
use Rattle.std.proofs.Common.{rules}
use Rattle.std.proofs.lemmas.Iterator.{YieldsList-from_slice}
use Rattle.std.proofs.lemmas.Iterator.Search.{all_from_yields_List}
use borrow.Author.Tests.{tests}
use Rattle.names.specs.Name.{is_pseudo, pseudo_byte}
use Rattle.names.proofs.Walks.{every_all}
use Rattle.names.proofs.name.is_pseudo_ref.Goals as goal

pub returns : goal.returns
unfolding is_pseudo
returns c =
    all_from_yields_List (λ b. pseudo_byte b) _ _ _ c.all.ensures.ran (YieldsList-from_slice c.args.s.now cc) (λ x b q k. search (rules, tests))
    ∙ every_all pseudo_byte c.args.s.now
