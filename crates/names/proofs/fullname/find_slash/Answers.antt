use mathlib.Core.Path.{◌∙◌}
use Rattle.std.proofs.Common.{rules}
use Rattle.std.proofs.lemmas.Iterator.{YieldsList-from_slice}
use Rattle.std.proofs.lemmas.Iterator.Search.{position_from_yields_List}
use borrow.Author.Tests.{tests}
use lib.Dec.{eqb}
use Rattle.names.specs.Bytes.{slash}
use Rattle.names.proofs.Classes.{slash_found}
use Rattle.names.proofs.fullname.find_slash.Goals as goal

pub returns : goal.returns
returns c =
    position_from_yields_List (λ b. eqb b slash) _ _ _ c.position.ensures.ran (YieldsList-from_slice c.args.s.now cc) (λ x b q k. search (rules, tests))
    ∙ slash_found c.args.s.now
