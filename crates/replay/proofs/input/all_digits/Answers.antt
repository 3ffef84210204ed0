use Rattle.std.proofs.Common.{refl, sym, ◌∙◌, ◌&&◌, rules, tests}
use Rattle.std.proofs.lemmas.Iterator.{YieldsList-from_slice}
use Rattle.std.proofs.lemmas.Iterator.Search.{all_from_yields_List}
use Rattle.std.proofs.lemmas.List.Recursion.{same_from_clauses}
use Rattle.std.specs.List.{list_all}
use Rattle.names.specs.Bytes.{every}
use Rattle.names.proofs.Walks.{every_none, every_more}
use Rattle.replay.specs.Input.{is_digit}
use Rattle.replay.proofs.input.all_digits.Goals as goal

pub returns : goal.returns
returns c =
    let s = c.args.s.now in
    all_from_yields_List is_digit _ _ _ c.all.ensures.ran (YieldsList-from_slice s cc) (λ x b q k. search (rules, tests))
    ∙ same_from_clauses (list_all is_digit) (every is_digit) (λ b r. is_digit b && r) (sym (every_none is_digit)) (λ _ _. refl) (every_more is_digit) s
