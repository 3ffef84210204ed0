use Rattle.std.proofs.Common.{◌∙◌, [], ◌∷◌, rules, tests}
use Rattle.std.proofs.lemmas.Iterator.{YieldsList-from_slice}
use Rattle.std.proofs.lemmas.Iterator.Search.{all_from_yields_List}
use Rattle.blocks.specs.Fitness.{whole, not_too_many}
use Rattle.blocks.specs.Snapshot.{sizes_within}
use Rattle.blocks.proofs.Sizes.{all_three}
use Rattle.blocks.proofs.snapshot.Sizes.check.Goals as goal

pub returns-then-not-all-2 : goal.returns-then-not-all-2
unfolding sizes_within
returns-then-not-all-2 c =
    let s = c.args.self in
    let sizes = s.worktree ∷ s.common ∷ s.packed ∷ [] in
    let wholes = all_from_yields_List whole _ _ _ c.all.ensures.ran (YieldsList-from_slice sizes cc) (λ x b q k. search (rules, tests)) ∙ all_three whole s.worktree s.common s.packed in
    let few = all_from_yields_List (not_too_many c.args.most) _ _ _ c.all-2.ensures.ran (YieldsList-from_slice sizes cc) (λ x b q k. search (rules, tests)) ∙ all_three (not_too_many c.args.most) s.worktree s.common s.packed in
    rw (← wholes, ← few, c.if-not-all.false, c.if-not-all-2.true)

pub returns : goal.returns
unfolding sizes_within
returns c =
    let s = c.args.self in
    let sizes = s.worktree ∷ s.common ∷ s.packed ∷ [] in
    let wholes = all_from_yields_List whole _ _ _ c.all.ensures.ran (YieldsList-from_slice sizes cc) (λ x b q k. search (rules, tests)) ∙ all_three whole s.worktree s.common s.packed in
    let few = all_from_yields_List (not_too_many c.args.most) _ _ _ c.all-2.ensures.ran (YieldsList-from_slice sizes cc) (λ x b q k. search (rules, tests)) ∙ all_three (not_too_many c.args.most) s.worktree s.common s.packed in
    rw (← wholes, ← few, c.if-not-all.false, c.if-not-all-2.false)
