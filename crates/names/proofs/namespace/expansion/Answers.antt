use mathlib.Core.Path.{refl, sym, ◌∙◌}
use Rattle.std.proofs.Common.{rules}
use Rattle.std.proofs.lemmas.Iterator.Splits.{YieldsList-from_slice_split}
use borrow.Author.Tests.{tests}
use Rattle.names.proofs.Expansions.{is_slash, joined, parts_next, parts_whole, part_refused}
use Rattle.names.proofs.Held.{content_fits, fits_made, pushed_there, pushed_not}
use Rattle.names.proofs.namespace.expansion.Goals as goal

pub loop-part-init : goal.loop-part-init
unfolding joined
loop-part-init c = (c.empty-name.ensures, rw c.empty-name.ensures refl)

pub loop-part-preserved : goal.loop-part-preserved
loop-part-preserved c =
    let p = c.push_parts in
    let there = sym (pushed_there p.new.self p.result _ (sym c.ok.ensures.value ∙ c.in_ok-ok.was)) in
    (parts_next c.loop-part.yielded c.in-Some.part c.loop-part.invariant.0 (there ∙ p.ensures), fits_made _ _ (there ∙ p.ensures))

pub returns-in_err-ok : goal.returns-in_err-ok
returns-in_err-ok c =
    let l = c.loop-part in
    let s = c.args.s.now in
    let p = c.push_parts in
    let none = sym (pushed_not p.new.self p.result (sym c.ok.ensures.value ∙ c.in_err-ok.was)) in
    rw c.from_residual.ensures
    (part_refused l.yielded l.part-iterator l.yielded_by s _ l.invariant.0 _ _ c.next.ensures.steps (YieldsList-from_slice_split _ is_slash s (cc) (cc) (cc) (λ x b q k. search (rules, tests))) c.in-Some.part c.in-Some.is (none ∙ p.ensures))

pub returns : goal.returns
returns c =
    let l = c.loop-part in
    let s = c.args.s.now in
    content_fits l.name _ l.invariant.1
    (parts_whole l.yielded l.part-iterator l.yielded_by s _ l.invariant.0 _ _ c.next.ensures.steps (YieldsList-from_slice_split _ is_slash s (cc) (cc) (cc) (λ x b q k. search (rules, tests))) c.in-None.is)
