use mathlib.Core.Path.{◌≡◌, sym, ap, ◌∙◌}
use native.Mathlib.Omega.{arith}
use Prim.Native.Nat.{◌+◌}
use lib.ListN.{drop, length-take}
use lib.Seq.{drop-drop}
use Rattle.names.specs.Category.{classify_linked}
use Rattle.names.proofs.Classes.{slash_in}
use Rattle.names.proofs.Parts.{tail_part}
use Rattle.names.proofs.fullname.classify_linked.Goals as goal

pub returns-in_err-i : goal.returns-in_err-i
unfolding classify_linked
returns-in_err-i c = λ s e. rw (← c.find_slash.ensures, c.in_err-i.was, c.from_residual.ensures)

pub slice_bounds-name-end : goal.slice_bounds-name-end
slice_bounds-name-end c =
    let h = slash_in c.args.rest.now c.in_ok-i.i (sym c.find_slash.ensures ∙ c.in_ok-i.was) in
    rw length-take (omega arith)

pub overflow_add-i : goal.overflow_add-i
overflow_add-i c =
    let h = slash_in c.args.rest.now c.in_ok-i.i (sym c.find_slash.ensures ∙ c.in_ok-i.was) in
    omega arith

pub slice_bounds-classify_below-count : goal.slice_bounds-classify_below-count
slice_bounds-classify_below-count c =
    let h = slash_in c.args.rest.now c.in_ok-i.i (sym c.find_slash.ensures ∙ c.in_ok-i.was) in
    omega arith

pub slice_bounds-classify_below-start : goal.slice_bounds-classify_below-start
slice_bounds-classify_below-start c = slice_bounds-classify_below-count c

pub returns : goal.returns
unfolding classify_linked
returns c =
    let rest = c.args.rest.now in
    let i = c.in_ok-i.i in
    λ s e.
    let at : drop (10 + (i + 1)) s ≡ drop (i + 1) rest = sym (drop-drop (i + 1) 10 s) ∙ ap (drop (i + 1)) e in
    rw (← c.find_slash.ensures, c.in_ok-i.was, ← tail_part rest (i + 1))
    (c.classify_below.ensures s (10 + (i + 1)) (rw (tail_part rest (i + 1)) at))
