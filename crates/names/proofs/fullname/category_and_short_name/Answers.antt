use mathlib.Core.Path.{sym}
use Rattle.names.specs.Bytes.{bytes}
use Rattle.names.specs.Category.{category_and_short_name}
use Rattle.names.proofs.Classes.{outside_refs}
use Rattle.names.proofs.Slices.{stripped}
use Rattle.names.proofs.fullname.category_and_short_name.Goals as goal

pub returns-then-is_pseudo_ref : goal.returns-then-is_pseudo_ref
unfolding category_and_short_name
returns-then-is_pseudo_ref c =
    let s = c.args.s.now in
    rw (outside_refs s (stripped (bytes "refs/") s c.in_default.ensures.cases), ← c.is_pseudo_ref.ensures, c.if-is_pseudo_ref.true)

pub returns-in-Some-strip_prefix : goal.returns-in-Some-strip_prefix
unfolding category_and_short_name
returns-in-Some-strip_prefix c =
    let s = c.args.s.now in
    let main = c.in-Some-strip_prefix.ensures.cases in
    rw (
      outside_refs s (stripped (bytes "refs/") s c.in_default.ensures.cases),
      ← c.is_pseudo_ref.ensures,
      c.if-is_pseudo_ref.false,
      stripped (bytes "main-worktree/") s main.0,
      ← main.1,
    )
    (c.classify_below.ensures s 14 (sym main.1))

pub returns-in-Some-strip_prefix-2 : goal.returns-in-Some-strip_prefix-2
unfolding category_and_short_name
returns-in-Some-strip_prefix-2 c =
    let s = c.args.s.now in
    let linked = c.in-Some-strip_prefix-2.ensures.cases in
    rw (
      outside_refs s (stripped (bytes "refs/") s c.in_default.ensures.cases),
      ← c.is_pseudo_ref.ensures,
      c.if-is_pseudo_ref.false,
      stripped (bytes "main-worktree/") s c.in_default-strip_prefix.ensures.cases,
      stripped (bytes "worktrees/") s linked.0,
      ← linked.1,
    )
    (c.classify_linked.ensures s (sym linked.1))

pub returns : goal.returns
unfolding category_and_short_name
returns c =
    let s = c.args.s.now in
    rw (
      outside_refs s (stripped (bytes "refs/") s c.in_default.ensures.cases),
      ← c.is_pseudo_ref.ensures,
      c.if-is_pseudo_ref.false,
      stripped (bytes "main-worktree/") s c.in_default-strip_prefix.ensures.cases,
      stripped (bytes "worktrees/") s c.in_default-strip_prefix-2.ensures.cases,
    )
