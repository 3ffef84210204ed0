use mathlib.Core.Path.{◌≡◌}
use mathlib.Core.Bool.{◌||◌}
use Rattle.names.specs.Bytes.{bytes, starts_with}
use Rattle.names.specs.Name.{looks_full}
use Rattle.names.proofs.partial.looks_like_full_name.Goals as goal
use Rattle.names.proofs.partial.looks_like_full_name.Goals.{then-starts_with, else-starts_with, then-starts_with-2, else-starts_with-2}

-- The tests are the definition's, one by one.
pub returns-then-starts_with-3 : goal.returns-then-starts_with-3
unfolding looks_full
returns-then-starts_with-3 c =
    let s = c.args.s.now in
    let two : c.if-starts_with.value ≡ (starts_with (bytes "refs/") s || starts_with (bytes "main-worktree/") s) =
    elim c.if-starts_with.branch [
      | then-starts_with w ↦ rw (w.value-is, ← c.starts_with.ensures, w.if-starts_with.true)
      | else-starts_with w ↦ rw (w.value-is, ← c.starts_with.ensures, w.if-starts_with.false) w.starts_with-else-starts_with.ensures
    ] in
    let three : c.if-starts_with-2.value ≡ (starts_with (bytes "refs/") s || starts_with (bytes "main-worktree/") s || starts_with (bytes "worktrees/") s) =
    elim c.if-starts_with-2.branch [
      | then-starts_with-2 w ↦ rw (w.value-is, ← two, w.if-starts_with-2.true)
      | else-starts_with-2 w ↦ rw (w.value-is, ← two, w.if-starts_with-2.false) w.starts_with-else-starts_with-2.ensures
    ] in
    rw (← three, c.if-starts_with-3.true)

pub returns-then-pseudo : goal.returns-then-pseudo
unfolding looks_full
returns-then-pseudo c =
    let s = c.args.s.now in
    let two : c.if-starts_with.value ≡ (starts_with (bytes "refs/") s || starts_with (bytes "main-worktree/") s) =
    elim c.if-starts_with.branch [
      | then-starts_with w ↦ rw (w.value-is, ← c.starts_with.ensures, w.if-starts_with.true)
      | else-starts_with w ↦ rw (w.value-is, ← c.starts_with.ensures, w.if-starts_with.false) w.starts_with-else-starts_with.ensures
    ] in
    let three : c.if-starts_with-2.value ≡ (starts_with (bytes "refs/") s || starts_with (bytes "main-worktree/") s || starts_with (bytes "worktrees/") s) =
    elim c.if-starts_with-2.branch [
      | then-starts_with-2 w ↦ rw (w.value-is, ← two, w.if-starts_with-2.true)
      | else-starts_with-2 w ↦ rw (w.value-is, ← two, w.if-starts_with-2.false) w.starts_with-else-starts_with-2.ensures
    ] in
    rw (← three, c.if-starts_with-3.false, c.if-pseudo.true) c.is_pseudo_ref.ensures

pub returns-else-pseudo : goal.returns-else-pseudo
unfolding looks_full
returns-else-pseudo c =
    let s = c.args.s.now in
    let two : c.if-starts_with.value ≡ (starts_with (bytes "refs/") s || starts_with (bytes "main-worktree/") s) =
    elim c.if-starts_with.branch [
      | then-starts_with w ↦ rw (w.value-is, ← c.starts_with.ensures, w.if-starts_with.true)
      | else-starts_with w ↦ rw (w.value-is, ← c.starts_with.ensures, w.if-starts_with.false) w.starts_with-else-starts_with.ensures
    ] in
    let three : c.if-starts_with-2.value ≡ (starts_with (bytes "refs/") s || starts_with (bytes "main-worktree/") s || starts_with (bytes "worktrees/") s) =
    elim c.if-starts_with-2.branch [
      | then-starts_with-2 w ↦ rw (w.value-is, ← two, w.if-starts_with-2.true)
      | else-starts_with-2 w ↦ rw (w.value-is, ← two, w.if-starts_with-2.false) w.starts_with-else-starts_with-2.ensures
    ] in
    rw (← three, c.if-starts_with-3.false, c.if-pseudo.false)
