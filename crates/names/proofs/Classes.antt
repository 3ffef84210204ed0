-- The first slash, and what a category takes off a name.
use Rattle.std.specs.Prelude.{if◌then◌else◌, cond}
use Rattle.std.specs.List.{position, position_from}
use Rattle.std.proofs.lemmas.Iterator.Adapters.{position_from-zero}
use mathlib.Core.Path.{◌≡◌, refl, sym, ◌∙◌}
use Prim.Native.Nat.{ℕ, suc, ◌+◌, ◌-◌, ◌≤◌, ◌<◌}
use native.Mathlib.Omega.{arith}
use mathlib.Core.List.{[], ◌∷◌, ◌++◌}
use mathlib.Core.Bool.{Bool, true, false}
use Rattle.std.specs.Prelude.{Option, None, Some}
use Rattle.std.specs.Option.{option_map}
use lib.Dec.{eqb, lit≤}
use lib.ListN.{length, drop, length-drop}
use Rattle.names.specs.Bytes.{Bytes, bytes, slash, starts_with, every}
use Rattle.names.specs.Name.{is_pseudo}
use Rattle.names.specs.Category.{Category, Tag, LocalBranch, RemoteBranch, Note, Bisect, WorktreePrivate, Rewritten, PseudoRef, MainPseudoRef, MainRef, Class, prefix, classify_below, first_slash, classify_linked, without_prefix, without_refs, classify, off_in, named, category_and_short_name, short_name}
use Rattle.names.proofs.Tests.{if_case, none≢Some}
use Rattle.names.proofs.Prefix.{starts_both, starts_length}

-- ---- the tests of a category, first those below refs/

pub below_refs : (r : Bytes) → category_and_short_name (bytes "refs/" ++ r) ≡
    (if starts_with (bytes "tags/") r then Some (Tag, drop 5 r)
    else if starts_with (bytes "heads/") r then Some (LocalBranch, drop 6 r)
    else if starts_with (bytes "remotes/") r then Some (RemoteBranch, drop 8 r)
    else if starts_with (bytes "notes/") r then Some (Note, r)
    else if starts_with (bytes "bisect/") r then Some (Bisect, r)
    else if starts_with (bytes "worktree/") r then Some (WorktreePrivate, r)
    else if starts_with (bytes "rewritten/") r then Some (Rewritten, r)
    else None)
unfolding category_and_short_name classify starts_with is_pseudo every
below_refs r =
    go (starts_with (bytes "tags/") r) (starts_with (bytes "heads/") r) (starts_with (bytes "remotes/") r) (starts_with (bytes "notes/") r)
    (starts_with (bytes "bisect/") r) (starts_with (bytes "worktree/") r) (starts_with (bytes "rewritten/") r)
  where
    n : Class → Category × Bytes
    n k = named (bytes "refs/" ++ r) k

    go : (a b c d e f g : Bool)
        → option_map n (if a then without_prefix Tag else if b then without_prefix LocalBranch else if c then without_prefix RemoteBranch
        else if d then without_refs Note else if e then without_refs Bisect else if f then without_refs WorktreePrivate else if g then without_refs Rewritten else None)
        ≡ (if a then Some (Tag, drop 5 r) else if b then Some (LocalBranch, drop 6 r) else if c then Some (RemoteBranch, drop 8 r)
        else if d then Some (Note, r) else if e then Some (Bisect, r) else if f then Some (WorktreePrivate, r) else if g then Some (Rewritten, r) else None)
    go true b c d e f g = refl
    go false true c d e f g = refl
    go false false true d e f g = refl
    go false false false true e f g = refl
    go false false false false true f g = refl
    go false false false false false true g = refl
    go false false false false false false true = refl
    go false false false false false false false = refl

module _ (s : Bytes) (h : starts_with (bytes "refs/") s ≡ false) where
  not_below : (q : Bytes) → starts_with (bytes "refs/" ++ q) s ≡ false
  not_below q = rw (starts_both (bytes "refs/") q s, h)

  pub outside_refs : classify s ≡
      (if is_pseudo s then without_prefix PseudoRef
      else if starts_with (bytes "main-worktree/") s then classify_below MainRef MainPseudoRef 14 (drop 14 s)
      else if starts_with (bytes "worktrees/") s then classify_linked (drop 10 s) (first_slash (drop 10 s))
      else None)
  unfolding classify
  outside_refs =
      rw (
        not_below (bytes "tags/"),
        not_below (bytes "heads/"),
        not_below (bytes "remotes/"),
        not_below (bytes "notes/"),
        not_below (bytes "bisect/"),
        not_below (bytes "worktree/"),
        not_below (bytes "rewritten/"),
      )

-- ---- the first slash

-- a place counted from i on
abbrev pub from : ℕ → Option ℕ → Option ℕ
from i o = option_map (λ k. i + k) o

pub from_start : (o : Option ℕ) → from 0 o ≡ o
from_start None = refl
from_start (Some k) = let e : 0 + k ≡ k = omega arith in rw e

from_next : (i : ℕ) (o : Option ℕ) → from i (option_map (λ k. suc k) o) ≡ from (i + 1) o
from_next i None = refl
from_next i (Some k) = let e : i + suc k ≡ i + 1 + k = omega arith in rw e

slash_from : (s : Bytes) (i : ℕ) → position_from (λ b. eqb b slash) i s ≡ from i (first_slash s)
unfolding first_slash
slash_from [] i = refl
slash_from (b ∷ s) i = go (eqb b slash) (slash_from s (i + 1))
  where
    go : (t : Bool) → position_from (λ b. eqb b slash) (i + 1) s ≡ from (i + 1) (first_slash s)
        → cond t (Some i) (position_from (λ b. eqb b slash) (i + 1) s) ≡ from i (if t then Some 0 else option_map (λ k. suc k) (first_slash s))
    go true ih = let z : i + 0 ≡ i = omega arith in rw z
    go false ih = ih ∙ sym (from_next i (first_slash s))

-- as the library finds it
pub slash_found : (s : Bytes) → position (λ b. eqb b slash) s ≡ first_slash s
slash_found s = position_from-zero (λ b. eqb b slash) s ∙ slash_from s 0 ∙ from_start (first_slash s)

pub slash_in : (s : Bytes) (i : ℕ) → first_slash s ≡ Some i → i < length s
unfolding first_slash
slash_in [] i e = none≢Some e
slash_in (b ∷ s) i e = go (eqb b slash) e (first_slash s) refl (slash_in s)
  where
    go : (t : Bool) → (if t then Some 0 else option_map (λ k. suc k) (first_slash s)) ≡ Some i
        → (o : Option ℕ) → first_slash s ≡ o → ((j : ℕ) → first_slash s ≡ Some j → j < length s) → i < suc (length s)
    go true h o f ih = let z : 0 ≡ i = cc in omega arith
    go false h None f ih = none≢Some (rw f at h)
    go false h (Some j) f ih = let l = ih j f in let z : Some (suc j) ≡ Some i = rw f at h in let y : suc j ≡ i = cc in omega arith

-- a short name is no longer than the name
pub short_length : (s : Bytes) → length (short_name s) ≤ length s
unfolding short_name
short_length s = simp length-drop (omega arith)

-- ---- what is taken off is there

off_below : (s : Bytes) (ref pseudo : Category) (off : ℕ) (rest : Bytes) → off ≤ length s → off_in (classify_below ref pseudo off rest) ≤ length s
unfolding classify_below
off_below s ref pseudo off rest h =
    if_case (λ (o : Option Class). off_in o ≤ length s) (starts_with (bytes "refs/") rest) (λ _. h)
    (λ _. if_case (λ (o : Option Class). off_in o ≤ length s) (is_pseudo rest) (λ _. h) (λ _. omega arith))

off_linked : (s : Bytes) → 10 ≤ length s → (o : Option ℕ) → first_slash (drop 10 s) ≡ o → off_in (classify_linked (drop 10 s) o) ≤ length s
unfolding classify_linked
off_linked s h None e = omega arith
off_linked s h (Some i) e = off_below s _ _ _ _ (omega (arith, rw length-drop at (slash_in (drop 10 s) i e)))

-- a test that is met by a beginning
off_of : (s p : Bytes) (a b : Option Class) → off_in a ≤ length p → off_in b ≤ length s → off_in (if starts_with p s then a else b) ≤ length s
off_of s p a b h k = if_case (λ (o : Option Class). off_in o ≤ length s) (starts_with p s) (λ t. omega (arith, starts_length p s t)) (λ _. k)

pub off_within : (s : Bytes) → off_in (classify s) ≤ length s
unfolding classify
off_within s =
    off_of s (prefix Tag) _ _ (lit≤ tt)
    (off_of s (prefix LocalBranch) _ _ (lit≤ tt)
    (off_of s (prefix RemoteBranch) _ _ (lit≤ tt)
    (off_of s (prefix Note) _ _ (lit≤ tt)
    (off_of s (prefix Bisect) _ _ (lit≤ tt)
    (off_of s (prefix WorktreePrivate) _ _ (lit≤ tt)
    (off_of s (prefix Rewritten) _ _ (lit≤ tt)
    (if_case P (is_pseudo s) (λ _. omega arith) (λ _.
    if_case P (starts_with (bytes "main-worktree/") s) (λ t. off_below s _ _ _ _ (starts_length (bytes "main-worktree/") s t)) (λ _.
    if_case P (starts_with (bytes "worktrees/") s) (λ t. off_linked s (starts_length (bytes "worktrees/") s t) _ refl) (λ _. omega arith))))))))))
  where
    P : Option Class → Type 0
    P o = off_in o ≤ length s

-- so the short name tells how many bytes the category takes off
pub off_told : (s : Bytes) (k : Class) → classify s ≡ Some k → length s - length (named s k).1 ≡ k.off
off_told s k e = let h : k.off ≤ length s = rw e at (off_within s) in simp length-drop (omega (arith, h))
