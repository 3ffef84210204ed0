-- A byte that is one of a match's numbers, or none of them. The numbers come sorted, arm by arm.
use mathlib.Core.Path.{◌≡◌, refl}
use Prim.Native.Nat.{ℕ}
use mathlib.Core.List.{[], ◌∷◌, ◌++◌, append-nil}
use mathlib.Core.Bool.{Bool, true, false, ◌&&◌, ◌||◌, false≢true, or-true}
use mathlib.Core.Logic.{inl, inr, ⊎_elim}
use types.Run.{OneOf}
use lib.Dec.{eqb}
use borrow.Author.Tests.{eq-eqb, ne_eqb, eqb-true}
use Rattle.names.specs.Bytes.{Bytes, starts_with, contains, every}
use Rattle.std.proofs.lemmas.Bool.{false_from_ne_true}
use Rattle.names.proofs.Tests.{and_left, and_right, not_both}

module _ (b : ℕ) where
  one_of : (ks : Bytes) → OneOf ks b → contains (b ∷ []) ks ≡ true
  unfolding starts_with contains
  one_of [] h = absurd h
  one_of (k ∷ []) h = rw (eq-eqb b k h)
  one_of (k ∷ j ∷ ks) h = ⊎_elim (λ e. rw (eq-eqb b k e)) (λ l. rw (one_of (j ∷ ks) l, or-true)) h

  none_of : (ks ms : Bytes) → (OneOf ks b → ⊥) → contains (b ∷ []) ms ≡ false → contains (b ∷ []) (ks ++ ms) ≡ false
  unfolding starts_with contains
  none_of [] ms h f = f
  none_of (k ∷ []) ms h f = rw (ne_eqb b k h) f
  none_of (k ∷ j ∷ ks) ms h f = rw (ne_eqb b k (λ e. h (inl e))) (none_of (j ∷ ks) ms (λ l. h (inr l)) f)

  -- all of ks are in l
  abbrev All-in : Bytes → Bytes → Type 0
  All-in ks l = every (λ k. contains (k ∷ []) l) ks ≡ true

  inside : (ks l : Bytes) → All-in ks l → contains (b ∷ []) ks ≡ true → contains (b ∷ []) l ≡ true
  unfolding starts_with contains every
  inside [] l a h = absurd (false≢true h)
  inside (k ∷ ks) l a h = go (eqb b k) refl h (inside ks l (and_right (contains (k ∷ []) l) _ a))
    where
      go : (t : Bool) → eqb b k ≡ t → (t && true || contains (b ∷ []) ks) ≡ true → (contains (b ∷ []) ks ≡ true → contains (b ∷ []) l ≡ true) → contains (b ∷ []) l ≡ true
      go true e h' ih = rw (eqb-true b k e) (and_left (contains (k ∷ []) l) _ a)
      go false e h' ih = ih h'

  pub listed : (ks l : Bytes) → All-in ks l → OneOf ks b → contains (b ∷ []) l ≡ true
  listed ks l a h = inside ks l a (one_of ks h)

  -- none of two arms' numbers, which have all of l
  pub unlisted : (ks ms l : Bytes) → All-in l (ks ++ ms) → (OneOf ks b → ⊥) → (OneOf ms b → ⊥) → contains (b ∷ []) l ≡ false
  unfolding starts_with contains
  unlisted ks ms l a h g =
      false_from_ne_true (contains (b ∷ []) l) (λ t. not_both (inside l (ks ++ ms) a t) (none_of ks ms h (rw append-nil at (none_of ms [] g refl))))
