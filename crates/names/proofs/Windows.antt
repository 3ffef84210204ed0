-- A part that is sought among the windows of a text.
use mathlib.Core.Path.{◌≡◌, refl, sym}
use mathlib.Core.Bool.{Bool, true, false, or-true, true≢false}
use mathlib.Core.List.{[], ◌∷◌}
use Prim.Native.Nat.{ℕ, zero, suc, ◌+◌, ◌≤◌, ◌<◌}
use native.Mathlib.Omega.{arith}
use lib.Dec.{eqb, leb}
use lib.ListN.{length, drop, get_or, length-drop}
use lib.Pointwise.{pointwise}
use lib.Seq.{drop-nil}
use denote.Param.Members.{Mut, Called}
use denote.Ref.{Bor}
use borrow.Author.Tests.{leb-true, leb-false}
use Rattle.std.specs.Prelude.{Option, None, Some, IfSome, IsSomeAnd, IsTrue}
use Rattle.std.specs.Bool.{MatchBool}
use Rattle.std.specs.Option.{option_map}
use Rattle.std.specs.List.{IsSubsliceAt}
use Rattle.std.specs.Iterator.Runs.{Run, AllItems, IsWindowsRun, CallKeepsClosure, AnyItemGives, AllItemsGive}
use Rattle.names.specs.Bytes.{Bytes, starts_with, contains}
use Rattle.names.proofs.Tests.{none≢Some}
use Rattle.names.proofs.Prefix.{starts_shorter}
use Rattle.names.proofs.Slices.{stripped}

contains_here : (p s : Bytes) (k : ℕ) → starts_with p (drop k s) ≡ true → contains p s ≡ true
unfolding contains
contains_here p [] k h = rw drop-nil at h
contains_here p (b ∷ s) zero h = rw h
contains_here p (b ∷ s) (suc k) h = rw (contains_here p s k h, or-true)

contains_nowhere : (p s : Bytes) → ((k : ℕ) → starts_with p (drop k s) ≡ false) → contains p s ≡ false
unfolding contains
contains_nowhere p [] h = h 0
contains_nowhere p (b ∷ s) h = rw (h 0, contains_nowhere p s (λ k. h (suc k)))

-- nothing stands everywhere
pub contains_nothing : (p s : Bytes) → length p ≡ 0 → contains p s ≡ true
unfolding starts_with
contains_nothing [] s h = contains_here [] s 0 refl
contains_nothing (a ∷ p) s h = absurd (omega arith)

pub positive : (p : Bytes) → eqb (length p) 0 ≡ false → 0 < length p
positive [] h = absurd (true≢false h)
positive (a ∷ p) h = omega arith

-- a run over the windows of s that are as long as p, and what a closure answers at them
module _ {S F : Type 0} {steps : S → Option (Bor Bytes) → S → Type 0} (p s : Bytes) (run : Run steps) (w : IsWindowsRun run (length p) s) (some : 0 < length p)
    (g : Mut F (Bor Bytes × Unit {0}) Bool) (f : F) (tells : (x : Bor Bytes) (b : Bool) → Called g f (x, tt) b f → b ≡ pointwise eqb x.now p) where
  item : (k : ℕ) (b : Bool) (o : Option (Bor Bytes)) → IsSomeAnd o (λ x. Called g f (x, tt) b f) → IfSome o (λ x. (length x.now ≡ length p) × (k + length p ≤ length s) × IsSubsliceAt (length p) s k x.now)
      → starts_with p (drop k s) ≡ b
  item k b None c h = absurd c
  item k b (Some x) c h = let e : b ≡ pointwise eqb x.now p = tells x b c in stripped p (drop k s) (sym (rw h.2.0 at e))

  some_item : {n : ℕ} (o : Option (Bor Bytes)) (P : Bor Bytes → Type 0) → option_map (λ x. get_or x.now 0 0) o ≡ Some n → IfSome o P → IsSomeAnd o P
  some_item None P h c = none≢Some h
  some_item (Some x) P h c = c

  within : (k : ℕ) → run.whole ≡ true → AllItems run (λ x. Called g f (x, tt) false f) → k + length p ≤ length s → starts_with p (drop k s) ≡ false
  within k a c h =
      let inside : k < run.len = omega (arith, w.1 a) in
      item k false (run.at k) (some_item (run.at k) (λ x. Called g f (x, tt) false f) (w.3 k 0 inside) (c k)) (w.2 k)

  beyond : (k : ℕ) → length s < k + length p → starts_with p (drop k s) ≡ false
  beyond k h = starts_shorter p (drop k s) (simp length-drop (omega arith))

  nowhere : run.whole ≡ true → AllItems run (λ x. Called g f (x, tt) false f) → (k : ℕ) → starts_with p (drop k s) ≡ false
  nowhere a c k = go (leb (k + length p) (length s)) refl
    where
      go : (t : Bool) → leb (k + length p) (length s) ≡ t → starts_with p (drop k s) ≡ false
      go true l = within k a c (leb-true (k + length p) (length s) l)
      go false l = beyond k (leb-false (k + length p) (length s) l)

  -- `s.windows(p.len()).any(..)`
  pub any_is : CallKeepsClosure g f → (r : Bool) → MatchBool r (AnyItemGives run g f true) (IsTrue run.whole × AllItemsGive run g f false) → r ≡ contains p s
  any_is k true m = let found = m k in sym (contains_here p s found.0 (item found.0 true (run.at found.0) found.2 (w.2 found.0)))
  any_is k false m = sym (contains_nowhere p s (nowhere m.0 (m.1 k)))
