-- The words of refusals.
use mathlib.Core.Path.{◌≡◌, refl}
use Prim.Native.Nat.{ℕ, ◌≤◌}
use mathlib.Core.Bool.{Bool, true, false}
use mathlib.Core.List.{[]}
use native.Mathlib.Omega.{arith}
use borrow.Author.Tests.{leb-true, leb-false}
use lib.Dec.{leb}
use lib.ListN.{get_or-eq_default}
use Rattle.text.specs.Refshow.{all_words, words}

-- a number that is no refusal's has no words
pub no_words : (n : ℕ) → (n ≤ 15 → n ≤ 0) → words n ≡ []
unfolding words
no_words n h = go (leb n 15) refl
  where
    go : (b : Bool) → leb n 15 ≡ b → words n ≡ []
    go true e = let none-of-them : n ≡ 0 = omega (arith, h (leb-true n 15 e)) in rw none-of-them
    go false e = get_or-eq_default all_words [] (leb-false n 15 e)
