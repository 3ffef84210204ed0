-- Numbers, digit by digit.
use Rattle.std.specs.Prelude.{if◌then◌else◌}
use mathlib.Core.Path.{◌≡◌, refl, sym, ◌∙◌}
use mathlib.Core.Bool.{Bool, true, false, ◌&&◌}
use mathlib.Core.List.{[], ◌∷◌}
use Rattle.std.specs.Prelude.{Option, None, Some}
use Rattle.std.specs.Option.{SomeIff}
use Prim.Native.Nat.{ℕ, suc, ◌+◌, ◌*◌, ◌-◌, ◌^◌, ◌≤◌, ◌<◌}
use native.Mathlib.Omega.{arith}
use borrow.Author.Tests.{le-leb, lt-leb, leb-false, leb-true}
use native.Mathlib.Numerals.{add-one}
use lib.Dec.{leb}
use lib.ListN.{length, drop, get_or, drop_of_length-le}
use lib.Seq.{drop-cons}
use Rattle.std.specs.Char.{is_ascii_digit}
use Rattle.names.specs.Bytes.{Bytes, every}
use Rattle.names.proofs.Walks.{every_none, every_more}
use Rattle.replay.specs.Input.{largest, is_decimal, digits_behind, number_behind}

-- a digit more makes no number smaller
grows : (s : Bytes) (v : ℕ) → v ≤ digits_behind v s
unfolding digits_behind
grows [] v = omega arith
grows (b ∷ s) v = let h = grows s (v * 10 + (b - 48)) in omega arith

-- `b.is_ascii_digit()`
pub decimal : (b : ℕ) → is_ascii_digit b ≡ is_decimal b
unfolding is_decimal
decimal b = refl

module _ (v b : ℕ) (s : Bytes) where
  pub no_digit : is_decimal b ≡ false → number_behind v (b ∷ s) ≡ None
  unfolding number_behind
  no_digit h = rw (every_more is_decimal b s, h)

  pub too_large : largest < v * 10 + (b - 48) → number_behind v (b ∷ s) ≡ None
  unfolding number_behind digits_behind
  too_large h = rw (lt-leb (digits_behind (v * 10 + (b - 48)) s) largest l) (falls (every is_decimal (b ∷ s)))
    where
      l : largest < digits_behind (v * 10 + (b - 48)) s
      l = let g = grows s (v * 10 + (b - 48)) in omega arith

      falls : (t : Bool) → (if t && false then Some (digits_behind (v * 10 + (b - 48)) s) else None) ≡ None
      falls true = refl
      falls false = refl

  pub goes_on : is_decimal b ≡ true → number_behind v (b ∷ s) ≡ number_behind (v * 10 + (b - 48)) s
  unfolding number_behind digits_behind
  goes_on h = rw (every_more is_decimal b s, h)

-- no digit behind v
pub nothing_behind : (v : ℕ) → v ≤ largest → number_behind v [] ≡ Some v
unfolding number_behind digits_behind
nothing_behind v h = rw (every_none is_decimal, le-leb v largest h)

-- what `v * 10 + d`, checked, answers for a digit
pub checked : (v b : ℕ) (o : Option ℕ) → is_decimal b ≡ true → SomeIff o (v * 10 + (b - 48) < 2 ^ 64) (v * 10 + (b - 48)) → o ≡ number_behind v (b ∷ [])
checked v b None e h = sym (too_large v b [] (omega (arith, h)))
checked v b (Some w) e h = rw h.1 (sym (goes_on v b [] e ∙ nothing_behind (v * 10 + (b - 48)) (omega (arith, h.0))))

module _ (v b : ℕ) (s : Bytes) where
  -- what one digit says holds for all that follow
  pub stops : number_behind v (b ∷ []) ≡ None → number_behind v (b ∷ s) ≡ None
  stops h = go (is_decimal b) refl (leb (v * 10 + (b - 48)) largest) refl
    where
      go : (d : Bool) → is_decimal b ≡ d → (l : Bool) → leb (v * 10 + (b - 48)) largest ≡ l → number_behind v (b ∷ s) ≡ None
      go false e l f = no_digit v b s e
      go true e false f = too_large v b s (leb-false _ _ f)
      go true e true f =
          let n = nothing_behind (v * 10 + (b - 48)) (leb-true _ _ f) in
          let o = goes_on v b [] e in
          cc

  pub steps : (w : ℕ) → number_behind v (b ∷ []) ≡ Some w → (number_behind v (b ∷ s) ≡ number_behind w s) × (w ≤ largest)
  steps w h = go (is_decimal b) refl (leb (v * 10 + (b - 48)) largest) refl
    where
      go : (d : Bool) → is_decimal b ≡ d → (l : Bool) → leb (v * 10 + (b - 48)) largest ≡ l → (number_behind v (b ∷ s) ≡ number_behind w s) × (w ≤ largest)
      go false e l f = let n = no_digit v b [] e in absurd (let z : ◌≡◌ {A = ℕ} 0 1 = cc in omega arith)
      go true e false f = let n = too_large v b [] (leb-false _ _ f) in absurd (let z : ◌≡◌ {A = ℕ} 0 1 = cc in omega arith)
      go true e true f =
          let n = nothing_behind (v * 10 + (b - 48)) (leb-true _ _ f) in
          let o = goes_on v b [] e in
          let x : v * 10 + (b - 48) ≡ w = cc in
          (rw (← x) (goes_on v b s e), rw (← x) (leb-true _ _ f))

-- ---- in a field, at place i

module _ (s : Bytes) (i v : ℕ) where
  pub stops_at : i < length s → number_behind v (get_or s i 0 ∷ []) ≡ None → number_behind v (drop i s) ≡ None
  stops_at h e = rw (drop-cons s i 0 h) (stops v (get_or s i 0) (drop (suc i) s) e)

  pub steps_at : (w : ℕ) → i < length s → number_behind v (get_or s i 0 ∷ []) ≡ Some w
      → (number_behind v (drop i s) ≡ number_behind w (drop (i + 1) s)) × (w ≤ largest)
  steps_at w h e = rw (add-one i, drop-cons s i 0 h) (steps v (get_or s i 0) (drop (suc i) s) w e)

  pub ends_at : length s ≤ i → v ≤ largest → number_behind v (drop i s) ≡ Some v
  ends_at h l = rw (drop_of_length-le s h) (nothing_behind v l)
