-- The digits that std writes are those that counting up gives.
use Rattle.std.specs.Prelude.{if◌then◌else◌}
use mathlib.Core.Path.{◌≡◌, refl, sym, ◌∙◌}
use Prim.Native.Nat.{ℕ, zero, suc, ◌+◌, ◌/◌, ◌%◌, ◌^◌, ◌≤◌, ◌<◌}
use mathlib.Core.Bool.{Bool, true, false}
use mathlib.Core.List.{[], ◌∷◌, reverse}
use native.Mathlib.Omega.{arith}
use borrow.Author.Tests.{leb-true, leb-false, eqb-true, eqb-false, eq-eqb, ne_eqb}
use lib.Dec.{eqb, leb}
use Rattle.std.proofs.lemmas.Fmt.{decimal_by_steps}
use Rattle.std.proofs.lemmas.List.{reverse-append}
use Rattle.std.specs.Fmt as fmt
use Rattle.names.specs.Bytes.{Bytes}
use Rattle.text.specs.Text.{zero_digit, nine_digit, one_more, numeral, decimal}

-- one more of a numeral whose last digit is d
more : (d : ℕ) (l : Bytes) → one_more (d ∷ l) ≡ (if eqb d nine_digit then zero_digit ∷ one_more l else suc d ∷ l)
unfolding one_more
more d l = refl

next : (n : ℕ) → numeral (suc n) ≡ one_more (numeral n)
unfolding numeral
next n = refl

one_digit : (n : ℕ) → n < 10 → numeral n ≡ (48 + n) ∷ []
unfolding numeral
one_digit zero h = refl
one_digit (suc n) h =
    let up : 48 + suc n ≡ suc (48 + n) = omega arith in
    next n ∙ rw (one_digit n (omega arith), more (48 + n) [], ne_eqb (48 + n) nine_digit (λ e. omega arith), up)

nine_to_ten : one_more (numeral 9) ≡ (48 + 10 % 10) ∷ numeral (10 / 10)
unfolding numeral one_more
nine_to_ten = refl

-- the last digit, and the numeral of what stands before it
last_digit : (n : ℕ) → 10 ≤ n → numeral n ≡ (48 + n % 10) ∷ numeral (n / 10)
last_digit zero h = absurd (omega arith)
last_digit (suc n) h = next n ∙ by (leb 10 n) refl (λ l. last_digit n l)
  where
    -- a digit that is not nine goes up, nine carries
    grows : (c : Bool) → eqb (n % 10) 9 ≡ c → numeral n ≡ (48 + n % 10) ∷ numeral (n / 10) → one_more (numeral n) ≡ (48 + suc n % 10) ∷ numeral (suc n / 10)
    grows true e ih =
        let nine : n % 10 ≡ 9 = eqb-true (n % 10) 9 e in
        let tens : suc n / 10 ≡ suc (n / 10) = omega arith in
        let last : 48 + suc n % 10 ≡ 48 = omega arith in
        rw (ih, more (48 + n % 10) (numeral (n / 10)), eq-eqb (48 + n % 10) nine_digit (omega arith), tens, last, next (n / 10))
    grows false e ih =
        let other : n % 10 ≡ 9 → ⊥ = eqb-false (n % 10) 9 e in
        let tens : suc n / 10 ≡ n / 10 = omega arith in
        let last : 48 + suc n % 10 ≡ suc (48 + n % 10) = omega arith in
        rw (ih, more (48 + n % 10) (numeral (n / 10)), ne_eqb (48 + n % 10) nine_digit (λ e. omega arith), tens, last)

    by : (b : Bool) → leb 10 n ≡ b → (10 ≤ n → numeral n ≡ (48 + n % 10) ∷ numeral (n / 10)) → one_more (numeral n) ≡ (48 + suc n % 10) ∷ numeral (suc n / 10)
    by true e ih = grows (eqb (n % 10) 9) refl (ih (leb-true 10 n e))
    by false e ih =
        let nine : n ≡ 9 = omega (arith, leb-false 10 n e) in
        rw nine nine_to_ten

pub decimal_is : (n : ℕ) → n < 2 ^ 64 → fmt.decimal n ≡ decimal n
unfolding decimal
decimal_is n h =
    decimal_by_steps
    (λ m ds. ds ≡ reverse (numeral m))
    (λ m h. rw (one_digit m h))
    (λ m ds h e. rw (last_digit m h, e) (sym (reverse-append ((48 + m % 10) ∷ []) (numeral (m / 10)))))
    n
    h
