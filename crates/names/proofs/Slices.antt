-- What std's methods of slices answer, in the words of specs/.
use mathlib.Core.Path.{◌≡◌, refl, sym, ap, ap₂, ◌∙◌}
use mathlib.Core.Bool.{Bool, true, false, ◌&&◌}
use mathlib.Core.List.{[], ◌∷◌}
use Prim.Native.Nat.{ℕ, ◌+◌, ◌-◌, ◌≤◌, ◌<◌, compare, Ordering}
use native.Mathlib.Omega.{arith}
use lib.Dec.{compare_is_eq, eqb, leb}
use lib.ListN.{length, take, drop}
use denote.Ref.{Bor}
use borrow.Author.Tests.{leb-true, leb-false, lt-ltb, le-ltb, ne_eqb, eq-eqb}
use Rattle.std.specs.Prelude.{Option, None, Some, MatchOption}
use Rattle.std.specs.Option.{unwrap_or}
use Rattle.std.specs.Cmp.Lexicographic.{pointwise, slice_cmp}
use Rattle.std.specs.Ordering.{nat_cmp, ordering_then}
use Rattle.std.specs.declared.cmp.Ordering as answer
use Rattle.std.specs.declared.cmp.Ordering.TheVariants.{Less, Equal, Greater}
use Rattle.names.specs.Bytes.{Bytes, first_told, order, same, starts_with, ends_with, strip}
use Rattle.names.specs.Means.{ordering}
use Rattle.names.proofs.Orders.{eqb_comm, lt→<, compare_eq, compare_flip, flip, same_comm, same_length}
use Rattle.names.proofs.Prefix.{ends_at, ends_shorter}

-- `s.starts_with(p)`
pub starts_is : (p s : Bytes) → pointwise eqb p (take (length p) s) ≡ starts_with p s
unfolding starts_with
starts_is [] s = refl
starts_is (a ∷ p) [] = refl
starts_is (a ∷ p) (b ∷ s) = ap (λ (r : Bool). eqb a b && r) (starts_is p s)

-- `s.strip_prefix(p)`
pub front_is : (p s : Bytes) → pointwise eqb (take (length p) s) p ≡ starts_with p s
unfolding starts_with
front_is [] s = refl
front_is (a ∷ p) [] = refl
front_is (a ∷ p) (b ∷ s) = ap₂ ◌&&◌ (eqb_comm b a) (front_is p s)

-- `front == p`, of the front of s
pub begins : (p s front : Bytes) {n : ℕ} → n ≡ length p → front ≡ take n s → pointwise eqb front p ≡ starts_with p s
begins p s front n f = rw (f, n) (front_is p s)

-- what `strip_prefix` tells
pub stripped : (p s : Bytes) {b : Bool} → pointwise eqb (take (length p) s) p ≡ b → starts_with p s ≡ b
stripped p s h = sym (front_is p s) ∙ h

-- `s.strip_prefix(p).unwrap_or(d)`
pub stripped_or : (p s : Bytes) (o : Option (Bor Bytes)) (d : Bor Bytes) → d.now ≡ s
    → MatchOption o (pointwise eqb (take (length p) s) p ≡ false) (λ x. (pointwise eqb (take (length p) s) p ≡ true) × (x.now ≡ drop (length p) s) × (length x.now + length p ≡ length s))
    → (unwrap_or o d).now ≡ strip p s
unfolding strip
stripped_or p s None d e h = rw (stripped p s h) e
stripped_or p s (Some x) d e h = rw (stripped p s h.0) h.1

told_same : (o p : Ordering) → compare_is_eq (first_told o p) ≡ (compare_is_eq o && compare_is_eq p)
told_same Ordering.lt p = refl
told_same Ordering.eq p = refl
told_same Ordering.gt p = refl

-- `a == b`
pub same_is : (a b : Bytes) → pointwise eqb a b ≡ same a b
unfolding order
same_is [] [] = refl
same_is [] (y ∷ b) = refl
same_is (x ∷ a) [] = refl
same_is (x ∷ a) (y ∷ b) = ap (λ (r : Bool). eqb x y && r) (same_is a b) ∙ sym (told_same (compare x y) (order a b))

-- `s.ends_with(p)`
pub ends_is : (p s : Bytes) → pointwise eqb p (drop (length s - length p) s) ≡ ends_with p s
ends_is p s = go (leb (length p) (length s)) refl
  where
    go : (t : Bool) → leb (length p) (length s) ≡ t → pointwise eqb p (drop (length s - length p) s) ≡ ends_with p s
    go true k =
        let l : length p ≤ length s = leb-true (length p) (length s) k in
        same_is p (drop (length s - length p) s) ∙ same_comm p (drop (length s - length p) s) ∙ sym (ends_at p s l)
    go false k =
        let l : length s < length p = leb-false (length p) (length s) k in
        let e : length s - length p ≡ 0 = omega arith in
        rw (e, ends_shorter p s l, same_is p s) (same_length p s (λ e. omega arith))

-- `o.then(p)`
pub then_is : (o p : answer.Ordering) → ordering (ordering_then o p) ≡ first_told (ordering o) (ordering p)
then_is Less p = refl
then_is Equal p = refl
then_is Greater p = refl

number_is : (x y : ℕ) → ordering (nat_cmp x y) ≡ compare x y
number_is x y = go (compare x y) refl
  where
    go : (o : Ordering) → compare x y ≡ o → ordering (nat_cmp x y) ≡ o
    go Ordering.lt e = let l : x < y = lt→< x y e in rw (lt-ltb x y l)
    go Ordering.eq e = rw (compare_eq x y e, le-ltb y y (omega arith), eq-eqb y y refl)
    go Ordering.gt e = let l : y < x = lt→< y x (compare_flip x y ∙ ap flip e) in rw (le-ltb x y (omega arith), ne_eqb x y (λ e. omega arith))

-- `a.cmp(b)`
pub order_is : (a b : Bytes) → ordering (slice_cmp nat_cmp a b) ≡ order a b
unfolding order
order_is [] [] = refl
order_is [] (y ∷ b) = refl
order_is (x ∷ a) [] = refl
order_is (x ∷ a) (y ∷ b) = then_is (nat_cmp x y) (slice_cmp nat_cmp a b) ∙ ap₂ first_told (number_is x y) (order_is a b)
