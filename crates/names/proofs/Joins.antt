-- A path in two parts, e and then n, beside a name s.
use mathlib.Core.Path.{◌≡◌, refl, sym, ap, ◌∙◌}
use mathlib.Core.Bool.{true, false, ◌&&◌, true≢false, and_assoc}
use mathlib.Core.List.{[], ◌∷◌, ◌++◌}
use Prim.Native.Nat.{◌≤◌, ◌<◌, compare, Ordering}
use native.Mathlib.Nat.{not-suc-le-zero, le_of_suc-le-suc}
use native.Mathlib.Omega.{arith}
use lib.Dec.{compare_is_eq, eqb}
use lib.ListN.{length, take, drop, length-append}
use lib.Seq.{drop-append-le}
use Rattle.std.proofs.lemmas.Bool.{false_from_ne_true}
use Rattle.names.specs.Bytes.{Bytes, bytes, first_told, order, same, starts_with}
use Rattle.names.specs.Name.{directory}
use Rattle.names.proofs.Orders.{eqb_comm, order_append, same_eq}
use Rattle.names.proofs.Prefix.{starts_append, starts_split}

-- e decides where s is no longer than it, else e decides first
pub starts_within : (p e n : Bytes) → length p ≤ length e → starts_with p (e ++ n) ≡ starts_with p e
unfolding starts_with
starts_within [] e n h = refl
starts_within (a ∷ p) [] n h = absurd (not-suc-le-zero h)
starts_within (a ∷ p) (b ∷ e) n h = rw (starts_within p e n (le_of_suc-le-suc h))

pub starts_across : (p e n : Bytes) → length e ≤ length p → starts_with p (e ++ n) ≡ (starts_with e p && starts_with (drop (length e) p) n)
unfolding starts_with
starts_across p [] n h = refl
starts_across [] (b ∷ e) n h = absurd (not-suc-le-zero h)
starts_across (a ∷ p) (b ∷ e) n h =
    rw (starts_across p e n (le_of_suc-le-suc h), eqb_comm b a) (sym (and_assoc (eqb a b) (starts_with e p) (starts_with (drop (length e) p) n)))

module _ (s e n : Bytes) where
  pub directory_within : length s < length e → directory s (e ++ n) ≡ directory s e
  unfolding directory
  directory_within h = starts_within (s ++ bytes "/") e n (simp length-append (omega arith))

  pub directory_across : length e ≤ length s → directory s (e ++ n) ≡ (starts_with e s && directory (drop (length e) s) n)
  unfolding directory
  directory_across h =
      rw (starts_across (s ++ bytes "/") e n (simp length-append (omega arith)), starts_within e s (bytes "/") h, drop-append-le (length e) s (bytes "/") h)

pub order_within : (s e n : Bytes) → length s < length e → order s (e ++ n) ≡ order s e
unfolding order
order_within s [] n h = absurd (not-suc-le-zero h)
order_within [] (b ∷ e) n h = refl
order_within (a ∷ s) (b ∷ e) n h = rw (order_within s e n (le_of_suc-le-suc h))

told_assoc : (o p q : Ordering) → first_told o (first_told p q) ≡ first_told (first_told o p) q
told_assoc Ordering.lt p q = refl
told_assoc Ordering.eq p q = refl
told_assoc Ordering.gt p q = refl

pub order_across : (s e n : Bytes) → length e ≤ length s → order s (e ++ n) ≡ first_told (order (take (length e) s) e) (order (drop (length e) s) n)
unfolding order
order_across s [] n h = refl
order_across [] (b ∷ e) n h = absurd (not-suc-le-zero h)
order_across (a ∷ s) (b ∷ e) n h = rw (order_across s e n (le_of_suc-le-suc h)) (told_assoc (compare a b) (order (take (length e) s) e) (order (drop (length e) s) n))

-- n decides where s begins with e
pub same_behind : (s e n : Bytes) → starts_with e s ≡ true → same s (e ++ n) ≡ same (drop (length e) s) n
same_behind s e n h = ap (λ (x : Bytes). same x (e ++ n)) (sym (starts_split e s h)) ∙ ap compare_is_eq (order_append e (drop (length e) s) n)

pub same_beside : (s e n : Bytes) → starts_with e s ≡ false → same s (e ++ n) ≡ false
same_beside s e n h = false_from_ne_true (same s (e ++ n)) (λ k. true≢false (sym (starts_append e n) ∙ ap (λ (x : Bytes). starts_with e x) (sym (same_eq s (e ++ n) k)) ∙ h))
