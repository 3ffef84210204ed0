-- The expansion of a namespace, component by component.
use Rattle.std.specs.Prelude.{if◌then◌else◌}
use mathlib.Core.Path.{◌≡◌, refl, sym, ap, ◌∙◌}
use Prim.Native.Nat.{ℕ, suc, ◌+◌, ◌*◌, ◌≤◌}
use native.Mathlib.Omega.{arith}
use mathlib.Core.Bool.{Bool, true, false}
use mathlib.Core.List.{List, [], ◌∷◌, ◌++◌, append_assoc}
use mathlib.Core.List.{map, map-append}
use denote.Ref.{Bor}
use Rattle.std.specs.List.{slice_split, sum_by}
use Rattle.std.proofs.lemmas.List.Sums.{sum_by-cons}
use Rattle.std.specs.Iterator.{Yields}
use Rattle.std.proofs.lemmas.Iterator.{YieldsList}
use Rattle.std.proofs.lemmas.Iterator.Consumers.{YieldsList-so_far, YieldsList-turn, YieldsList-end}
use Rattle.std.specs.Prelude.{Option, None, Some}
use lib.Dec.{eqb}
use lib.ListN.{length, take, drop, length-append}
use lib.Seq.{take-suc}
use Rattle.std.proofs.lemmas.List.{take-append-drop}
use borrow.Author.Tests.{le-leb}
use Rattle.names.specs.Bytes.{Bytes, bytes, slash}
use Rattle.names.specs.Means.{if_fits}
use Rattle.names.specs.Name.{longest, fits}
use Rattle.names.specs.Namespace.{expand, expand_rest}
use Rattle.names.specs.Promises.{width_in}
use Rattle.names.proofs.Held.{fits_is, longer_not}

-- ---- the components, each between refs/namespaces/ and a slash

abbrev pub is_slash : ℕ → Bool
is_slash b = eqb b slash

abbrev pub components : Bytes → List Bytes
components s = slice_split is_slash s

abbrev pub with_part : Bytes → Bytes → Bytes
with_part w p = w ++ (bytes "refs/namespaces/" ++ (p ++ bytes "/"))

unfoldable pub joined : List Bytes → Bytes
joined [] = []
joined (p ∷ l) = bytes "refs/namespaces/" ++ (p ++ (bytes "/" ++ joined l))

record Cut (s : Bytes) : Type 0 where
  first : Bytes
  more : List Bytes
  parts : components s ≡ first ∷ more
  rest : expand_rest s ≡ first ++ (bytes "/" ++ joined more)

cut_at : (s : Bytes) → Cut s
unfolding joined expand_rest
cut_at [] = record { first = []; more = []; parts = refl; rest = refl }
cut_at (b ∷ s) = go (eqb b slash) refl (cut_at s)
  where
    go : (f : Bool) → eqb b slash ≡ f → Cut s → Cut (b ∷ s)
    go true e k = record { first = []; more = k.first ∷ k.more; parts = rw (e, k.parts); rest = rw (e, k.rest) }
    go false e k = record { first = b ∷ k.first; more = k.more; parts = rw (e, k.parts); rest = rw (e, k.rest) }

pub expand_is : (s : Bytes) → expand s ≡ joined (components s)
unfolding expand joined
expand_is s = let k = cut_at s in rw (k.rest, k.parts)

joined_append : (l m : List Bytes) → joined (l ++ m) ≡ joined l ++ joined m
unfolding joined
joined_append [] m = refl
joined_append (p ∷ l) m = rw (joined_append l m) (simp append_assoc)

pub joined_more : (l : List Bytes) (p : Bytes) → joined (l ++ (p ∷ [])) ≡ with_part (joined l) p
unfolding joined
joined_more l p = joined_append l (p ∷ [])

-- one component more
pub parts_next : {w b : Bytes} (xs : List (Bor Bytes)) (p : Bor Bytes) → w ≡ joined (map (λ p. p.now) xs) → Some b ≡ if_fits (with_part w p.now) → b ≡ joined (map (λ p. p.now) (xs ++ (p ∷ [])))
parts_next {w} {b} xs p k f = rw (map-append (λ p. p.now) xs (p ∷ []), joined_more, ← k) (fits_is (with_part w p.now) b f)

-- a `for` over the components that has yielded xs, which the bytes w hold joined
module _ {S : Type 0} {steps : S → Option (Bor Bytes) → S → Type 0} {s₀ : S} (xs : List (Bor Bytes)) (t : S) (y : Yields steps s₀ xs t) (s : Bytes) (w : Bytes)
    (k : w ≡ joined (map (λ p. p.now) xs)) (r : Option (Bor Bytes)) (u : S) (next : steps t r u) (e : YieldsList steps (λ p. p.now) s₀ (components s)) where
  -- what does not fit with the next component fits not at all
  pub part_refused : (p : Bor Bytes) → r ≡ Some p → None ≡ if_fits (with_part w p.now) → None ≡ if_fits (expand s)
  part_refused p is f =
      let all = components s in
      let n = length xs in
      let turn = YieldsList-turn e xs t y r u p is next in
      let front : take (suc n) all ≡ map (λ p. p.now) xs ++ (p.now ∷ []) = rw (take-suc all n p.now turn.0, ← turn.1, ← YieldsList-so_far e xs t y) in
      let parts : all ≡ (map (λ p. p.now) xs ++ (p.now ∷ [])) ++ drop (suc n) all = rw (← front) (sym (take-append-drop (suc n) all)) in
      rw (expand_is s, parts, joined_append, joined_more, ← k) (longer_not (with_part w p.now) (with_part w p.now ++ joined (drop (suc n) all)) (simp length-append (omega arith)) f)

  -- behind the last one
  pub parts_whole : r ≡ None → w ≡ expand s
  parts_whole is = k ∙ ap joined (YieldsList-end e xs t y r u is next).0 ∙ sym (expand_is s)

-- ---- the length of the expansion, byte by byte

rest_widths : (s : Bytes) → length (expand_rest s) ≡ 1 + sum_by width_in s
unfolding expand_rest
rest_widths [] = refl
rest_widths (b ∷ s) = rw (sum_by-cons width_in b s) (go (eqb b slash) (rest_widths s))
  where
    go : (f : Bool) → length (expand_rest s) ≡ 1 + sum_by width_in s
        → length (if f then bytes "/refs/namespaces/" ++ expand_rest s else b ∷ expand_rest s) ≡ 1 + ((if f then length (bytes "/refs/namespaces/") else 1) + sum_by width_in s)
    go true h = omega (arith, h, length-append (bytes "/refs/namespaces/") (expand_rest s))
    go false h = omega (arith, h)

pub widths : (s : Bytes) → 17 + sum_by width_in s ≡ length (expand s)
unfolding expand
widths s = omega (arith, length-append (bytes "refs/namespaces/") (expand_rest s), rest_widths s)

-- no byte becomes more than 17
pub widths_most : (s : Bytes) → sum_by width_in s ≤ 17 * length s
widths_most [] = omega arith
widths_most (b ∷ s) = rw (sum_by-cons width_in b s) (go (eqb b slash) (widths_most s))
  where
    go : (f : Bool) → sum_by width_in s ≤ 17 * length s → (if f then length (bytes "/refs/namespaces/") else 1) + sum_by width_in s ≤ 17 * suc (length s)
    go true h = omega (arith, h)
    go false h = omega (arith, h)

-- so a short namespace's expansion fits
pub short_fits : (s : Bytes) → length s ≤ 13 → fits (expand s) ≡ true
short_fits s h = le-leb (length (expand s)) longest (omega (arith, h, widths s, widths_most s))
