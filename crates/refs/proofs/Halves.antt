-- The blocks of a region without a flaw, as the arrays that the code walks over and searches.
use mathlib.Core.Path.{◌≡◌, refl, sym, ap, ◌∙◌}
use mathlib.Core.Bool.{Bool, true, false}
use mathlib.Core.List.{List, [], ◌∷◌, map}
use Prim.Native.Nat.{ℕ, zero, suc, ◌≤◌, ◌<◌, Ordering}
use native.Mathlib.Omega.{arith}
use borrow.Author.Tests.{lt-ltb, ltb-true, ltb-false}
use lib.Dec.{compare_is_eq, ltb}
use lib.ListN.{length, drop, get_or}
use Rattle.std.specs.Prelude.{Option, None, Some, Result, Ok, Err}
use Rattle.std.specs.List.Sorted.{IsSearchInRange, IsBinarySearchResult, IsNonDecreasingBy}
use Rattle.std.specs.Ordering.{ordering_index}
use Rattle.std.specs.declared.cmp.Ordering as code
use Rattle.std.specs.declared.cmp.Ordering.TheVariants.{Less, Equal, Greater}
use Rattle.std.specs.Result.{result_ok}
use Rattle.names.specs.Bytes.{Bytes, order}
use Rattle.names.specs.Means.{ordering}
use Rattle.names.proofs.Orders.{◌≺◌, ≺_trans, order_eq}
use Rattle.blocks.specs.Block.{Region}
use Rattle.blocks.specs.Entry.{Entry, name_of, entry, entries}
use Rattle.blocks.specs.Means.{id_width, block_count, block_at, name_in}
use Rattle.blocks.proofs.Sorted.{Sorted, sorted-[], sorted-∷}
use Rattle.blocks.proofs.Chunks.{chunks, length_chunks, chunk_at, entries_are, name_of_block}
use Rattle.blocks.proofs.Entries.{entries_at}
use Rattle.refs.specs.Answer.{block_of}
use Rattle.refs.specs.Whole.{indexed}
use Rattle.refs.proofs.Regions.{Flawless, Named, all_named, later_above, pass, here, region_sorted, block_named}

-- the answer of a comparison, as the code has it
abbrev pub told : Ordering → code.Ordering
told Ordering.lt = Less
told Ordering.eq = Equal
told Ordering.gt = Greater

pub told_is : (r : code.Ordering) (o : Ordering) → ordering r ≡ o → r ≡ told o
told_is Less o h = rw (← h) refl
told_is Equal o h = rw (← h) refl
told_is Greater o h = rw (← h) refl

-- how the name of a block lies to p
abbrev pub lies : Bytes → Bytes → code.Ordering
lies p b = told (order (name_in b 0) p)

-- ---- names that rise

rises : {b : Option Bytes} {l : List Entry} → Sorted b l → (i j : ℕ) (e f : Entry) (m n : List Entry) (x y : Bytes) → i < j → drop i l ≡ e ∷ m → drop j l ≡ f ∷ n → name_of e ≡ Some x → name_of f ≡ Some y → x ≺ y
rises sorted-[] zero j e f m n x y h d g u v = absurd (let q : ◌≡◌ {A = ℕ} 0 1 = cc in omega arith)
rises sorted-[] (suc i) j e f m n x y h d g u v = absurd (let q : ◌≡◌ {A = ℕ} 0 1 = cc in omega arith)
rises (sorted-∷ z k a s) i zero e f m n x y h d g u v = absurd (omega arith)
rises (sorted-∷ z k a s) zero (suc j) e f m n x y h d g u v = let q : z ≡ x = cc in later_above x y (rw (← q) s) j f n g v
rises (sorted-∷ z k a s) (suc i) (suc j) e f m n x y h d g u v = rises s i j e f m n x y (omega arith) d g u v

index_most : (o : Ordering) → ordering_index (told o) ≤ 2
index_most Ordering.lt = omega arith
index_most Ordering.eq = omega arith
index_most Ordering.gt = omega arith

index_rises : (x y p : Bytes) → x ≺ y → ordering_index (told (order x p)) ≤ ordering_index (told (order y p))
index_rises x y p h = go (order y p) refl
  where
    go : (o : Ordering) → order y p ≡ o → ordering_index (told (order x p)) ≤ ordering_index (told o)
    go Ordering.lt e = rw (≺_trans x y p h e) (omega arith)
    go Ordering.eq e = let q : x ≺ p = rw (order_eq y p e) at h in rw q (omega arith)
    go Ordering.gt e = index_most (order x p)

-- ---- blocks that have names

none_bears : (r : Region) (p : Bytes) (l : List Bytes) → Named r l → ((k : ℕ) (d : Bytes) → k < length l → compare_is_eq (order (name_in (get_or l k d) 0) p) ≡ false) → block_of p (map (entry id_width r) l) ≡ None
unfolding block_of
none_bears r p [] h g = refl
none_bears r p (b ∷ l) h g =
    pass p (name_in b 0) (entry id_width r b) (map (entry id_width r) l) (h 0 b (omega arith)) (g 0 b (omega arith))
    ∙ none_bears r p l (λ k d q. h (suc k) d (omega arith)) (λ k d q. g (suc k) d (omega arith))

module _ (r : Region) (p s : Bytes) (flawless : Flawless r s) where
  there : (k : ℕ) → k < block_count s → name_of (entry id_width r (block_at s k)) ≡ Some (name_in s k)
  there k h = block_named r s flawless k h ∙ rw (lt-ltb k (block_count s) h)

  chunk_name : (k : ℕ) (d : Bytes) → k < block_count s → name_in (get_or (chunks s) k d) 0 ≡ name_in s k
  chunk_name k d h = rw (chunk_at s k d h) (name_of_block s k h)

  -- how they lie to p rises
  lie_rising : IsNonDecreasingBy (λ b. ordering_index (lies p b)) (chunks s)
  lie_rising i j d le h = go (ltb i j) refl
    where
      q : j < block_count s
      q = omega (arith, length_chunks s)

      i_within : i < block_count s
      i_within = omega (arith, q)

      go : (b : Bool) → ltb i j ≡ b → ordering_index (lies p (get_or (chunks s) i d)) ≤ ordering_index (lies p (get_or (chunks s) j d))
      go true t = rw (chunk_name i d i_within, chunk_name j d q)
          (index_rises (name_in s i) (name_in s j) p
          (rises (region_sorted r s flawless) i j _ _ _ _ (name_in s i) (name_in s j) (ltb-true i j t) (entries_at id_width r s i i_within) (entries_at id_width r s j q) (there i i_within) (there j q)))
      go false t = let e : i ≡ j = omega (arith, ltb-false i j t) in rw e (omega arith)

  found_equal : (o : Ordering) → told o ≡ Equal → o ≡ Ordering.eq
  found_equal Ordering.lt h = cc
  found_equal Ordering.eq h = refl
  found_equal Ordering.gt h = cc

  less_not : (o : Ordering) → told o ≡ Less → compare_is_eq o ≡ false
  less_not Ordering.lt h = refl
  less_not Ordering.eq h = cc
  less_not Ordering.gt h = refl

  greater_not : (o : Ordering) → told o ≡ Greater → compare_is_eq o ≡ false
  greater_not Ordering.lt h = refl
  greater_not Ordering.eq h = cc
  greater_not Ordering.gt h = refl

  -- what a search by halves finds among them
  pub halves_find : (x : Result ℕ ℕ) → IsSearchInRange x (length (chunks s)) → IsBinarySearchResult (lies p) (chunks s) x → indexed (result_ok x) (entries id_width r s) ≡ block_of p (entries id_width r s)
  halves_find (Ok k) bound at =
      let q : k < block_count s = omega (arith, length_chunks s) in
      let e : name_in s k ≡ p = order_eq (name_in s k) p (rw (chunk_name k [] q) at (found_equal _ (at []))) in
      rw (entries_at id_width r s k q) (here p (region_sorted r s flawless) k _ _ (entries_at id_width r s k q) (there k q ∙ ap Some e))
  halves_find (Err i) bound at = sym (rw (entries_are id_width r s) (none_bears r p (chunks s) (all_named r p s flawless) other))
    where
      other : (k : ℕ) (d : Bytes) → k < length (chunks s) → compare_is_eq (order (name_in (get_or (chunks s) k d) 0) p) ≡ false
      other k d h = go (ltb k i) refl
        where
          go : (b : Bool) → ltb k i ≡ b → compare_is_eq (order (name_in (get_or (chunks s) k d) 0) p) ≡ false
          go true t = less_not _ ((at lie_rising).0 k d (omega arith) (ltb-true k i t))
          go false t = greater_not _ ((at lie_rising).1 k d (ltb-false k i t) h)
