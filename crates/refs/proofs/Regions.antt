-- A region without a flaw: every block has a name, and the block of a name is found by halves.
use mathlib.Core.Path.{◌≡◌, refl, sym, ap, ◌∙◌}
use Prim.Native.Nat.{Ordering}
use Prim.Native.Nat.{ℕ, zero, suc, ◌<◌}
use native.Mathlib.Omega.{arith}
use mathlib.Core.List.{List, [], ◌∷◌, map}
use mathlib.Core.Bool.{false}
use Rattle.std.specs.Prelude.{Option, None, Some}
use Rattle.std.specs.List.{list_any}
use lib.Dec.{compare_is_eq}
use lib.ListN.{length, drop, get_or}
use Rattle.names.specs.Bytes.{Bytes, order}
use Rattle.names.specs.Name.{directory}
use Rattle.names.proofs.Orders.{◌≺◌, ≺_trans, order_refl, gt_not_lt}
use Rattle.blocks.specs.Block.{Region}
use Rattle.blocks.specs.Entry.{Entry, name_of, entry, entries}
use Rattle.blocks.specs.Means.{id_width, block_count, block_at, name_within, name_in}
use Rattle.blocks.proofs.Sorted.{Sorted, sorted-[], sorted-∷, sorted, sorted_drop}
use Rattle.blocks.proofs.Raw.{raw}
use Rattle.blocks.proofs.Sound.{fit_sound}
use Rattle.blocks.proofs.Chunks.{chunks, length_chunks, chunk_at, entries_are, name_of_chunk}
use Rattle.blocks.proofs.Parts.{length_block}
use Rattle.blocks.proofs.Entries.{entries_at, sound_name}
use Rattle.refs.specs.Answer.{block_of}
use Rattle.refs.specs.Search.{clashes}
use Rattle.blocks.specs.Fitness.{first_flaw}
use Rattle.refs.proofs.Blocks.{absent}

-- none of the blocks of a region has a flaw
abbrev pub Flawless : Region → Bytes → Type 0
Flawless r s = first_flaw r (entries id_width r s) ≡ None

-- ---- sorted entries

-- the name at a later place is above
pub later_above : (z x : Bytes) {l : List Entry} → Sorted (Some z) l → (j : ℕ) (e : Entry) (m : List Entry) → drop j l ≡ e ∷ m → name_of e ≡ Some x → z ≺ x
later_above z x sorted-[] zero e m d h = absurd (let q : ◌≡◌ {A = ℕ} 0 1 = cc in omega arith)
later_above z x sorted-[] (suc j) e m d h = absurd (let q : ◌≡◌ {A = ℕ} 0 1 = cc in omega arith)
later_above z x (sorted-∷ y k a s) zero e m d h = let q : y ≡ x = cc in rw (← q) a
later_above z x (sorted-∷ y k a s) (suc j) e m d h = ≺_trans z y x a (later_above y x s j e m d h)

-- a block whose name is not p is passed over
pub pass : (p x : Bytes) (e : Entry) (l : List Entry) → name_of e ≡ Some x → compare_is_eq (order x p) ≡ false → block_of p (e ∷ l) ≡ block_of p l
unfolding block_of
pass p x e l h n = rw (h, n)

-- no block up to one whose name is below p has the name p
pub below : (p x : Bytes) {b : Option Bytes} {l : List Entry} → Sorted b l → (j : ℕ) (e : Entry) (m : List Entry) → drop j l ≡ e ∷ m → name_of e ≡ Some x → x ≺ p → block_of p l ≡ block_of p m
below p x sorted-[] zero e m d h lt = absurd (let q : ◌≡◌ {A = ℕ} 0 1 = cc in omega arith)
below p x sorted-[] (suc j) e m d h lt = absurd (let q : ◌≡◌ {A = ℕ} 0 1 = cc in omega arith)
below p x (sorted-∷ {e = f} {l = l} y k a s) zero e m d h lt =
    let q : y ≡ x = cc in
    let w : l ≡ m = cc in
    pass p y f l k (rw (q, lt)) ∙ rw w
below p x (sorted-∷ {e = f} {l = l} y k a s) (suc j) e m d h lt =
    pass p y f l k (rw (≺_trans y x p (later_above y x s j e m d h) lt)) ∙ below p x s j e m d h lt

-- the block of the name p
pub here : (p : Bytes) {b : Option Bytes} {l : List Entry} → Sorted b l → (j : ℕ) (e : Entry) (m : List Entry) → drop j l ≡ e ∷ m → name_of e ≡ Some p → Some e ≡ block_of p l
unfolding block_of
here p sorted-[] zero e m d h = absurd (let q : ◌≡◌ {A = ℕ} 0 1 = cc in omega arith)
here p sorted-[] (suc j) e m d h = absurd (let q : ◌≡◌ {A = ℕ} 0 1 = cc in omega arith)
here p (sorted-∷ {e = f} {l = l} y k a s) zero e m d h =
    let q : y ≡ p = cc in
    let w : f ≡ e = cc in
    rw (k, q, order_refl p, w)
here p (sorted-∷ {e = f} {l = l} y k a s) (suc j) e m d h =
    here p s j e m d h ∙ sym (pass p y f l k (rw (later_above y p s j e m d h)))

-- from a block whose name is above p on, none has the name p
pub above : (p x : Bytes) {b : Option Bytes} {e : Entry} {l : List Entry} → Sorted b (e ∷ l) → name_of e ≡ Some x → order x p ≡ Ordering.gt → block_of p (e ∷ l) ≡ None
above p x {e = e} {l = l} (sorted-∷ y k a s) h g =
    let q : y ≡ x = cc in
    pass p x e l h (rw g) ∙ absent y s p (gt_not_lt y p (rw q g))

-- ---- the blocks of a region

module _ (r : Region) (s : Bytes) (flawless : Flawless r s) where
  pub region_sorted : Sorted None (entries id_width r s)
  region_sorted = sorted r (entries id_width r s) flawless

  module _ (k : ℕ) (h : k < block_count s) where
    abbrev entry_of_block : Entry
    entry_of_block = entry id_width r (block_at s k)

    named : {b : Option Bytes} {l : List Entry} → Sorted b (entry_of_block ∷ l) → name_of entry_of_block ≡ Some (name_within (block_at s k))
    named (sorted-∷ n e a t) = rw (sound_name id_width r (block_at s k) (fit_sound id_width r s flawless k h), (raw id_width r (block_at s k) n e).named) e

    pub block_named : name_of entry_of_block ≡ Some (name_within (block_at s k))
    block_named = named (rw (entries_at id_width r s k h) at (sorted_drop k region_sorted))

-- ---- a walk over the names

-- each block bears the name that stands in it
abbrev pub Named : Region → List Bytes → Type 0
Named r l = (k : ℕ) (d : Bytes) → k < length l → name_of (entry id_width r (get_or l k d)) ≡ Some (name_in (get_or l k d) 0)

any_clashes : (r : Region) (p : Bytes) (l : List Bytes) → Named r l → list_any (λ b. directory (name_in b 0) p) l ≡ clashes p (map (entry id_width r) l)
unfolding clashes
any_clashes r p [] h = refl
any_clashes r p (b ∷ l) h = rw (h 0 b (omega arith), any_clashes r p l (λ k d q. h (suc k) d (omega arith)))

module _ (r : Region) (p s : Bytes) (flawless : Flawless r s) where
  pub all_named : Named r (chunks s)
  all_named k d h =
      let q : k < block_count s = omega (arith, length_chunks s) in
      rw (chunk_at s k d q) (block_named r s flawless k q ∙ ap Some (sym (name_of_chunk (block_at s k) (length_block s k q))))

  pub clash_found : list_any (λ b. directory (name_in b 0) p) (chunks s) ≡ clashes p (entries id_width r s)
  clash_found = any_clashes r p (chunks s) all_named ∙ rw (entries_are id_width r s)
