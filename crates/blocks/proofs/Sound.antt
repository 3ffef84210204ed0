-- Sound blocks: those of a region without a flaw need no second check, and the ids of a record are whole.
use Rattle.std.specs.Prelude.{if◌then◌else◌}
use mathlib.Core.Path.{◌≡◌, refl, sym, ◌∙◌}
use mathlib.Core.Bool.{Bool, true, false, ◌&&◌}
use mathlib.Core.Logic.{◌⊎◌, ⊎_elim, inl, inr}
use mathlib.Core.List.{◌∷◌}
use Rattle.std.specs.Prelude.{Option, None, Some}
use Prim.Native.Nat.{ℕ, ◌+◌, ◌<◌}
use native.Mathlib.Omega.{arith}
use borrow.Author.Tests.{ltb-true, ltb-false, leb-false, eqb-true}
use lib.Dec.{leb, ltb, eqb}
use lib.ListN.{length, take, drop, length-take, length-drop}
use lib.Seq.{take_all}
use Rattle.names.specs.Bytes.{Bytes, every}
use Rattle.names.specs.WellFormed.{well_formed}
use Rattle.names.proofs.Tests.{none≢Some, and_left, and_right, or_eq}
use Rattle.blocks.specs.Layout.{block_size}
use Rattle.blocks.specs.Content.{is_hex, lower_case}
use Rattle.blocks.specs.Block.{Region, block_kind, content_length, block_name, block_content, layout_right, kind_suits, record_right, shape_right, sound}
use Rattle.blocks.specs.Entry.{Entry, loose, unread, packed_record, failed, name_of, peeled_in, entry_of, entry, entries}
use Rattle.blocks.specs.Fitness.{first_flaw}
use Rattle.blocks.specs.Means.{block_at, block_count, name_within, content_within, taken_entry, content_in, entry_in, taken_in, id_in}
use Rattle.blocks.proofs.Sorted.{Sorted, sorted-∷, sorted, sorted_drop}
use Rattle.blocks.proofs.Parts.{length_block}
use Rattle.blocks.proofs.Ids.{id_whole}
use Rattle.blocks.proofs.Clauses.{lengths_content, sound_lengths, shape_record}
use Rattle.blocks.proofs.Entries.{entries_at, entry_there, entry_past, entry_damaged, entry_sound, sound_content}

-- an entry that is not damaged is that of a sound block
pub sound_of : (width : ℕ) (r : Region) (b n : Bytes) → name_of (entry width r b) ≡ Some n → sound width r b ≡ true
sound_of width r b n h = go (sound width r b) refl
  where
    go : (t : Bool) → sound width r b ≡ t → sound width r b ≡ true
    go true e = e
    go false e = none≢Some (rw (entry_damaged width r b (rw e)) at h)

pub shape_of : (width : ℕ) (r : Region) (b : Bytes) → sound width r b ≡ true → shape_right width b ≡ true
unfolding sound
shape_of width r b h = and_right (layout_right b && kind_suits r (block_kind b)) _ h

module _ (width : ℕ) (r : Region) (s : Bytes) (fit : first_flaw r (entries width r s) ≡ None) (k : ℕ) where
  pub fit_sound : k < block_count s → sound width r (block_at s k) ≡ true
  fit_sound h = go (rw (entries_at width r s k h) at (sorted_drop k (sorted r (entries width r s) fit)))
    where
      go : Sorted None (entry width r (block_at s k) ∷ drop (k + 1) (entries width r s)) → sound width r (block_at s k) ≡ true
      go (sorted-∷ n e a l) = sound_of width r (block_at s k) n e

  -- what a block of a fit region is taken for is its entry
  pub fit_taken : taken_in width s k ≡ entry_in width r s k
  fit_taken = go (ltb k (block_count s)) refl
    where
      go : (t : Bool) → ltb k (block_count s) ≡ t → (if t then Some (taken_entry width (block_at s k)) else None) ≡ entry_in width r s k
      go true e =
          let h = ltb-true k (block_count s) e in
          rw (entry_there width r s k h, entry_sound width r (block_at s k) (fit_sound h))
      go false e = entry_past width r s k (ltb-false k (block_count s) e)

-- ---- the ids of a record

-- a content of one id or two, and what it gives
pub record Ids (width : ℕ) (c t : Bytes) (p : Option Bytes) : Type 0 where
  pub target : t ≡ take width c
  pub peeled : p ≡ peeled_in width c
  pub size : (length c ≡ width) ⊎ (length c ≡ width + width)

module _ (width : ℕ) (r : Region) (b : Bytes) (l : length b ≡ block_size) (h : sound width r b ≡ true) where
  length_content : length (block_content b) ≡ content_length b
  unfolding block_content
  length_content =
      let m = lengths_content b (sound_lengths width b r h) in
      simp (length-take, length-drop) (omega arith)

  right : record_right width b ≡ true → (length (block_content b) ≡ width) ⊎ (length (block_content b) ≡ width + width)
  unfolding record_right
  right e =
      let sizes = and_right (well_formed (block_name b)) _ (and_left _ (every is_hex (block_content b)) e) in
      rw length_content (or_eq (eqb (content_length b) width) (eqb (content_length b) (width + width)) sizes (λ a. inl (eqb-true _ _ a)) (λ a. inr (eqb-true _ _ a)))

  pub sound_ids : (n t : Bytes) (p : Option Bytes) → entry width r b ≡ packed_record n t p → Ids width (content_within b) t p
  unfolding entry_of
  sound_ids n t p e = go (eqb (block_kind b) 1) (eqb (block_kind b) 2) (eqb (block_kind b) 4) refl refl refl (sym (entry_sound width r b h) ∙ e)
    where
      go : (k₁ k₂ k₄ : Bool) → eqb (block_kind b) 1 ≡ k₁ → eqb (block_kind b) 2 ≡ k₂ → eqb (block_kind b) 4 ≡ k₄ → taken_entry width b ≡ packed_record n t p → Ids width (content_within b) t p
      go true k₂ k₄ e₁ e₂ e₄ f = other (rw e₁ at f)
        where
          other : {A : Type 0} → loose (name_within b) (content_within b) ≡ packed_record n t p → A
          other q = absurd (let z : ◌≡◌ {A = ℕ} 0 1 = cc in omega arith)
      go false true k₄ e₁ e₂ e₄ f = other (rw (e₁, e₂) at f)
        where
          other : {A : Type 0} → unread (name_within b) ≡ packed_record n t p → A
          other q = absurd (let z : ◌≡◌ {A = ℕ} 0 1 = cc in omega arith)
      go false false true e₁ e₂ e₄ f = record_is (rw (e₁, e₂, e₄) at f) (right (sym (shape_record width b (eqb-true _ _ e₄)) ∙ shape_of width r b h))
        where
          record_is : packed_record (name_within b) (take width (content_within b)) (peeled_in width (content_within b)) ≡ packed_record n t p
              → (length (block_content b) ≡ width) ⊎ (length (block_content b) ≡ width + width) → Ids width (content_within b) t p
          record_is q size = record { target = cc; peeled = cc; size = rw (sound_content width r b h) size }
      go false false false e₁ e₂ e₄ f = other (rw (e₁, e₂, e₄) at f)
        where
          other : {A : Type 0} → failed ≡ packed_record n t p → A
          other q = absurd (let z : ◌≡◌ {A = ℕ} 0 1 = cc in omega arith)

module _ (width : ℕ) (r : Region) (s : Bytes) (k : ℕ) where
  some_entry : {e f : Entry} → Some e ≡ Some f → e ≡ f
  some_entry q = cc

  pub record_ids : (n t : Bytes) (p : Option Bytes) → entry_in width r s k ≡ Some (packed_record n t p) → Ids width (content_in s k) t p
  record_ids n t p h = go (ltb k (block_count s)) refl
    where
      go : (u : Bool) → ltb k (block_count s) ≡ u → Ids width (content_in s k) t p
      go true u =
          let i = ltb-true k (block_count s) u in
          let e = some_entry (sym (entry_there width r s k i) ∙ h) in
          rw u (sound_ids width r (block_at s k) (length_block s k i) (sound_of width r (block_at s k) n (rw e)) n t p e)
      go false u = none≢Some (entry_past width r s k (ltb-false k (block_count s) u) ∙ h)

-- the ids that are read off the content, in lower case
module _ (width : ℕ) (c t : Bytes) where
  pub target_id : (p : Option Bytes) → Ids width c t p → id_in width c ≡ lower_case t
  target_id p h = rw h.target (id_whole width c (⊎_elim (λ e. omega arith) (λ e. omega arith) h.size))

  pub peeled_id : (q : Bytes) → Ids width c t (Some q) → id_in width (drop width c) ≡ lower_case q
  peeled_id q h = go (leb (length c) width) refl
    where
      some_bytes : {x y : Bytes} → Some x ≡ Some y → x ≡ y
      some_bytes e = cc

      go : (u : Bool) → leb (length c) width ≡ u → id_in width (drop width c) ≡ lower_case q
      go true u = none≢Some (sym (rw u at h.peeled))
      go false u =
          let more = leb-false (length c) width u in
          let two : length (drop width c) ≡ width = simp length-drop (⊎_elim (λ e. omega arith) (λ e. omega arith) h.size) in
          let e : q ≡ drop width c = some_bytes (rw u at h.peeled) in
          rw (e, id_whole width (drop width c) (omega arith), take_all width (drop width c) (omega arith))
