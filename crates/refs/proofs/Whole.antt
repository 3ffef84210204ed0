-- The entries of a region's blocks: no part is too long, and ids are whole.
use mathlib.Core.Path.{◌≡◌, refl, sym, ◌∙◌}
use mathlib.Core.Bool.{Bool, true, false, ◌&&◌}
use mathlib.Core.Logic.{⊎_elim}
use Prim.Native.Nat.{ℕ, ◌<◌}
use native.Mathlib.Omega.{arith}
use borrow.Author.Tests.{le-leb, eq-eqb, leb-false, ltb-true, ltb-false}
use lib.Dec.{leb, ltb, eqb}
use lib.ListN.{length, take, drop, length-take, length-drop}
use Rattle.std.specs.Prelude.{Option, None, Some, if◌then◌else◌}
use Rattle.names.specs.Bytes.{Bytes}
use Rattle.names.specs.Name.{longest}
use Rattle.names.proofs.Tests.{none≢Some}
use Rattle.blocks.specs.Layout.{longest_content}
use Rattle.blocks.specs.Block.{Region, block_kind, sound}
use Rattle.blocks.specs.Entry.{Entry, packed_record, peeled_in, entry_of, entry}
use Rattle.blocks.specs.Means.{id_width, block_at, block_count, name_within, content_within, entry_in}
use Rattle.blocks.proofs.Entries.{entry_there, entry_past, entry_damaged, entry_sound}
use Rattle.blocks.proofs.Parts.{length_block, name_within_short, content_within_short}
use Rattle.blocks.proofs.Sound.{Ids, sound_ids}
use Rattle.refs.specs.Whole.{whole_id, whole_if_given, entry_within}

-- one id, or two
ids_whole : (c t : Bytes) (p : Option Bytes) → Ids id_width c t p → (whole_id t && whole_if_given p) ≡ true
ids_whole c t p i = rw (i.target, target, i.peeled) (go (leb (length c) id_width) refl)
  where
    first : length (take id_width c) ≡ id_width
    first = simp length-take (⊎_elim (λ e. omega arith) (λ e. omega arith) i.size)

    target : whole_id (take id_width c) ≡ true
    target = eq-eqb _ _ first

    go : (b : Bool) → leb (length c) id_width ≡ b → whole_if_given (if b then None else Some (drop id_width c)) ≡ true
    go true e = refl
    go false e =
        let more = leb-false (length c) id_width e in
        eq-eqb _ _ (simp length-drop (⊎_elim (λ e. omega arith) (λ e. omega arith) i.size))

module _ (r : Region) (s : Bytes) (k : ℕ) where
  abbrev block : Bytes
  block = block_at s k

  taken_within : k < block_count s → sound id_width r block ≡ true → entry_within (entry id_width r block) ≡ true
  unfolding entry_of
  taken_within h f = go (eqb (block_kind block) 1) (eqb (block_kind block) 2) (eqb (block_kind block) 4) refl refl refl
    where
      name : leb (length (name_within block)) longest ≡ true
      name = le-leb _ _ (name_within_short block)

      content : leb (length (content_within block)) longest_content ≡ true
      content = le-leb _ _ (content_within_short block)

      is : entry id_width r block ≡ entry_of id_width (block_kind block) (name_within block) (content_within block)
      is = entry_sound id_width r block f

      go : (k₁ k₂ k₄ : Bool) → eqb (block_kind block) 1 ≡ k₁ → eqb (block_kind block) 2 ≡ k₂ → eqb (block_kind block) 4 ≡ k₄ → entry_within (entry id_width r block) ≡ true
      go true k₂ k₄ e₁ e₂ e₄ = rw (is, e₁, name, content)
      go false true k₄ e₁ e₂ e₄ = rw (is, e₁, e₂, name)
      go false false true e₁ e₂ e₄ =
          let x : entry id_width r block ≡ packed_record (name_within block) (take id_width (content_within block)) (peeled_in id_width (content_within block)) = is ∙ rw (e₁, e₂, e₄) in
          rw (x, name) (ids_whole _ _ _ (sound_ids id_width r block (length_block s k h) f _ _ _ x))
      go false false false e₁ e₂ e₄ = rw (is, e₁, e₂, e₄)

  there_within : k < block_count s → entry_within (entry id_width r block) ≡ true
  there_within h = go (sound id_width r block) refl
    where
      go : (b : Bool) → sound id_width r block ≡ b → entry_within (entry id_width r block) ≡ true
      go true f = taken_within h f
      go false f = rw (entry_damaged id_width r block (rw f))

  pub entry_whole : (x : Entry) → Some x ≡ entry_in id_width r s k → entry_within x ≡ true
  entry_whole x e = go (ltb k (block_count s)) refl
    where
      same : {y : Entry} → Some x ≡ Some y → x ≡ y
      same q = cc

      go : (b : Bool) → ltb k (block_count s) ≡ b → entry_within x ≡ true
      go true t =
          let h = ltb-true k (block_count s) t in
          rw (same (e ∙ entry_there id_width r s k h)) (there_within h)
      go false t = none≢Some (entry_past id_width r s k (ltb-false k (block_count s) t) ∙ sym e)
