-- The clauses of damage, one by one.
use Rattle.std.specs.Prelude.{if◌then◌else◌}
use Rattle.std.specs.Prelude.{None, Some}
use mathlib.Core.Path.{◌≡◌, refl, sym}
use mathlib.Core.Bool.{Bool, true, false, ◌&&◌, ◌||◌, and-false, false≢true}
use Prim.Native.Nat.{ℕ, ◌+◌, ◌≤◌}
use native.Mathlib.Omega.{arith}
use borrow.Author.Tests.{leb-true, le-leb, ne_eqb}
use lib.Dec.{leb, eqb}
use Rattle.names.specs.Bytes.{Bytes, every}
use Rattle.names.specs.Name.{longest}
use Rattle.names.specs.WellFormed.{well_formed}
use Rattle.names.proofs.Tests.{and_left, and_right, none≢Some}
use Rattle.blocks.specs.Layout.{longest_content}
use Rattle.blocks.specs.Content.{is_hex}
use Rattle.blocks.specs.Block.{Region, block_kind, name_length, content_length, block_name, block_content, lengths_right, unused_zero, sum_right, layout_right, kind_suits, record_right, shape_right, sound}
use Rattle.blocks.specs.Entry.{failed, entry_of}
use Rattle.blocks.specs.Means.{a_kind, taken_entry, Within}

pub lengths_name : (b : Bytes) → lengths_right b ≡ true → name_length b ≤ longest
unfolding lengths_right
lengths_name b h = leb-true _ _ (and_left _ (leb (content_length b) longest_content) h)

pub lengths_content : (b : Bytes) → lengths_right b ≡ true → content_length b ≤ longest_content
unfolding lengths_right
lengths_content b h = leb-true _ _ (and_right (leb (name_length b) longest) _ h)

pub within : (b : Bytes) → lengths_right b ≡ true → Within b
within b h = record { name = lengths_name b h; content = lengths_content b h }

-- a byte that is a kind is its number
pub kind_at : (b : Bytes) (n : ℕ) → Some n ≡ a_kind (block_kind b) → n ≡ block_kind b
kind_at b n e = go (leb 1 (block_kind b) && leb (block_kind b) 5) e
  where
    some_eq : {m : ℕ} → Some n ≡ Some m → n ≡ m
    some_eq f = cc

    go : (t : Bool) → Some n ≡ (if t then Some (block_kind b) else None) → n ≡ block_kind b
    go true f = some_eq f
    go false f = none≢Some (sym f)

no_kind : (b : Bytes) → None ≡ a_kind (block_kind b) → (leb 1 (block_kind b) && leb (block_kind b) 5) ≡ false
no_kind b e = go (leb 1 (block_kind b) && leb (block_kind b) 5) e
  where
    go : (t : Bool) → None ≡ (if t then Some (block_kind b) else None) → t ≡ false
    go true f = none≢Some f
    go false f = refl

module _ (width : ℕ) (b : Bytes) where
  unsuited : (leb 1 (block_kind b) && leb (block_kind b) 5) ≡ false → (r : Region) → kind_suits r (block_kind b) ≡ false
  unfolding kind_suits
  unsuited e Region.worktree = grind arith
  unsuited e Region.common = grind arith
  unsuited e Region.packed = grind arith

  pub taken_no_kind : None ≡ a_kind (block_kind b) → failed ≡ taken_entry width b
  unfolding entry_of
  taken_no_kind e =
      let h = no_kind b e in
      rw (ne_eqb (block_kind b) 1 (λ f. false≢true (sym (rw f at h))), ne_eqb (block_kind b) 2 (λ f. false≢true (sym (rw f at h))), ne_eqb (block_kind b) 4 (λ f. false≢true (sym (rw f at h))))

  -- a byte that is no kind suits no region
  pub never_sound_kind : None ≡ a_kind (block_kind b) → (r : Region) → sound width r b ≡ false
  unfolding sound
  never_sound_kind e r = rw (unsuited (no_kind b e) r, and-false)

  pub never_sound_lengths : lengths_right b ≡ false → (r : Region) → sound width r b ≡ false
  unfolding sound layout_right
  never_sound_lengths e r = rw e

module _ (width : ℕ) (b : Bytes) where
  pub shape_record : block_kind b ≡ 4 → shape_right width b ≡ record_right width b
  unfolding shape_right
  shape_record e = rw e

  module _ (r : Region) where
    pub sound_lengths : sound width r b ≡ true → lengths_right b ≡ true
    unfolding sound layout_right
    sound_lengths h = and_left _ _ (and_left _ (sum_right b) (and_left _ (kind_suits r (block_kind b)) (and_left _ (shape_right width b) h)))

-- the clauses in the order in which they are tested
pub record_parts : (width : ℕ) (b : Bytes) → record_right width b ≡ ((eqb (content_length b) width || eqb (content_length b) (width + width)) && every is_hex (block_content b) && well_formed (block_name b))
unfolding record_right
record_parts width b = go (well_formed (block_name b)) (eqb (content_length b) width || eqb (content_length b) (width + width)) (every is_hex (block_content b))
  where
    go : (t u v : Bool) → (t && u && v) ≡ (u && v && t)
    go true true true = refl
    go true true false = refl
    go true false v = refl
    go false true true = refl
    go false true false = refl
    go false false v = refl

pub sound_parts : (width : ℕ) (r : Region) (b : Bytes) → Within b → sound width r b ≡ (kind_suits r (block_kind b) && shape_right width b && unused_zero b && sum_right b)
unfolding sound layout_right lengths_right
sound_parts width r b w =
    rw (le-leb (name_length b) longest w.name, le-leb (content_length b) longest_content w.content) (go (unused_zero b) (sum_right b) (kind_suits r (block_kind b)) (shape_right width b))
  where
    go : (u v k s : Bool) → (u && v && k && s) ≡ (k && s && u && v)
    go true true true true = refl
    go true true true false = refl
    go true true false s = refl
    go true false true true = refl
    go true false true false = refl
    go true false false s = refl
    go false v true true = refl
    go false v true false = refl
    go false v false s = refl
