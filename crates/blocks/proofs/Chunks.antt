-- The blocks of a region as the library's arrays of 512 bytes, as `as_chunks` gives them.
use mathlib.Core.Path.{◌≡◌, refl, ap, ◌∙◌}
use Prim.Native.Nat.{ℕ, zero, suc, ◌+◌, ◌*◌, ◌<◌}
use native.Mathlib.Nat.{le_of_suc-le-suc, not-suc-le-zero}
use native.Mathlib.Omega.{arith}
use mathlib.Core.List.{List, [], ◌∷◌, map}
use borrow.Author.Tests.{lt-ltb}
use lib.ListN.{length, take, drop, get_or}
use lib.Seq.{take_all, drop-drop}
use Rattle.std.specs.List.{HoldsAt}
use Rattle.std.specs.Simd.{first_chunks}
use Rattle.names.specs.Bytes.{Bytes}
use Rattle.blocks.specs.Layout.{block_size}
use Rattle.blocks.specs.Block.{Region}
use Rattle.blocks.specs.Entry.{entry, first_blocks, blocks, entries}
use Rattle.blocks.specs.Means.{block_at, block_count, name_within, name_in}
use Rattle.blocks.proofs.Parts.{length_block}

-- what `s.as_chunks::<BLOCK_SIZE>().0` holds
abbrev pub chunks : Bytes → List Bytes
chunks s = first_chunks block_size (block_count s) s

length_first : (n : ℕ) (s : Bytes) → length (first_chunks block_size n s) ≡ n
length_first zero s = refl
length_first (suc n) s = ap suc (length_first n (drop block_size s))

pub length_chunks : (s : Bytes) → length (chunks s) ≡ block_count s
length_chunks s = length_first (block_count s) s

first_at : (n : ℕ) (s : Bytes) (k : ℕ) (d : Bytes) → k < n → get_or (first_chunks block_size n s) k d ≡ block_at s k
first_at zero s k d h = absurd (not-suc-le-zero h)
first_at (suc n) s zero d h = refl
first_at (suc n) s (suc k) d h =
    let e : block_size + k * block_size ≡ suc k * block_size = omega arith in
    first_at n (drop block_size s) k d (le_of_suc-le-suc h) ∙ rw (drop-drop (k * block_size) block_size s, e)

-- chunk k is block k
pub chunk_at : (s : Bytes) (k : ℕ) (d : Bytes) → k < block_count s → get_or (chunks s) k d ≡ block_at s k
chunk_at s k d h = first_at (block_count s) s k d h

first_is : (n : ℕ) (s : Bytes) → first_blocks n s ≡ first_chunks block_size n s
unfolding first_blocks
first_is zero s = refl
first_is (suc n) s = ap (λ l. take block_size s ∷ l) (first_is n (drop block_size s))

-- the definitions' blocks are the chunks
pub blocks_are : (s : Bytes) → blocks s ≡ chunks s
unfolding blocks
blocks_are s = first_is (block_count s) s

pub entries_are : (width : ℕ) (r : Region) (s : Bytes) → entries width r s ≡ map (entry width r) (chunks s)
unfolding entries
entries_are width r s = ap (map (entry width r)) (blocks_are s)

-- a slice that holds the blocks of a region
module _ (s : Bytes) (l : List Bytes) (e : l ≡ blocks s) where
  pub count : length l ≡ block_count s
  count = ap length (e ∙ blocks_are s) ∙ length_chunks s

  pub place : (k : ℕ) → k < length l → k < block_count s
  place k h = omega (arith, count, h)

  pub nth : (k : ℕ) → k < length l → (d : Bytes) → get_or l k d ≡ block_at s k
  nth k h d = rw (e, blocks_are s) (chunk_at s k d (place k h))

  -- what `get` gives of it
  pub got : (k : ℕ) (b : Bytes) → (k < length l) × HoldsAt (λ c. b ≡ c) l k → (k < block_count s) × (b ≡ block_at s k)
  got k b h = (place k h.0, h.1 [] ∙ nth k h.0 [])

-- ---- a chunk by itself is a region of one block

module _ (b : Bytes) (l : length b ≡ block_size) where
  pub one_block : block_count b ≡ 1
  one_block = rw l

  pub block_whole : block_at b 0 ≡ b
  block_whole = take_all block_size b (omega (arith, l))

  pub name_of_chunk : name_in b 0 ≡ name_within b
  name_of_chunk = rw (one_block, block_whole)

module _ (s : Bytes) (k : ℕ) (h : k < block_count s) where
  pub name_of_block : name_in (block_at s k) 0 ≡ name_in s k
  name_of_block = name_of_chunk (block_at s k) (length_block s k h) ∙ rw (lt-ltb k (block_count s) h)
