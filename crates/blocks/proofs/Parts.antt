-- Blocks as parts of a region, and their names and contents as parts of a block.
use Rattle.std.specs.Prelude.{if◌then◌else◌}
use mathlib.Core.Path.{◌≡◌, refl}
use Prim.Native.Nat.{ℕ, ◌+◌, ◌-◌, ◌≤◌, ◌<◌}
use native.Mathlib.Nat.{add-sub_cancel_left}
use native.Mathlib.Omega.{arith}
use mathlib.Core.List.{[]}
use mathlib.Core.Bool.{Bool, true, false}
use Rattle.std.specs.Prelude.{Option, None, Some}
use Rattle.std.specs.Borrow.{Bor}
use Rattle.std.specs.Option.{MatchOption, unwrap_or}
use mathlib.Core.Logic.{◌⊎◌, ⊎_elim}
use borrow.Author.Tests.{leb-true, le-leb, lt-leb}
use lib.Dec.{leb, ltb}
use lib.ListN.{length, take, drop, length-take, length-drop, drop_of_length-le}
use lib.Seq.{take_all}
use Rattle.names.specs.Bytes.{Bytes}
use Rattle.names.specs.Name.{longest}
use Rattle.names.proofs.Parts.{tail_part}
use Rattle.blocks.specs.Layout.{block_size, name_at, content_at, longest_content}
use Rattle.blocks.specs.Block.{between, name_length, content_length, block_name, block_content}
use Rattle.blocks.specs.Entry.{loose, packed_record, peeled_in, entry_of}
use Rattle.blocks.specs.Means.{block_at, block_count, name_within, content_within, name_in, content_in}

-- a part that begins at a and has n bytes
pub part_is : (s : Bytes) (a n : ℕ) → between s a (a + n) ≡ take n (drop a s)
part_is s a n = rw add-sub_cancel_left

pub length_block : (s : Bytes) (k : ℕ) → k < block_count s → length (block_at s k) ≡ block_size
length_block s k h = simp (length-take, length-drop) (omega arith)

module _ (b : Bytes) where
  pub name_held : name_length b ≤ longest → name_within b ≡ block_name b
  name_held h = rw (le-leb (name_length b) longest h)

  pub content_held : content_length b ≤ longest_content → content_within b ≡ block_content b
  content_held h = rw (le-leb (content_length b) longest_content h)

-- ---- names and contents are short enough

within_longest : (m k : ℕ) (s : Bytes) → length (if leb k m then take k s else []) ≤ m
within_longest m k s = go (leb k m) refl
  where
    go : (b : Bool) → leb k m ≡ b → length (if b then take k s else []) ≤ m
    go true e = omega (arith, length-take k s, leb-true k m e)
    go false e = omega arith

pub name_within_short : (b : Bytes) → length (name_within b) ≤ longest
unfolding block_name
name_within_short b = within_longest longest (name_length b) (drop name_at b)

pub content_within_short : (b : Bytes) → length (content_within b) ≤ longest_content
unfolding block_content
content_within_short b = within_longest longest_content (content_length b) (drop content_at b)

in_longest : (m : ℕ) (b : Bool) (s : Bytes) → length s ≤ m → length (if b then s else []) ≤ m
in_longest m true s h = h
in_longest m false s h = omega arith

-- the same of block k
pub name_short : (s : Bytes) (k : ℕ) → length (name_in s k) ≤ longest
name_short s k = in_longest longest (ltb k (block_count s)) _ (name_within_short (block_at s k))

pub content_short : (s : Bytes) (k : ℕ) → length (content_in s k) ≤ longest_content
content_short s k = in_longest longest_content (ltb k (block_count s)) _ (content_within_short (block_at s k))

-- ---- entries

-- a record of one id, and of two
module _ (width : ℕ) (n c : Bytes) where
  pub one_id : length c ≤ width → packed_record n c None ≡ entry_of width 4 n c
  unfolding entry_of
  one_id h = rw (le-leb (length c) width h, take_all width c h)

  pub two_ids : width < length c → packed_record n (take width c) (Some (drop width c)) ≡ entry_of width 4 n c
  unfolding entry_of
  two_ids h = rw (lt-leb (length c) width h)

-- what the kind tells of a block that is taken for sound
module _ (width k : ℕ) (n c : Bytes) where
  pub taken_loose : k ≡ 1 → Some (loose n c) ≡ Some (entry_of width k n c)
  unfolding entry_of
  taken_loose e = rw e

  pub taken_record : k ≡ 4 → Some (packed_record n (take width c) (peeled_in width c)) ≡ Some (entry_of width k n c)
  unfolding entry_of
  taken_record e = rw e

-- what `get` gives of the part from i on, or else nothing
pub rest_got : (s : Bytes) (i : ℕ) (o : Option (Bor Bytes)) (d r : Bor Bytes) → d.now ≡ []
    → MatchOption o ((length s < i) ⊎ (length s < length s)) (λ x. (i ≤ length s) × (length s ≤ length s) × (x.now ≡ take (length s - i) (drop i s)) × (length x.now + i ≡ length s))
    → r ≡ unwrap_or o d → r.now ≡ drop i s
rest_got s i None d r e h f =
    let l : length s ≤ i = ⊎_elim (λ a. omega arith) (λ a. omega arith) h in
    rw (f, e, drop_of_length-le s l)
rest_got s i (Some x) d r e h f = rw (f, h.2, tail_part s i)
