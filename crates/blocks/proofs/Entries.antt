-- The entry of a block of a region.
use mathlib.Core.Path.{◌≡◌}
use mathlib.Core.Bool.{true, false, not}
use mathlib.Core.List.{◌∷◌}
use Rattle.std.specs.Prelude.{None, Some}
use Prim.Native.Nat.{ℕ, ◌+◌, ◌≤◌, ◌<◌}
use native.Mathlib.Numerals.{add-one}
use native.Mathlib.Omega.{arith}
use borrow.Author.Tests.{not-true}
use lib.ListN.{length, drop, drop_of_length-le}
use lib.Seq.{drop-cons}
use Rattle.names.specs.Bytes.{Bytes}
use Rattle.blocks.specs.Block.{Region, block_kind, block_name, block_content, sound}
use Rattle.blocks.specs.Entry.{damaged, entry_of, entry, entries}
use Rattle.blocks.specs.Means.{block_at, block_count, name_within, content_within, taken_entry, entry_in}
use Rattle.blocks.proofs.Walks.{length_entries, entry_at}
use Rattle.blocks.proofs.Parts.{name_held, content_held}
use Rattle.blocks.proofs.Clauses.{lengths_name, lengths_content, sound_lengths}

module _ (width : ℕ) (r : Region) where
  module _ (s : Bytes) (k : ℕ) where
    -- what is left of a region's entries from block k on
    pub entries_at : k < block_count s → drop k (entries width r s) ≡ entry width r (block_at s k) ∷ drop (k + 1) (entries width r s)
    entries_at h =
        let l : k < length (entries width r s) = omega (arith, length_entries width r s) in
        rw (add-one, drop-cons (entries width r s) k damaged l, entry_at width r s k damaged h)

    pub entry_there : k < block_count s → entry_in width r s k ≡ Some (entry width r (block_at s k))
    entry_there h = rw (entries_at h)

    pub entry_past : block_count s ≤ k → None ≡ entry_in width r s k
    entry_past h =
        let l : length (entries width r s) ≤ k = omega (arith, length_entries width r s) in
        rw (drop_of_length-le (entries width r s) l)

  module _ (b : Bytes) where
    pub entry_damaged : not (sound width r b) ≡ true → entry width r b ≡ damaged
    unfolding entry
    entry_damaged e = rw (not-true (sound width r b) e)

    pub entry_unsound : sound width r b ≡ false → damaged ≡ entry width r b
    unfolding entry
    entry_unsound e = rw e

    pub entry_is : sound width r b ≡ true → entry_of width (block_kind b) (block_name b) (block_content b) ≡ entry width r b
    unfolding entry
    entry_is e = rw e

    -- name and content of a sound block are held whole
    pub sound_name : sound width r b ≡ true → name_within b ≡ block_name b
    sound_name h = name_held b (lengths_name b (sound_lengths width b r h))

    pub sound_content : sound width r b ≡ true → content_within b ≡ block_content b
    sound_content h = content_held b (lengths_content b (sound_lengths width b r h))

    pub entry_sound : sound width r b ≡ true → entry width r b ≡ taken_entry width b
    unfolding entry
    entry_sound h = rw (h, sound_name h, sound_content h)
