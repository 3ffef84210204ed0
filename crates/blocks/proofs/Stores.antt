-- What regions and stores hold, and regions without blocks.
use mathlib.Core.Path.{◌≡◌, refl}
use Prim.Native.Nat.{ℕ}
use mathlib.Core.List.{[], map}
use Rattle.std.specs.Prelude.{Option, None, Some}
use Rattle.std.specs.Option.{option_map}
use Rattle.names.specs.Bytes.{Bytes}
use Rattle.blocks.specs.Block.{Region}
use Rattle.blocks.specs.Entry.{entry, first_blocks, blocks, entries}
use Rattle.blocks.specs.Snapshot.{Snapshot, store, or_empty}

pub no_blocks : blocks [] ≡ []
unfolding blocks first_blocks
no_blocks = refl

module _ (width : ℕ) where
  pub entries_are : (r : Region) (s : Bytes) → entries width r s ≡ map (entry width r) (blocks s)
  unfolding entries
  entries_are r s = refl

  pub no_entries : (r : Region) → entries width r [] ≡ []
  no_entries r = rw (entries_are r [], no_blocks)

  -- an absent region has the entries of an empty one
  pub entries_if_any : (r : Region) (c : Option Bytes) → or_empty (option_map (entries width r) c) ≡ entries width r (or_empty c)
  entries_if_any r None = rw (no_entries r)
  entries_if_any r (Some s) = refl

  pub store_is : (s : Snapshot) → store width s
      ≡ record { worktree = entries width Region.worktree s.worktree; common = option_map (entries width Region.common) s.common; packed = entries width Region.packed s.packed }
  unfolding store
  store_is s = refl
