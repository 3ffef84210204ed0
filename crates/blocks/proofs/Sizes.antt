-- Regions of right sizes.
use mathlib.Core.Path.{◌≡◌, refl, sym}
use Prim.Native.Nat.{ℕ, ◌*◌, ◌≤◌}
use native.Mathlib.Omega.{arith}
use mathlib.Core.Bool.{Bool, true, false, ◌&&◌}
use mathlib.Core.List.{[], ◌∷◌}
use Rattle.std.specs.List.{list_all}
use Rattle.std.specs.Prelude.{Option, None, Some}
use Rattle.std.specs.Option.{option_map}
use borrow.Author.Tests.{leb-true}
use lib.ListN.{length}
use Rattle.names.specs.Bytes.{Bytes}
use Rattle.names.specs.Check.{unless, ◌or_else◌}
use Rattle.names.proofs.Tests.{none≢Some}
use Rattle.blocks.specs.Layout.{block_size, most_blocks}
use Rattle.blocks.specs.Block.{Region}
use Rattle.blocks.specs.Entry.{entries}
use Rattle.blocks.specs.Fitness.{whole, not_too_many}
use Rattle.blocks.specs.Snapshot.{Snapshot, Store, store, or_empty, sizes_within, size_check}
use Rattle.blocks.proofs.Walks.{length_entries}

-- of three in a row
pub all_three : (test : ℕ → Bool) (w c p : ℕ) → list_all test (w ∷ c ∷ p ∷ []) ≡ (test w && test c && test p)
all_three test w c p = go (test w) (test c) (test p)
  where
    go : (x y z : Bool) → (x && (y && (z && true))) ≡ (x && y && z)
    go true true true = refl
    go true true false = refl
    go true false z = refl
    go false y z = refl

-- no more blocks than are allowed
pub record SizesRight (most w c p : ℕ) : Type 0 where
  pub worktree : w ≤ most * block_size
  pub common : c ≤ most * block_size
  pub packed : p ≤ most * block_size

-- rows 1 and 2 passed
pub sizes_right : (most w c p : ℕ) → sizes_within most w c p ≡ None → SizesRight most w c p
unfolding sizes_within
sizes_right most w c p h = go (whole w && whole c && whole p) (not_too_many most w) (not_too_many most c) (not_too_many most p) (leb-true _ _) (leb-true _ _) (leb-true _ _) h
  where
    go : (b x y z : Bool) → (x ≡ true → w ≤ most * block_size) → (y ≡ true → c ≤ most * block_size) → (z ≡ true → p ≤ most * block_size)
        → (unless 1 b or_else unless 2 (x && y && z)) ≡ None → SizesRight most w c p
    go true true true true f g k r = record { worktree = f refl; common = g refl; packed = k refl }
    go true true true false f g k r = absurd (none≢Some (sym r))
    go true true false z f g k r = absurd (none≢Some (sym r))
    go true false y z f g k r = absurd (none≢Some (sym r))
    go false x y z f g k r = absurd (none≢Some (sym r))

-- no region of the store has more than m entries
pub record Few (m : ℕ) (s : Store) : Type 0 where
  pub worktree : length s.worktree ≤ m
  pub common : length (or_empty s.common) ≤ m
  pub packed : length s.packed ≤ m

pub few : (width : ℕ) (s : Snapshot) → size_check s ≡ None → Few most_blocks (store width s)
unfolding size_check store
few width s h =
    let right = sizes_right most_blocks (length s.worktree) (length (or_empty s.common)) (length s.packed) h in
    record {
      worktree = bounded Region.worktree s.worktree right.worktree;
      common = absent_or s.common right.common;
      packed = bounded Region.packed s.packed right.packed;
    }
  where
    bounded : (r : Region) (b : Bytes) → length b ≤ most_blocks * block_size → length (entries width r b) ≤ most_blocks
    bounded r b k = omega (arith, length_entries width r b, k)

    absent_or : (c : Option Bytes) → length (or_empty c) ≤ most_blocks * block_size → length (or_empty (option_map (entries width Region.common) c)) ≤ most_blocks
    absent_or None k = omega arith
    absent_or (Some c) k = bounded Region.common c k
