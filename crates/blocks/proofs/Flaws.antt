-- Fitness: the flaw of one block, and one step of the scan of a region.
use mathlib.Core.Path.{◌≡◌, refl, sym}
use Rattle.std.specs.Prelude.{Option, None, Some}
use Prim.Native.Nat.{ℕ, suc, ◌+◌, ◌≤◌, ◌<◌}
use native.Mathlib.Numerals.{add-one}
use native.Mathlib.Omega.{arith}
use lib.ListN.{length, drop, drop_of_length-le}
use Rattle.names.specs.Bytes.{Bytes}
use Rattle.names.proofs.Tests.{none≢Some}
use Rattle.blocks.specs.Block.{Region}
use Rattle.blocks.specs.Entry.{name_of, entry, entries}
use Rattle.blocks.specs.Fitness.{Flaw, flaw, flaw_or, flaw_from, first_flaw}
use Rattle.blocks.specs.Snapshot.{Snapshot, Store, or_empty, or_flaw, store, store_flaw}
use Rattle.blocks.specs.Means.{block_at, block_count}
use Rattle.blocks.proofs.Walks.{length_entries}
use Rattle.blocks.proofs.Entries.{entries_at}
use Rattle.blocks.proofs.Stores.{entries_if_any, store_is}

-- ---- the name before

-- ---- the scan

module _ (width : ℕ) (r : Region) (s : Bytes) where
  pub scan_start : first_flaw r (entries width r s) ≡ flaw_from r None 0 (entries width r s)
  unfolding first_flaw
  scan_start = refl

  module _ (before : Option Bytes) (k : ℕ) where
    at_block : k < block_count s → flaw_from r before k (drop k (entries width r s))
        ≡ flaw_or (flaw before (entry width r (block_at s k))) r k (flaw_from r (name_of (entry width r (block_at s k))) (suc k) (drop (k + 1) (entries width r s)))
    unfolding flaw_from
    at_block h = rw (entries_at width r s k h)

    pub scan_stop : k < block_count s → (n : ℕ) → Some n ≡ flaw before (entry width r (block_at s k))
        → Some (record { number = n; region = r; block = k }) ≡ flaw_from r before k (drop k (entries width r s))
    scan_stop h n e = rw (at_block h, ← e)

    pub scan_more : k < block_count s → None ≡ flaw before (entry width r (block_at s k))
        → flaw_from r before k (drop k (entries width r s)) ≡ flaw_from r (name_of (entry width r (block_at s k))) (k + 1) (drop (k + 1) (entries width r s))
    scan_more h e = rw (at_block h, ← e, add-one)

    pub scan_end : block_count s ≤ k → flaw_from r before k (drop k (entries width r s)) ≡ None
    unfolding flaw_from
    scan_end h =
        let l : length (entries width r s) ≤ k = omega (arith, length_entries width r s) in
        rw (drop_of_length-le (entries width r s) l)

-- ---- three regions

abbrev pub region_flaw : ℕ → Region → Bytes → Option Flaw
region_flaw width r s = first_flaw r (entries width r s)

pub three_regions : (width : ℕ) (s : Snapshot) → store_flaw (store width s)
    ≡ or_flaw (region_flaw width Region.worktree s.worktree) (or_flaw (region_flaw width Region.common (or_empty s.common)) (region_flaw width Region.packed s.packed))
unfolding store_flaw
three_regions width s = rw (store_is width s, entries_if_any width Region.common s.common)

or_none : (f g : Option Flaw) → or_flaw f g ≡ None → (f ≡ None) × (g ≡ None)
or_none None g h = (refl, h)
or_none (Some f) g h = none≢Some (sym h)

-- a store has no flaw: no region has one
pub store_flawless : (s : Store) → store_flaw s ≡ None → (first_flaw Region.worktree s.worktree ≡ None) × (first_flaw Region.common (or_empty s.common) ≡ None) × (first_flaw Region.packed s.packed ≡ None)
unfolding store_flaw
store_flawless s h =
    let a = or_none (first_flaw Region.worktree s.worktree) _ h in
    let b = or_none (first_flaw Region.common (or_empty s.common)) _ a.1 in
    (a.0, b.0, b.1)
