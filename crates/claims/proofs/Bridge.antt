-- From bytes to entries: what a region's blocks of a name are, its entries are.
use Rattle.std.specs.Prelude.{if◌then◌else◌}
use mathlib.Core.Path.{◌≡◌, refl, sym, ◌∙◌}
use Prim.Native.Nat.{ℕ}
use mathlib.Core.List.{List, [], ◌∷◌, map}
use mathlib.Core.Bool.{Bool, true, false, ◌&&◌}
use Rattle.std.specs.Prelude.{Option, None, Some}
use Rattle.std.specs.Option.{option_map}
use Rattle.names.specs.Bytes.{Bytes, same}
use Rattle.names.specs.Route.{shared}
use Rattle.names.proofs.Tests.{if_eq, none≢Some}
use Rattle.names.proofs.Orders.{same_eq}
use Rattle.blocks.specs.Block.{Region, block_kind, block_name, block_content}
use Rattle.blocks.specs.Entry.{Entry, name_of, entry_of, entry, blocks, entries}
use Rattle.blocks.proofs.Sorted.{Sorted, sorted-∷}
use Rattle.blocks.proofs.Stores.{entries_are, entries_if_any, store_is}
use Rattle.blocks.proofs.Raw.{Raw, raw, packed_entry, packed_good}
use Rattle.blocks.specs.Snapshot.{Snapshot, store, or_empty, is_there, common_or, region_at}
use Rattle.refs.specs.Answer.{bears, block_of}
use Rattle.claims.specs.Demand3.{is_named, Held, held_by, bearing, held_in, some_held, is_held}
use Rattle.refs.proofs.Clauses.{block_none, block_more}
use Rattle.refs.proofs.Blocks.{block_bears}
use Rattle.claims.proofs.Runs.{Ordered}
use Rattle.claims.proofs.StoreCut.{Records, held}

-- the entry of the first of the blocks that bear the name n
abbrev pub first_entry : ℕ → Bytes → List Held → Option Entry
first_entry width n [] = None
first_entry width n (h ∷ l) = Some (entry_of width h.kind n h.content)

-- ---- one region

module _ (width : ℕ) (r : Region) where
  blocks_entry : (n : Bytes) (l : List Bytes) {b : Option Bytes} → Sorted b (map (entry width r) l) → block_of n (map (entry width r) l) ≡ first_entry width n (bearing n l)
  unfolding bearing
  blocks_entry n [] s = rw (block_none n)
  blocks_entry n (x ∷ l) (sorted-∷ m e a s) = rw (block_more n (entry width r x) (map (entry width r) l), e) (step (raw width r x m e) (blocks_entry n l s))
    where
      go : (b : Bool) → same (block_name x) n ≡ b → entry width r x ≡ entry_of width (block_kind x) (block_name x) (block_content x) → block_of n (map (entry width r) l) ≡ first_entry width n (bearing n l)
          → (if b then Some (entry width r x) else block_of n (map (entry width r) l)) ≡ first_entry width n (if b then held_by x ∷ bearing n l else bearing n l)
      go true q i ih = rw (i, same_eq (block_name x) n q)
      go false q i ih = ih

      step : Raw width r x m → block_of n (map (entry width r) l) ≡ first_entry width n (bearing n l)
          → (if bears n (Some m) then Some (entry width r x) else block_of n (map (entry width r) l)) ≡ first_entry width n (if is_named x && same (block_name x) n then held_by x ∷ bearing n l else bearing n l)
      step w ih = rw (w.kinds, ← w.named) (go (same (block_name x) n) refl w.is ih)

  region_entry : (n s : Bytes) → Sorted None (entries width r s) → block_of n (entries width r s) ≡ first_entry width n (held_in s n)
  region_entry n s h = rw (entries_are width r s) (blocks_entry n (blocks s) (rw (entries_are width r s) at h))

-- the block of a name is one of the region's
block_made : (width : ℕ) (r : Region) (n : Bytes) (f : Entry) (l : List Bytes) → block_of n (map (entry width r) l) ≡ Some f → (b : Bytes) × (entry width r b ≡ f)
block_made width r n f [] h = none≢Some (sym (block_none n) ∙ h)
block_made width r n f (x ∷ l) h =
    if_eq (bears n (name_of (entry width r x))) (sym (block_more n (entry width r x) (map (entry width r) l)) ∙ h) (λ b k. (x, cc)) (λ b k. block_made width r n f l k)

pub region_made : (width : ℕ) (r : Region) (n : Bytes) (f : Entry) (s : Bytes) → block_of n (entries width r s) ≡ Some f → (b : Bytes) × (entry width r b ≡ f)
region_made width r n f s h = block_made width r n f (blocks s) (rw (entries_are width r s) at h)

-- what a packed region has of a name is a record, and the name is well formed
pub records_of : (width : ℕ) (s : Snapshot) → Records (store width s)
records_of width s n f h =
    let m = region_made width Region.packed n f s.packed (rw (store_is width s) at h) in
    let e : name_of (entry width Region.packed m.0) ≡ Some n = rw m.1 (block_bears n f (store width s).packed h) in
    (rw (← m.1) (packed_entry width m.0 n e), packed_good width m.0 n e)

-- ---- three regions

pub common_there : (width : ℕ) (s : Snapshot) → is_there (store width s).common ≡ is_there s.common
common_there width s = rw (store_is width s) (go s.common)
  where
    go : (o : Option Bytes) → is_there (option_map (entries width Region.common) o) ≡ is_there o
    go None = refl
    go (Some c) = refl

module _ (width : ℕ) (s : Snapshot) (o : Ordered (store width s)) (n : Bytes) where
  pub in_worktree : block_of n (store width s).worktree ≡ first_entry width n (held_in s.worktree n)
  in_worktree = rw (store_is width s) (region_entry width Region.worktree n s.worktree (rw (store_is width s) at o.worktree))

  pub in_common : block_of n (or_empty (store width s).common) ≡ first_entry width n (held_in (or_empty s.common) n)
  in_common =
      rw (store_is width s, entries_if_any width Region.common s.common)
      (region_entry width Region.common n (or_empty s.common) (rw (store_is width s, entries_if_any width Region.common s.common) at o.common))

  pub in_packed : block_of n (store width s).packed ≡ first_entry width n (held_in s.packed n)
  in_packed = rw (store_is width s) (region_entry width Region.packed n s.packed (rw (store_is width s) at o.packed))

  -- where a shared name is read
  pub in_shared : block_of n (region_at shared (store width s)) ≡ first_entry width n (held_in (region_at shared s) n)
  in_shared = rw (store_is width s) (go s.common (rw (store_is width s) at o.common))
    where
      go : (c : Option Bytes) → Sorted None (or_empty (option_map (entries width Region.common) c))
          → block_of n (common_or (option_map (entries width Region.common) c) (entries width Region.worktree s.worktree)) ≡ first_entry width n (held_in (common_or c s.worktree) n)
      go None h = rw (store_is width s) at in_worktree
      go (Some c) h = region_entry width Region.common n c h

  pub there : (l : List Held) → is_there (first_entry width n l) ≡ some_held l
  there [] = refl
  there (h ∷ l) = refl

  pub held_is : held (store width s) n ≡ is_held s n
  unfolding held is_held
  held_is = rw (in_worktree, in_common, in_packed, there (held_in s.worktree n), there (held_in (or_empty s.common) n), there (held_in s.packed n))
