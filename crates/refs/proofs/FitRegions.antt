-- Regions of a snapshot that is fit for search.
use mathlib.Core.Path.{◌≡◌}
use Rattle.std.specs.Prelude.{None, Some}
use Rattle.names.specs.Bytes.{Bytes}
use Rattle.names.specs.Route.{own, shared}
use Rattle.blocks.specs.Block.{Region}
use Rattle.blocks.specs.Entry.{entries}
use Rattle.blocks.specs.Snapshot.{Snapshot, store, store_flaw, region_at}
use Rattle.blocks.specs.Means.{id_width, region_bytes}
use Rattle.blocks.proofs.Stores.{store_is, entries_if_any}
use Rattle.blocks.proofs.Flaws.{store_flawless}
use Rattle.refs.proofs.Regions.{Flawless}

module _ (s : Snapshot) where
  pub own_is : entries id_width Region.worktree s.worktree ≡ region_at own (store id_width s)
  own_is = rw (store_is id_width s)

  pub shared_is : (c : Bytes) → s.common ≡ Some c → entries id_width Region.common (region_bytes s Region.common) ≡ region_at shared (store id_width s)
  shared_is c e = rw (store_is id_width s, e)

  pub no_common : s.common ≡ None → entries id_width Region.worktree s.worktree ≡ region_at shared (store id_width s)
  no_common e = rw (store_is id_width s, e)

  pub packed_is : entries id_width Region.packed s.packed ≡ (store id_width s).packed
  packed_is = rw (store_is id_width s)

  -- none of them has a flaw
  pub region_fit : store_flaw (store id_width s) ≡ None → (r : Region) → Flawless r (region_bytes s r)
  region_fit h Region.worktree = (rw (store_is id_width s) at (store_flawless (store id_width s) h)).0
  region_fit h Region.common = rw (store_is id_width s, entries_if_any id_width Region.common s.common) at (store_flawless (store id_width s) h).1
  region_fit h Region.packed = (rw (store_is id_width s) at (store_flawless (store id_width s) h)).2
