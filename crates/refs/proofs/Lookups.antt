-- One candidate: from what the parts of a search promise to the definition's answer.
use mathlib.Core.Path.{◌≡◌, refl, sym, ◌∙◌}
use mathlib.Core.List.{◌++◌}
use mathlib.Core.Bool.{Bool, true, false, true≢false}
use Rattle.std.specs.Prelude.{Option, None, Some, is_some}
use Rattle.names.specs.Bytes.{Bytes}
use Rattle.names.specs.Route.{Base, at, route, packed_name}
use Rattle.names.specs.Means.{if_fits}
use Rattle.names.proofs.Held.{fits_is, fits_there, fits_not}
use Rattle.blocks.specs.Entry.{Entry}
use Rattle.blocks.specs.Snapshot.{Snapshot, Store, store, region_at}
use Rattle.blocks.specs.Means.{id_width}
use Rattle.refs.specs.Answer.{nothing, block_of}
use Rattle.refs.specs.Search.{clashes, deciding, file_of, record_of, entry_for, answer_of, lookup}
use Rattle.blocks.specs.Means.{entry_as}
use Rattle.refs.specs.Promises.{candidate, looked_up}
use Rattle.refs.specs.declared.fit.BlockEntry.{BlockEntry}
use Rattle.std.specs.Option.{option_map}

-- ---- the entry that decides

module _ (e n : Bytes) (s : Store) (b : Base) (path : Bytes) (q : at b path ≡ route n) (seek : Bool) where
  decided : entry_for e s (candidate n seek) ≡ deciding (clashes (e ++ path) (region_at b s)) (block_of (e ++ path) (region_at b s)) (record_of e s seek (packed_name n))
  unfolding entry_for file_of
  decided = rw (← q)

  pub clash_decides : clashes (e ++ path) (region_at b s) ≡ true → None ≡ entry_for e s (candidate n seek)
  clash_decides h = sym (decided ∙ rw h)

  module _ (h : clashes (e ++ path) (region_at b s) ≡ false) where
    module _ (f : Option BlockEntry) (k : option_map (λ b. entry_as b.entry) f ≡ block_of (e ++ path) (region_at b s)) where
      pub file_decides : is_some f ≡ true → option_map (λ b. entry_as b.entry) f ≡ entry_for e s (candidate n seek)
      file_decides t = go f k t
        where
          go : (f : Option BlockEntry) → option_map (λ b. entry_as b.entry) f ≡ block_of (e ++ path) (region_at b s) → is_some f ≡ true → option_map (λ b. entry_as b.entry) f ≡ entry_for e s (candidate n seek)
          go None k t = absurd (true≢false (sym t))
          go (Some f) k t = sym (decided ∙ rw (h, ← k))

      module _ (t : is_some f ≡ false) where
        no_file : entry_for e s (candidate n seek) ≡ record_of e s seek (packed_name n)
        no_file = decided ∙ rw (h, ← k) (go f t)
          where
            go : (f : Option BlockEntry) → is_some f ≡ false → deciding false (option_map (λ b. entry_as b.entry) f) (record_of e s seek (packed_name n)) ≡ record_of e s seek (packed_name n)
            go None t = refl
            go (Some f) t = absurd (true≢false t)

        pub unsought : seek ≡ false → None ≡ entry_for e s (candidate n seek)
        unsought z = sym (no_file ∙ rw z)

        pub never_sought : seek ≡ true → None ≡ packed_name n → None ≡ entry_for e s (candidate n seek)
        never_sought z p = sym (no_file ∙ rw (z, ← p))

        pub record_decides : seek ≡ true → (m : Bytes) → Some m ≡ packed_name n → block_of (e ++ m) s.packed ≡ entry_for e s (candidate n seek)
        record_decides z m p = sym (no_file ∙ rw (z, ← p))

-- ---- a candidate that a name holds, or not

module _ (e : Bytes) (s : Snapshot) (n : Bytes) (seek : Bool) where
  pub absent_looked_up : None ≡ if_fits n → nothing ≡ looked_up e s n seek
  unfolding lookup
  absent_looked_up h = rw (fits_not n h)

  pub held_looked_up : (m : Bytes) → Some m ≡ if_fits n → (o : Option Entry) → o ≡ entry_for e (store id_width s) (candidate m seek) → answer_of id_width e m o ≡ looked_up e s n seek
  unfolding lookup
  held_looked_up m h o k = rw (k, fits_is n m h, fits_there n m h)
