-- The premises of demand 3 on entries, in a namespace whose expansion is e (empty where there is none).
use mathlib.Core.Path.{◌≡◌, sym, ◌∙◌}
use mathlib.Core.Logic.{◌⊎◌, inl, inr}
use Prim.Native.Nat.{ℕ}
use mathlib.Core.List.{[], ◌++◌}
use mathlib.Core.Bool.{Bool, true, false, ◌||◌}
use Rattle.std.specs.Prelude.{Option, None, Some}
use Rattle.names.specs.Bytes.{Bytes}
use Rattle.names.specs.Name.{under_refs, directory, remote_head}
use Rattle.names.specs.WellFormed.{well_formed}
use Rattle.names.specs.Category.{is_private}
use Rattle.names.specs.Route.{shared}
use Rattle.names.proofs.Placed.{begins_r}
use Rattle.blocks.specs.Content.{object, reads, lower_case, read}
use Rattle.blocks.specs.Entry.{Entry, loose, packed_record}
use Rattle.blocks.proofs.Raw.{IsRecord}
use Rattle.blocks.specs.Snapshot.{Store, or_empty, is_there, region_at}
use Rattle.refs.specs.Answer.{block_of}

pub record Alike (s t : Store) (n : Bytes) : Type 0 where
  pub in_worktree : block_of n s.worktree ≡ block_of n t.worktree
  pub in_common : block_of n (or_empty s.common) ≡ block_of n (or_empty t.common)
  pub in_packed : block_of n s.packed ≡ block_of n t.packed

-- what a packed region has of a name is a record, and the name is well formed
abbrev pub Records : Store → Type 0
Records s = (n : Bytes) (f : Entry) → block_of n s.packed ≡ Some f → IsRecord f × (well_formed n ≡ true)

unfoldable pub held : Store → Bytes → Bool
held s n = is_there (block_of n s.worktree) || is_there (block_of n (or_empty s.common)) || is_there (block_of n s.packed)

module _ (width : ℕ) (e : Bytes) where
  -- n, behind e, holds the id: loose where a shared name is read, or packed and not loose there
  pub data Holds (s : Store) (n id : Bytes) : Type 0 where
    as_loose : (c : Bytes) → block_of (e ++ n) (region_at shared s) ≡ Some (loose (e ++ n) c) → read width c ≡ reads (object id) → Holds s n id
    as_packed : (t : Bytes) (p : Option Bytes) → block_of (e ++ n) (region_at shared s) ≡ None
        → block_of (e ++ n) s.packed ≡ Some (packed_record (e ++ n) t p) → lower_case t ≡ id → Holds s n id

  pub record Differs (s t : Store) (n : Bytes) : Type 0 where
    pub listed_shared : is_private (e ++ n) ≡ false
    pub is_shared : is_private n ≡ false
    pub under : under_refs n ≡ true
    pub not_remote_head : remote_head n ≡ false
    pub id : Bytes
    pub holds : Holds s n id
    pub holds' : Holds t n id
    pub worktree_alike : is_there s.common ≡ true → block_of (e ++ n) s.worktree ≡ block_of (e ++ n) t.worktree

  -- n is alike in both, or one of the names in which they differ
  abbrev pub Each : Store → Store → Bytes → Type 0
  Each s t n = Alike s t n ⊎ ((m : Bytes) × (n ≡ e ++ m) × Differs s t m)

  pub record StoreCut (s t : Store) : Type 0 where
    pub flat : (m n : Bytes) → held s m ≡ true → held s n ≡ true → directory m n ≡ false
    pub flat' : (m n : Bytes) → held t m ≡ true → held t n ≡ true → directory m n ≡ false
    pub each : (n : Bytes) → Each s t n
    pub same_common : is_there s.common ≡ is_there t.common
    pub records : Records s
    pub records' : Records t
    -- no held name begins with the expansion twice over, which begins refs/namespaces/
    pub once : (n : Bytes) → held s (e ++ (e ++ n)) ≡ true → e ≡ []
    pub once' : (n : Bytes) → held t (e ++ (e ++ n)) ≡ true → e ≡ []
    pub expansion : (e ≡ []) ⊎ (begins_r e ≡ true)

  -- ---- the other way round

  pub cut_sym : (s t : Store) → StoreCut s t → StoreCut t s
  cut_sym s t c =
      record {
        flat = c.flat';
        flat' = c.flat;
        each = λ n. swap n (c.each n);
        same_common = sym c.same_common;
        records = c.records';
        records' = c.records;
        once = c.once';
        once' = c.once;
        expansion = c.expansion;
      }
    where
      swap : (n : Bytes) → Each s t n → Each t s n
      swap n (inl a) = inl (record { in_worktree = sym a.in_worktree; in_common = sym a.in_common; in_packed = sym a.in_packed })
      swap n (inr w) =
          let d = w.2 in
          inr (
            w.0,
            w.1,
            record {
              listed_shared = d.listed_shared;
              is_shared = d.is_shared;
              under = d.under;
              not_remote_head = d.not_remote_head;
              id = d.id;
              holds = d.holds';
              holds' = d.holds;
              worktree_alike = λ h. sym (d.worktree_alike (c.same_common ∙ h));
            },
          )
