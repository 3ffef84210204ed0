-- The premises of demand 3, in a namespace or in none, with one of them left out, or none.
use mathlib.Core.Path.{◌≡◌, refl, subst}
use mathlib.Core.Logic.{◌⊎◌, inl, inr}
use Prim.Native.Nat.{ℕ}
use mathlib.Core.List.{[], ◌∷◌}
use mathlib.Core.Bool.{Bool, true, false}
use Rattle.std.specs.Prelude.{Option, None}
use Rattle.names.specs.Bytes.{Bytes, starts_with}
use Rattle.names.specs.Name.{under_refs, remote_head}
use Rattle.names.specs.WellFormed.{well_formed}
use Rattle.names.specs.Category.{is_private}
use Rattle.names.specs.Namespace.{expansion}
use Rattle.names.specs.Route.{Base, route}
use Rattle.blocks.specs.Content.{object, reads, read}
use Rattle.blocks.specs.Snapshot.{Snapshot, is_there, region_at, Fit}
use Rattle.claims.specs.Demand3.{held_in, Flat, Once, Agree, remainder, read_in, LooseId, PackedId, Has, Differ, Cut}
use Rattle.claims.proofs.Tested.{kept_by, Where}

-- the premises, in the words of demand 3 and of document 02, §13
pub data Premise : Type 0 where
  -- "no namespace", or the one that is given
  same_namespace : Premise
  both_fit : Premise
  no_directory : Premise
  shared_names : Premise
  under_refs_only : Premise
  not_remote_heads : Premise
  same_id : Premise
  where_search_reads : Premise
  no_other_block : Premise
  worktree_alike : Premise
  others_agree : Premise
  both_or_neither_common : Premise
  -- "no held name begins with the expansion twice over"
  twice_over : Premise

abbrev index : Premise → ℕ
index same_namespace = 0
index both_fit = 1
index no_directory = 2
index shared_names = 3
index under_refs_only = 4
index not_remote_heads = 5
index same_id = 6
index where_search_reads = 7
index no_other_block = 8
index worktree_alike = 9
index others_agree = 10
index both_or_neither_common = 11
index twice_over = 12

-- the premise p, unless it is the one left out
abbrev pub kept : Option Premise → Premise → Bool
kept = kept_by index

abbrev pub Keeps : Option Premise → Premise → Type 0 → Type 0
Keeps out p A = Where (kept out p) A

-- ---- the premises of specs/Demand3, one of them left out, or none

module _ (out : Option Premise) (width : ℕ) (namespace : Option Bytes) where
  -- a block of kind 1 that decodes to the id, in the region of a base
  pub record LooseIn (s : Snapshot) (n id : Bytes) : Type 0 where
    pub base : Base
    pub is_read : Keeps out where_search_reads (base ≡ (route (remainder namespace n)).base)
    pub content : Bytes
    pub there : held_in (region_at base s) n ≡ record { kind = 1; content = content } ∷ []
    pub decodes : read width content ≡ reads (object id)

  pub data HasBut (s : Snapshot) (n id : Bytes) : Type 0 where
    loose : LooseIn s n id → held_in s.packed n ≡ [] → HasBut s n id
    packed : PackedId width s n id → Keeps out no_other_block (held_in (read_in namespace s n) n ≡ []) → HasBut s n id
    over_stale : LooseIn s n id → (stale : Bytes) → PackedId width s n stale → HasBut s n id

  pub record DifferBut (s t : Snapshot) (n : Bytes) : Type 0 where
    pub inside : starts_with (expansion namespace) n ≡ true
    pub good : well_formed (remainder namespace n) ≡ true
    pub is_shared : Keeps out shared_names (is_private (remainder namespace n) ≡ false)
    pub under : Keeps out under_refs_only (under_refs (remainder namespace n) ≡ true)
    pub not_remote_head : Keeps out not_remote_heads (remote_head (remainder namespace n) ≡ false)
    pub id : Bytes
    pub id' : Bytes
    pub ids : Keeps out same_id (id' ≡ id)
    pub has : HasBut s n id
    pub has' : HasBut t n id'
    pub alike : Keeps out worktree_alike (is_there s.common ≡ true → held_in s.worktree n ≡ held_in t.worktree n)

  pub record CutBut (s t : Snapshot) : Type 0 where
    -- where it is left out, the second snapshot is still fit
    pub fit : Keeps out both_fit (Fit width s)
    pub fit' : Fit width t
    pub flat : Keeps out no_directory (Flat s)
    pub flat' : Keeps out no_directory (Flat t)
    pub once : Keeps out twice_over (Once namespace s)
    pub once' : Keeps out twice_over (Once namespace t)
    pub each : Keeps out others_agree ((n : Bytes) → Agree s t n ⊎ DifferBut s t n)
    pub same_common : Keeps out both_or_neither_common (is_there s.common ≡ is_there t.common)

-- with none left out they are the premises of specs/Demand3
module _ (width : ℕ) (namespace : Option Bytes) (s t : Snapshot) where
  loose_of : (u : Snapshot) (n id : Bytes) → LooseIn None width namespace u n id → LooseId width namespace u n id
  loose_of u n id l = record { content = l.content; there = subst (λ (b : Base). held_in (region_at b u) n ≡ record { kind = 1; content = l.content } ∷ []) l.is_read l.there; decodes = l.decodes }

  has_of : (u : Snapshot) (n id : Bytes) → HasBut None width namespace u n id → Has width namespace u n id
  has_of u n id (HasBut.loose l h) = Has.loose (loose_of u n id l) h
  has_of u n id (HasBut.packed p h) = Has.packed p h
  has_of u n id (HasBut.over_stale l stale p) = Has.over_stale (loose_of u n id l) stale p

  differ_of : (n : Bytes) → DifferBut None width namespace s t n → Differ width namespace s t n
  differ_of n d =
      record {
        inside = d.inside;
        good = d.good;
        is_shared = d.is_shared;
        under = d.under;
        not_remote_head = d.not_remote_head;
        id = d.id;
        has = has_of s n d.id d.has;
        has' = subst (λ (i : Bytes). Has width namespace t n i) d.ids (has_of t n d.id' d.has');
        worktree_alike = d.alike;
      }

  each_of : (n : Bytes) → Agree s t n ⊎ DifferBut None width namespace s t n → Agree s t n ⊎ Differ width namespace s t n
  each_of n (inl a) = inl a
  each_of n (inr d) = inr (differ_of n d)

  pub cut_of : CutBut None width namespace s t → Cut width namespace s t
  cut_of c = record { fit = c.fit; fit' = c.fit'; flat = c.flat; flat' = c.flat'; once = c.once; once' = c.once'; each = λ n. each_of n (c.each n); same_common = c.same_common }

  loose_in : (u : Snapshot) (n id : Bytes) → LooseId width namespace u n id → LooseIn None width namespace u n id
  loose_in u n id l = record { base = (route (remainder namespace n)).base; is_read = refl; content = l.content; there = l.there; decodes = l.decodes }

  has_in : (u : Snapshot) (n id : Bytes) → Has width namespace u n id → HasBut None width namespace u n id
  has_in u n id (Has.loose l h) = HasBut.loose (loose_in u n id l) h
  has_in u n id (Has.packed p h) = HasBut.packed p h
  has_in u n id (Has.over_stale l stale p) = HasBut.over_stale (loose_in u n id l) stale p

  each_in : (n : Bytes) → Agree s t n ⊎ Differ width namespace s t n → Agree s t n ⊎ DifferBut None width namespace s t n
  each_in n (inl a) = inl a
  each_in n (inr d) =
      inr (record {
        inside = d.inside;
        good = d.good;
        is_shared = d.is_shared;
        under = d.under;
        not_remote_head = d.not_remote_head;
        id = d.id;
        id' = d.id;
        ids = refl;
        has = has_in s n d.id d.has;
        has' = has_in t n d.id d.has';
        alike = d.worktree_alike;
      })

  pub cut_in : Cut width namespace s t → CutBut None width namespace s t
  cut_in c = record { fit = c.fit; fit' = c.fit'; flat = c.flat; flat' = c.flat'; once = c.once; once' = c.once'; each = λ n. each_in n (c.each n); same_common = c.same_common }
