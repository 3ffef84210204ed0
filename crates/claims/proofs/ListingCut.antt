-- The listing of two snapshots that differ by a cut: equal tables at the opening.
use Rattle.std.specs.Prelude.{if◌then◌else◌}
use mathlib.Core.Path.{◌≡◌, refl, sym, ap₂, ◌∙◌}
use mathlib.Core.Bool.{Bool, true, false, false≢true, true≢false}
use mathlib.Core.Logic.{inl, inr}
use mathlib.Core.List.{List, ◌++◌}
use Rattle.std.specs.Prelude.{Option, None, Some}
use Prim.Native.Nat.{ℕ}
use Rattle.names.specs.Bytes.{Bytes, starts_with}
use Rattle.names.specs.WellFormed.{well_formed}
use Rattle.names.specs.Category.{is_private}
use Rattle.names.specs.Route.{shared}
use Rattle.names.proofs.Tests.{not_both, none≢Some, none_of}
use Rattle.blocks.specs.Content.{object}
use Rattle.blocks.specs.Entry.{Entry, damaged, failed, loose, unread, packed_record}
use Rattle.blocks.specs.Snapshot.{Store, or_empty, is_there, common_or, region_at}
use Rattle.refs.specs.Answer.{Answer, found, says, strip_answer, block_of}
use Rattle.refs.specs.View.{shown_if, see, Scope, worktree_shows, common_shows, packed_shows}
use Rattle.refs.proofs.Clauses.{block_none}
use Rattle.refs.proofs.Blocks.{block_bears}
use Rattle.claims.proofs.Waits.{shows, said}
use Rattle.claims.proofs.Least.{◌or◌}
use Rattle.claims.proofs.StoreCut.{Alike, Records, Holds, as_loose, as_packed, Differs, Each}

-- there is no record of a malformed name
unrecorded : (s : Store) → Records s → (x : Bytes) → well_formed x ≡ false → block_of x s.packed ≡ None
unrecorded s records x g = none_of _ (λ f h. not_both (records x f h).1 g)

module _ (width : ℕ) (c : Scope) where
  -- what the block of the name x in a region says, where the names of keep are kept
  abbrev pub told : (Bytes → Bool) → Bytes → List Entry → Option Answer
  told keep x l = said (see width c.stripped keep) (block_of x l)

  -- the table at the opening
  abbrev pub opens : Store → Bytes → Option Answer
  opens s x = told (worktree_shows c) x s.worktree or told (common_shows c) x (or_empty s.common) or told (packed_shows c) x s.packed

  -- where there is one it is what that block says under the name, if the name is kept
  pub told_block : (keep : Bytes → Bool) (x : Bytes) (l : List Entry) (f : Entry) → block_of x l ≡ Some f → told keep x l ≡ shows (shown_if (keep x) x (strip_answer c.stripped (says width x f)))
  told_block keep x l damaged h = none≢Some (block_bears x damaged l h)
  told_block keep x l failed h = none≢Some (block_bears x failed l h)
  told_block keep x l (loose y d) h = let n = block_bears x (loose y d) l h in let q : y ≡ x = cc in rw (h, q) refl
  told_block keep x l (unread y) h = let n = block_bears x (unread y) l h in let q : y ≡ x = cc in rw (h, q) refl
  told_block keep x l (packed_record y t p) h = let n = block_bears x (packed_record y t p) l h in let q : y ≡ x = cc in rw (h, q) refl

  -- a name that is not kept says nothing
  untold : (keep : Bytes → Bool) (x : Bytes) → keep x ≡ false → (l : List Entry) → told keep x l ≡ None
  untold keep x k l = go (block_of x l) refl
    where
      go : (o : Option Entry) → block_of x l ≡ o → told keep x l ≡ None
      go None h = rw h refl
      go (Some f) h = told_block keep x l f h ∙ rw k refl

  -- what is shown of an id
  abbrev id_shown : Bool → Bytes → Bytes → Option Answer
  id_shown b x id = shows (shown_if b x (strip_answer c.stripped (found (record { name = x; target = object id; peeled = None }))))

  -- the region where a shared name is read, over packed: the id, if the name is kept
  held_told : (e : Bytes) (s : Store) (n id : Bytes) (keep : Bytes → Bool) (b : Bool) → keep (e ++ n) ≡ b → packed_shows c (e ++ n) ≡ b → Holds width e s n id
      → told keep (e ++ n) (region_at shared s) or told (packed_shows c) (e ++ n) s.packed ≡ id_shown b (e ++ n) id
  held_told e s n id keep false k p h = rw (untold keep (e ++ n) k (region_at shared s), untold (packed_shows c) (e ++ n) p s.packed)
  held_told e s n id keep true k p (as_loose d l r) = rw (l, r, k)
  held_told e s n id keep true k p (as_packed t q l r i) = rw (l, r, p, i)

  alike_opens : (s t : Store) (x : Bytes) → Alike s t x → opens s x ≡ opens t x
  alike_opens s t x a = rw (a.in_worktree, a.in_common, a.in_packed)

  -- a worktree block stands over what search reads, where that is common
  abbrev over : Bool → Option Answer → Option Answer
  over false o = None
  over true o = o

  -- the names that are kept where search reads
  abbrev keep_base : Bool → Bytes → Bool
  keep_base false = worktree_shows c
  keep_base true = common_shows c

  opens_split : (s : Store) (x : Bytes) → opens s x
      ≡ over (is_there s.common) (told (worktree_shows c) x s.worktree) or told (keep_base (is_there s.common)) x (region_at shared s) or told (packed_shows c) x s.packed
  opens_split s x = go s.common
    where
      go : (k : Option (List Entry)) → told (worktree_shows c) x s.worktree or told (common_shows c) x (or_empty k) or told (packed_shows c) x s.packed
          ≡ over (is_there k) (told (worktree_shows c) x s.worktree) or told (keep_base (is_there k)) x (common_or k s.worktree) or told (packed_shows c) x s.packed
      go None = rw (block_none x)
      go (Some k) = refl

  -- a shared well-formed name is kept in all regions or in none
  kept_alike : (b : Bool) (x : Bytes) → well_formed x ≡ true → is_private x ≡ false → starts_with c.loose_under x ≡ starts_with c.packed_under x → keep_base b x ≡ packed_shows c x
  kept_alike b x g p e = go b (starts_with c.packed_under x) e
    where
      go : (b k : Bool) → starts_with c.loose_under x ≡ k → keep_base b x ≡ k
      go false false e = rw e
      go false true e = rw (e, g)
      go true false e = rw e
      go true true e = rw (e, g, p)

  -- a malformed name is kept in no loose region
  kept_malformed : (b : Bool) (x : Bytes) → well_formed x ≡ false → keep_base b x ≡ false
  kept_malformed b x g = go b (starts_with c.loose_under x) refl
    where
      go : (b k : Bool) → starts_with c.loose_under x ≡ k → keep_base b x ≡ false
      go false false e = rw e
      go false true e = rw (e, g)
      go true false e = rw e
      go true true e = rw (e, g)

  module _ (e : Bytes) (s t : Store) (both : is_there s.common ≡ is_there t.common) (records : Records s) (records' : Records t) where
    differs_opens : (n : Bytes) → starts_with c.loose_under (e ++ n) ≡ starts_with c.packed_under (e ++ n) → Differs width e s t n → opens s (e ++ n) ≡ opens t (e ++ n)
    differs_opens n k d =
        opens_split s (e ++ n)
        ∙ ap₂ ◌or◌ (front (is_there s.common) (is_there t.common) both d.worktree_alike) (rest s records d.holds ∙ sym (rest t records' d.holds'))
        ∙ sym (opens_split t (e ++ n))
      where
        front : (a b : Bool) → a ≡ b → (a ≡ true → block_of (e ++ n) s.worktree ≡ block_of (e ++ n) t.worktree)
            → over a (told (worktree_shows c) (e ++ n) s.worktree) ≡ over b (told (worktree_shows c) (e ++ n) t.worktree)
        front false false q h = refl
        front false true q h = absurd (false≢true q)
        front true false q h = absurd (true≢false q)
        front true true q h = rw (h refl)

        -- the id, if the name is well formed and kept; a malformed one says nothing
        rest : (u : Store) → Records u → Holds width e u n d.id
            → told (keep_base (is_there u.common)) (e ++ n) (region_at shared u) or told (packed_shows c) (e ++ n) u.packed
            ≡ (if well_formed (e ++ n) then id_shown (packed_shows c (e ++ n)) (e ++ n) d.id else None)
        rest u r h = go (well_formed (e ++ n)) refl
          where
            b : Bool
            b = is_there u.common

            go : (w : Bool) → well_formed (e ++ n) ≡ w
                → told (keep_base b) (e ++ n) (region_at shared u) or told (packed_shows c) (e ++ n) u.packed
                ≡ (if w then id_shown (packed_shows c (e ++ n)) (e ++ n) d.id else None)
            go true w = held_told e u n d.id (keep_base b) (packed_shows c (e ++ n)) (kept_alike b (e ++ n) w d.listed_shared k) refl h
            go false w = rw (untold (keep_base b) (e ++ n) (kept_malformed b (e ++ n) w) (region_at shared u), unrecorded u r (e ++ n) w)

    -- under any scope that shows a differing name loose where it shows it packed
    pub same_opens : ((n : Bytes) → Differs width e s t n → starts_with c.loose_under (e ++ n) ≡ starts_with c.packed_under (e ++ n))
        → ((n : Bytes) → Each width e s t n) → (n : Bytes) → opens s n ≡ opens t n
    same_opens even each n = go (each n)
      where
        go : Each width e s t n → opens s n ≡ opens t n
        go (inl a) = alike_opens s t n a
        go (inr w) = rw w.1 (differs_opens w.0 (even w.0 w.2) w.2)
