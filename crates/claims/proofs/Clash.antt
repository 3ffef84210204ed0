-- Directory clashes, and what is held: a clash in one snapshot is an absence in the other.
use mathlib.Core.Path.{◌≡◌, refl, sym, ◌∙◌, subst}
use mathlib.Core.Logic.{◌⊎◌, inl, inr}
use Prim.Native.Nat.{ℕ}
use mathlib.Core.List.{List, [], ◌∷◌, ◌++◌}
use mathlib.Core.Bool.{Bool, true, false, ◌||◌, false≢true, true≢false, or-true}
use Rattle.std.specs.Prelude.{Option, None, Some}
use lib.ListN.{length, drop}
use Rattle.std.proofs.lemmas.Bool.{false_from_ne_true}
use Rattle.names.specs.Bytes.{Bytes, bytes, starts_with, strip}
use Rattle.names.specs.Name.{under_refs, directory}
use Rattle.names.specs.Candidates.{Candidate}
use Rattle.names.specs.Route.{Base, own, shared, route, packed_name}
use Rattle.names.proofs.Tests.{if_case, if_eq, or_eq, not_both, none≢Some, none_of}
use Rattle.names.proofs.Orders.{same_refl}
use Rattle.names.proofs.Prefix.{starts_trans, starts_longer, starts_split, directory_cancel, directory_starts, strip_kept}
use Rattle.names.proofs.Placed.{begins_r, placed, placed_own, placed_under}
use Rattle.blocks.specs.Entry.{Entry, name_of}
use Rattle.blocks.specs.Snapshot.{Store, or_empty, is_there, common_or, region_at}
use Rattle.refs.specs.Answer.{bears, block_of}
use Rattle.refs.specs.Search.{directory_of, clashes, deciding, region_of, path_of, file_of, record_of, entry_for}
use Rattle.refs.proofs.Clauses.{block_none, block_more, clashes_none, clashes_more, file_is, entry_is}
use Rattle.refs.proofs.Blocks.{bears_eq}
use Rattle.claims.proofs.StoreCut.{Alike, held, Holds, as_loose, as_packed, Differs, Each, StoreCut}

-- ---- a region has a directory of p

record Clash (p : Bytes) (l : List Entry) : Type 0 where
  dir : Bytes
  block : Entry
  borne : block_of dir l ≡ Some block
  above : directory dir p ≡ true

clash_at : (n p : Bytes) (f : Entry) (l : List Entry) → block_of n l ≡ Some f → directory n p ≡ true → clashes p l ≡ true
clash_at n p f [] h d = none≢Some (sym (block_none n) ∙ h)
clash_at n p f (k ∷ l) h d =
    if_eq (bears n (name_of k)) (sym (block_more n k l) ∙ h) (λ b g. rw (clashes_more p k l, bears_eq n (name_of k) b, d)) (λ b g. rw (clashes_more p k l, clash_at n p f l g d, or-true))

clash_of : (p : Bytes) (l : List Entry) → clashes p l ≡ true → Clash p l
clash_of p [] h = absurd (false≢true (sym (clashes_none p) ∙ h))
clash_of p (k ∷ l) h = or_eq (directory_of (name_of k) p) (clashes p l) (sym (clashes_more p k l) ∙ h) (here (name_of k) refl) (λ e. later (clash_of p l e))
  where
    here : (o : Option Bytes) → name_of k ≡ o → directory_of o p ≡ true → Clash p (k ∷ l)
    here None e d = absurd (false≢true d)
    here (Some m) e d = record { dir = m; block = k; borne = rw (block_more m k l, e, same_refl m); above = d }

    later : Clash p l → Clash p (k ∷ l)
    later c =
        let b : (f : Entry) × (block_of c.dir (k ∷ l) ≡ Some f) =
        rw (block_more c.dir k l) (if_case (λ (o : Option Entry). (f : Entry) × (o ≡ Some f)) (bears c.dir (name_of k)) (λ _. (k, refl)) (λ _. (c.block, c.borne))) in
        record { dir = c.dir; block = b.0; borne = b.1; above = c.above }

-- ---- what is held

pub alike_region : (s t : Store) → is_there s.common ≡ is_there t.common → (n : Bytes) → Alike s t n → (b : Base) → block_of n (region_at b s) ≡ block_of n (region_at b t)
alike_region s t e n a own = a.in_worktree
alike_region s t e n a shared = go s.common t.common e a.in_common
  where
    go : (c d : Option (List Entry)) → is_there c ≡ is_there d → block_of n (or_empty c) ≡ block_of n (or_empty d) → block_of n (common_or c s.worktree) ≡ block_of n (common_or d t.worktree)
    go None None e g = a.in_worktree
    go None (Some d) e g = absurd (false≢true e)
    go (Some c) None e g = absurd (true≢false e)
    go (Some c) (Some d) e g = g

pub held_region : (s : Store) (n : Bytes) (b : Base) (f : Entry) → block_of n (region_at b s) ≡ Some f → held s n ≡ true
unfolding held
held_region s n own f h = rw h
held_region s n shared f h = rw (go s.common h)
  where
    go : (c : Option (List Entry)) → block_of n (common_or c s.worktree) ≡ Some f → (is_there (block_of n s.worktree) || is_there (block_of n (or_empty c))) ≡ true
    go None h = rw h
    go (Some c) h = rw (h, or-true)

pub held_packed : (s : Store) (n : Bytes) (f : Entry) → block_of n s.packed ≡ Some f → held s n ≡ true
unfolding held
held_packed s n f h = rw (h, or-true)

-- a held name has no directory among the files
pub no_clash : (s : Store) → ((m n : Bytes) → held s m ≡ true → held s n ≡ true → directory m n ≡ false) → (n : Bytes) → held s n ≡ true → (b : Base) → clashes n (region_at b s) ≡ false
no_clash s flat n k b =
    false_from_ne_true (clashes n (region_at b s)) (λ h. let c = clash_of n (region_at b s) h in not_both c.above (flat c.dir n (held_region s c.dir b c.block c.borne) k))

module _ (width : ℕ) (e : Bytes) where
  holds_held : (s : Store) (n id : Bytes) → Holds width e s n id → held s (e ++ n) ≡ true
  holds_held s n id (as_loose c h _) = held_region s (e ++ n) shared _ h
  holds_held s n id (as_packed t p _ h _) = held_packed s (e ++ n) _ h

  -- a name that has a file does not begin with the namespace, so that stripping keeps it
  pub kept : (s : Store) → ((n : Bytes) → held s (e ++ (e ++ n)) ≡ true → e ≡ []) → (e ≡ []) ⊎ (begins_r e ≡ true) → (c : Bytes) (f : Entry) → file_of e s c ≡ Some f → strip e c ≡ c
  kept s o (inl z) c f h = strip_kept e c (λ _. z)
  kept s o (inr u) c f h =
      strip_kept e c
      (λ q.
      let y : Bytes = drop (length e) c in
      let d : e ++ y ≡ c = starts_split e c q in
      let g : begins_r c ≡ true = subst (λ (l : Bytes). begins_r l ≡ true) d (starts_longer (bytes "r") e y u) in
      let k : block_of (e ++ c) (region_of s c) ≡ Some f = rw (file_is e s c, placed_own (placed c) g) at h in
      o y (subst (λ (l : Bytes). held s (e ++ l) ≡ true) (sym d) (held_region s (e ++ c) (route c).base f k)))

  -- ---- a clash on one side

  deciding_none : (b : Bool) → deciding b None None ≡ None
  deciding_none true = refl
  deciding_none false = refl

  -- nothing bears the path: the candidate is absent, clash or not
  path_absent : (t : Store) (k : Candidate) → under_refs (route k.name).path ≡ true → held t (path_of e k.name) ≡ false → entry_for e t k ≡ None
  path_absent t k u h =
      let c : Bytes = k.name in
      let p : Bytes = path_of e c in
      let a : block_of p (region_of t c) ≡ None = none_of _ (λ f q. not_both (held_region t p (route c).base f q) h) in
      let b : block_of p t.packed ≡ None = none_of _ (λ f q. not_both (held_packed t p f q) h) in
      rw (entry_is e t k, file_is e t k.name, a, packed k.packed (packed_name c) (placed_under (placed c) u) b, deciding_none (clashes p (region_of t c)))
    where
      packed : (b : Bool) (q : Option Bytes) → (q ≡ Some (route k.name).path) ⊎ (q ≡ None) → block_of (path_of e k.name) t.packed ≡ None → record_of e t b q ≡ None
      packed false q i f = refl
      packed true q (inl i) f = rw (i, f)
      packed true q (inr i) f = rw i

  module _ (s t : Store) (cut : StoreCut width e s t) (k : Candidate) where
    clash_by : (c : Clash (path_of e k.name) (region_of s k.name)) → Each width e s t c.dir → entry_for e t k ≡ None
    clash_by c (inl a) =
        let b : Base = (route k.name).base in
        let h : block_of c.dir (region_at b t) ≡ Some c.block = sym (alike_region s t cut.same_common c.dir a b) ∙ c.borne in
        rw (entry_is e t k, clash_at c.dir (path_of e k.name) c.block (region_at b t) h c.above)
    clash_by c (inr w) = differs w.0 w.2 (rw w.1 at c.above)
      where
        differs : (m : Bytes) → Differs width e s t m → directory (e ++ m) (path_of e k.name) ≡ true → entry_for e t k ≡ None
        differs m d h =
            let p : Bytes = (route k.name).path in
            let a : starts_with m p ≡ true = directory_starts m p (sym (directory_cancel m e p) ∙ h) in
            let u : under_refs p ≡ true = starts_trans (bytes "refs/") m p d.under a in
            path_absent t k u (false_from_ne_true (held t (e ++ p)) (λ q. not_both h (cut.flat' (e ++ m) (e ++ p) (holds_held t m d.id d.holds') q)))

    pub clash_absent : clashes (path_of e k.name) (region_of s k.name) ≡ true → entry_for e t k ≡ None
    clash_absent h = let c = clash_of _ _ h in clash_by c (cut.each c.dir)
