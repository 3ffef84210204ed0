-- A candidate in two snapshots that differ by a cut: equal answers, or two objects with one id under names that no symbolic
-- reference has.
use Rattle.std.specs.Prelude.{if◌then◌else◌}
use mathlib.Core.Path.{◌≡◌, refl, sym, ap, ◌∙◌, subst⁻¹}
use mathlib.Core.Logic.{◌⊎◌, inl, inr}
use Prim.Native.Nat.{ℕ}
use native.Mathlib.Omega.{arith}
use mathlib.Core.List.{◌++◌, append_cancel_left}
use mathlib.Core.Bool.{Bool, true, false}
use Rattle.std.specs.Prelude.{Option, None, Some}
use Rattle.std.specs.Option.{option_map}
use Rattle.names.specs.Bytes.{Bytes, strip}
use Rattle.names.specs.Name.{fits, under_refs, remote_head}
use Rattle.names.specs.Category.{is_private}
use Rattle.names.specs.Candidates.{Candidate}
use Rattle.names.specs.Route.{shared, route, packed_name}
use Rattle.names.proofs.Tests.{not_both, some_none}
use Rattle.names.proofs.Prefix.{strip_append}
use Rattle.names.proofs.Itself.{own_path}
use Rattle.names.proofs.Placed.{placed, placed_own, placed_path, placed_packed}
use Rattle.names.proofs.Sought.{Fair}
use Rattle.blocks.specs.Content.{object, symbolic, reads, lower_case, read}
use Rattle.blocks.specs.Entry.{Entry, loose}
use Rattle.blocks.specs.Snapshot.{Store, region_at}
use Rattle.refs.specs.Answer.{Reference, Answer, nothing, found, block_of}
use Rattle.refs.specs.Search.{clashes, region_of, path_of, file_of, record_of, entry_for, answer_of, lookup}
use Rattle.refs.proofs.Clauses.{file_is, entry_is, lookup_is}
use Rattle.claims.proofs.StoreCut.{Alike, Holds, as_loose, as_packed, Differs, Each, StoreCut, cut_sym}
use Rattle.claims.proofs.Clash.{alike_region, kept, clash_absent}

-- the file of a name whose path is a shared name under refs/
file_path : (e : Bytes) (s : Store) (c : Bytes) → under_refs (route c).path ≡ true → is_private (route c).path ≡ false → file_of e s c ≡ block_of (path_of e c) (region_at shared s)
file_path e s c u v = rw (file_is e s c, (placed_path (placed c) u v).0)

-- the file of such a name itself
file_own : (e : Bytes) (s : Store) (n : Bytes) → under_refs n ≡ true → is_private n ≡ false → file_of e s n ≡ block_of (e ++ n) (region_at shared s)
file_own e s n u v = let f = own_path n u in rw f at (file_path e s n (rw f u) (rw f v))

module _ (width : ℕ) (e : Bytes) (s : Store) where
  -- the file of n is a symbolic reference
  pub record Points (n : Bytes) : Type 0 where
    pub name : Bytes
    pub content : Bytes
    pub target : Bytes
    pub is : file_of e s n ≡ Some (loose name content)
    pub reads_as : read width content ≡ reads (symbolic target)

  -- two answers with one object target, of names that following has not seen
  pub record Objects (a a' : Answer) : Type 0 where
    pub reference : Reference
    pub reference' : Reference
    pub is : a ≡ found reference
    pub is' : a' ≡ found reference'
    pub id : Bytes
    pub target : reference.target ≡ object id
    pub target' : reference'.target ≡ object id
    pub unseen : Points reference.name → ⊥
    pub unseen' : Points reference'.name → ⊥

  abbrev pub Match : Answer → Answer → Type 0
  Match a a' = (a ≡ a') ⊎ Objects a a'

module _ (width : ℕ) (e : Bytes) where
  abbrev clashing : Store → Candidate → Bool
  clashing s k = clashes (path_of e k.name) (region_of s k.name)

  abbrev tried : Store → Candidate → Answer
  tried s k = answer_of width e k.name (entry_for e s k)

  -- the answer of a candidate whose path holds an id
  record Answered (s : Store) (k : Candidate) (id : Bytes) : Type 0 where
    reference : Reference
    is : tried s k ≡ found reference
    target : reference.target ≡ object id
    named : (reference.name ≡ k.name) ⊎ (reference.name ≡ (route k.name).path)

  module _ (s : Store) (k : Candidate) (id : Bytes) (u : under_refs (route k.name).path ≡ true) (v : is_private (route k.name).path ≡ false) where
    answered : ((f : Entry) → file_of e s k.name ≡ Some f → strip e k.name ≡ k.name) → Fair k → remote_head (route k.name).path ≡ false
        → clashing s k ≡ false → Holds width e s (route k.name).path id → Answered s k id
    answered keep fair w n (as_loose c h r) =
        let f = file_path e s k.name u v ∙ h in
        record { reference = record { name = k.name; target = object id; peeled = None }; is = rw (entry_is e s k, n, f, r, keep _ f); target = refl; named = inl refl }
    answered keep fair w n (as_packed t p h hb hi) =
        let f = file_path e s k.name u v ∙ h in
        record {
          reference = record { name = (route k.name).path; target = object id; peeled = option_map lower_case p };
          is = rw (entry_is e s k, n, f, (placed_path (placed k.name) u v).1, is_sought fair, hb, hi, strip_append e (route k.name).path);
          target = refl;
          named = inr refl;
        }
      where
        is_sought : Fair k → k.packed ≡ true
        is_sought (inl q) = q
        is_sought (inr o) =
            let q : (route k.name).path ≡ k.name = placed_own (placed k.name) o.own_path in
            not_both (o.never (rw q at u)) (rw q at w)

    -- neither name of its answer is that of a symbolic reference
    unseen : Holds width e s (route k.name).path id → (n : Bytes) → (n ≡ k.name) ⊎ (n ≡ (route k.name).path) → Points width e s n → ⊥
    unseen h n q p = no_points h p.is q
      where
        file_is : (n ≡ k.name) ⊎ (n ≡ (route k.name).path) → file_of e s n ≡ block_of (path_of e k.name) (region_at shared s)
        file_is (inl q) = rw q (file_path e s k.name u v)
        file_is (inr q) = rw q (file_own e s (route k.name).path u v)

        no_points : Holds width e s (route k.name).path id → file_of e s n ≡ Some (loose p.name p.content) → (n ≡ k.name) ⊎ (n ≡ (route k.name).path) → ⊥
        no_points (as_loose c g r) i q = let j = sym (file_is q) ∙ i in let z : ◌≡◌ {A = ℕ} 0 1 = cc (g, j, r, p.reads_as) in omega arith
        no_points (as_packed t x g _ _) i q = some_none i (file_is q ∙ g)

  module _ (s t : Store) (cut : StoreCut width e s t) (k : Candidate) (fair : Fair k) where
    abbrev p : Bytes
    p = (route k.name).path

    clash_self : (s : Store) → clashing s k ≡ true → entry_for e s k ≡ None
    clash_self s n = rw (entry_is e s k, n)

    differs_match : Differs width e s t p → clashing s k ≡ false → clashing t k ≡ false → Match width e s (tried s k) (tried t k)
    differs_match d n n' =
        let a = answered s k d.id d.under d.is_shared (kept width e s cut.once cut.expansion k.name) fair d.not_remote_head n d.holds in
        let b = answered t k d.id d.under d.is_shared (kept width e t cut.once' cut.expansion k.name) fair d.not_remote_head n' d.holds' in
        inr
        (record {
          reference = a.reference;
          reference' = b.reference;
          is = a.is;
          is' = b.is;
          id = d.id;
          target = a.target;
          target' = b.target;
          unseen = unseen s k d.id d.under d.is_shared d.holds a.reference.name a.named;
          unseen' = unseen s k d.id d.under d.is_shared d.holds b.reference.name b.named;
        })

    packed_alike : Alike s t (e ++ p) → (b : Bool) (q : Option Bytes) → packed_name k.name ≡ q → record_of e s b q ≡ record_of e t b q
    packed_alike a false q i = refl
    packed_alike a true None i = refl
    packed_alike a true (Some q) i = go (cut.each (e ++ q))
      where
        go : Each width e s t (e ++ q) → block_of (e ++ q) s.packed ≡ block_of (e ++ q) t.packed
        go (inl c) = c.in_packed
        go (inr w) =
            let g : q ≡ w.0 = append_cancel_left e q w.0 w.1 in
            let f : p ≡ q = placed_packed q (placed k.name) i (rw g w.2.is_shared) in
            rw f at a.in_packed

    alike_match : Alike s t (e ++ p) → clashing s k ≡ false → clashing t k ≡ false → entry_for e s k ≡ entry_for e t k
    alike_match a n n' =
        rw (entry_is e s k, entry_is e t k, n, n', file_is e s k.name, file_is e t k.name, alike_region s t cut.same_common (e ++ p) a (route k.name).base, packed_alike a k.packed (packed_name k.name) refl)

    tried_match : (b b' : Bool) → clashing s k ≡ b → clashing t k ≡ b' → Each width e s t (e ++ p) → Match width e s (tried s k) (tried t k)
    tried_match false false n n' (inl a) = inl (ap (answer_of width e k.name) (alike_match a n n'))
    tried_match false false n n' (inr w) = differs_match (subst⁻¹ (λ (m : Bytes). Differs width e s t m) (append_cancel_left e p w.0 w.1) w.2) n n'
    tried_match true b' n n' i = inl (ap (answer_of width e k.name) (clash_self s n ∙ sym (clash_absent width e s t cut k n)))
    tried_match false true n n' i = inl (ap (answer_of width e k.name) (clash_absent width e t s (cut_sym width e s t cut) k n' ∙ sym (clash_self t n')))

    pub lookup_match : Match width e s (lookup width e s k) (lookup width e t k)
    lookup_match = rw (lookup_is width e s k, lookup_is width e t k) (go (fits k.name))
      where
        go : (b : Bool) → Match width e s (if b then tried s k else nothing) (if b then tried t k else nothing)
        go true = tried_match (clashing s k) (clashing t k) refl refl (cut.each (e ++ p))
        go false = inl refl
