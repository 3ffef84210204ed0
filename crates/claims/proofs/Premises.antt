-- The premises of demand 3, and of the same in a namespace, on bytes give those on entries.
use mathlib.Core.Path.{◌≡◌, refl, sym, subst, ◌∙◌}
use mathlib.Core.Logic.{◌⊎◌, inl, inr}
use Prim.Native.Nat.{ℕ}
use mathlib.Core.List.{[], ◌++◌, append_assoc}
use mathlib.Core.Bool.{true, false}
use Rattle.std.specs.Prelude.{Option, None, Some}
use lib.ListN.{take}
use Rattle.names.specs.Bytes.{Bytes}
use Rattle.names.specs.Name.{directory}
use Rattle.names.specs.Category.{is_private}
use Rattle.names.specs.Namespace.{expand, expansion}
use Rattle.names.specs.Route.{shared, route}
use Rattle.names.proofs.Tests.{not_both}
use Rattle.names.proofs.Prefix.{starts_split, starts_append}
use Rattle.names.proofs.Itself.{shared_base}
use Rattle.names.proofs.Placed.{begins_r, expansion_shared, expansion_begins_r}
use Rattle.blocks.specs.Entry.{loose, packed_record, peeled_in}
use Rattle.blocks.proofs.Parts.{taken_loose, taken_record}
use Rattle.blocks.specs.Snapshot.{Snapshot, store, region_at}
use Rattle.refs.specs.Answer.{block_of}
use Rattle.claims.specs.Demand3.{is_held, Flat, Once, Agree, remainder, LooseId, Has, Differ, Cut}
use Rattle.claims.proofs.Runs.{Ordered, ordered}
use Rattle.claims.proofs.StoreCut.{Alike, held, Holds, as_loose, as_packed, Differs, Each, StoreCut}
use Rattle.claims.proofs.Bridge.{records_of, common_there, in_worktree, in_common, in_packed, in_shared, held_is}

-- ---- held names

module _ (width : ℕ) (s : Snapshot) (o : Ordered (store width s)) where
  held_of : (n : Bytes) → held (store width s) n ≡ true → is_held s n ≡ true
  held_of n h = sym (held_is width s o n) ∙ h

  pub flat_of : Flat s → (m n : Bytes) → held (store width s) m ≡ true → held (store width s) n ≡ true → directory m n ≡ false
  flat_of f m n h k = f m n (held_of m h) (held_of n k)

  -- none begins with the expansion twice over
  once_of : (namespace : Option Bytes) → Once namespace s → (n : Bytes) → held (store width s) (expansion namespace ++ (expansion namespace ++ n)) ≡ true → expansion namespace ≡ []
  once_of None h n k = refl
  once_of (Some m) h n k = not_both (rw append_assoc at (starts_append (expand m ++ expand m) n)) (h (expand m ++ (expand m ++ n)) (held_of (expand m ++ (expand m ++ n)) k))

-- ---- a namespace, or none

-- behind the expansion a shared name is shared too
listed_shared : (namespace : Option Bytes) (n : Bytes) → is_private n ≡ false → is_private (expansion namespace ++ n) ≡ false
listed_shared None n h = h
listed_shared (Some m) n h = expansion_shared m n

begins : (namespace : Option Bytes) → (expansion namespace ≡ []) ⊎ (begins_r (expansion namespace) ≡ true)
begins None = inl refl
begins (Some m) = inr (expansion_begins_r m)

module _ (width : ℕ) (namespace : Option Bytes) where
  abbrev e : Bytes
  e = expansion namespace

  module _ (s : Snapshot) (o : Ordered (store width s)) (n id : Bytes) (q : n ≡ e ++ remainder namespace n) (base : (route (remainder namespace n)).base ≡ shared) where
    holds_loose : LooseId width namespace s n id → Holds width e (store width s) (remainder namespace n) id
    holds_loose l =
        let h = l.there in
        as_loose l.content
        (subst (λ (x : Bytes). block_of x (region_at shared (store width s)) ≡ Some (loose x l.content)) q (in_shared width s o n ∙ rw (rw base at h) (sym (taken_loose width 1 n l.content refl))))
        l.decodes

    holds_of : Has width namespace s n id → Holds width e (store width s) (remainder namespace n) id
    holds_of (Has.loose l v) = holds_loose l
    holds_of (Has.over_stale l stale p) = holds_loose l
    holds_of (Has.packed p v) =
        let t = take width p.content in
        let peeled = peeled_in width p.content in
        as_packed t peeled
        (subst (λ (x : Bytes). block_of x (region_at shared (store width s)) ≡ None) q (in_shared width s o n ∙ rw (rw base at v)))
        (subst (λ (x : Bytes). block_of x (store width s).packed ≡ Some (packed_record x t peeled)) q (in_packed width s o n ∙ rw p.there (sym (taken_record width 4 n p.content refl))))
        p.target

  module _ (s t : Snapshot) (c : Cut width namespace s t) where
    abbrev os : Ordered (store width s)
    os = ordered width s c.fit

    abbrev ot : Ordered (store width t)
    ot = ordered width t c.fit'

    alike_of : (n : Bytes) → Agree s t n → Alike (store width s) (store width t) n
    alike_of n a =
        record {
          in_worktree = in_worktree width s os n ∙ rw a.in_worktree (sym (in_worktree width t ot n));
          in_common = in_common width s os n ∙ rw a.in_common (sym (in_common width t ot n));
          in_packed = in_packed width s os n ∙ rw a.in_packed (sym (in_packed width t ot n));
        }

    differs_of : (n : Bytes) → n ≡ e ++ remainder namespace n → Differ width namespace s t n → Differs width e (store width s) (store width t) (remainder namespace n)
    differs_of n q d =
        let m = remainder namespace n in
        let base : (route m).base ≡ shared = shared_base m d.under d.is_shared in
        record {
          listed_shared = listed_shared namespace m d.is_shared;
          is_shared = d.is_shared;
          under = d.under;
          not_remote_head = d.not_remote_head;
          id = d.id;
          holds = holds_of s os n d.id q base d.has;
          holds' = holds_of t ot n d.id q base d.has';
          worktree_alike = λ h.
              subst (λ (x : Bytes). block_of x (store width s).worktree ≡ block_of x (store width t).worktree) q
              (in_worktree width s os n ∙ rw (d.worktree_alike (sym (common_there width s) ∙ h)) (sym (in_worktree width t ot n)));
        }

    each_of : (n : Bytes) → Agree s t n ⊎ Differ width namespace s t n → Each width e (store width s) (store width t) n
    each_of n (inl a) = inl (alike_of n a)
    each_of n (inr d) = let q : n ≡ e ++ remainder namespace n = sym (starts_split e n d.inside) in inr (remainder namespace n, q, differs_of n q d)

    pub store_cut : StoreCut width e (store width s) (store width t)
    store_cut =
        record {
          flat = flat_of width s os c.flat;
          flat' = flat_of width t ot c.flat';
          each = λ n. each_of n (c.each n);
          same_common = common_there width s ∙ c.same_common ∙ sym (common_there width t);
          records = records_of width s;
          records' = records_of width t;
          once = once_of width s os namespace c.once;
          once' = once_of width t ot namespace c.once';
          expansion = begins namespace;
        }
