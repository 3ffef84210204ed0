-- The premises under which list and search agree can be met, and each is needed: for each, a snapshot that meets all the others,
-- and a listed entry whose name sought whole gives something else. Without "no namespace" too they disagree.
use mathlib.Core.Path.{◌≡◌, refl}
use Prim.Native.Nat.{ℕ}
use Prim.Native.String.{String}
use mathlib.Core.List.{List, [], ◌∷◌, ◌++◌}
use mathlib.Core.Bool.{Bool, true, false, not, ◌||◌}
use Rattle.std.specs.Prelude.{Option, Some, None}
use borrow.Author.Tests.{not-true}
use Rattle.names.specs.Bytes.{Bytes, bytes, same, starts_with}
use Rattle.names.specs.Check.{gives}
use Rattle.names.specs.Name.{under_refs}
use Rattle.names.specs.Category.{is_private}
use Rattle.blocks.proofs.Make.{make}
use Rattle.blocks.specs.Entry.{blocks}
use Rattle.blocks.specs.Snapshot.{Snapshot, is_there, Fit}
use Rattle.refs.specs.Answer.{found, refused, nothing}
use Rattle.refs.specs.Listing.{Offer}
use Rattle.refs.specs.Run.{start, step, run, Run, listing}
use Rattle.refs.specs.Search.{answers, find}
use Rattle.claims.specs.Compared.{compared, handed_out}
use Rattle.claims.specs.Demand3.{Flat}
use Rattle.claims.specs.ListSearch.{next_listed, compared_result, sought, PackedUnderRefs, PackedNotWorktree, WorktreePrivate, Premises, Agrees}
use Rattle.claims.proofs.ListSearch.{list_search}
use Rattle.claims.proofs.Fixtures.{points, file, packed, packed_in, namespace_n, snap, three, ref, pointing, lists}
use Rattle.claims.proofs.Tested.{all_true, passed, kept_by, Where, if_where, keeps_where, fit_test, fit_by}
use Rattle.claims.proofs.Concrete.{all_of, of_all, names_in, names_of, among_bearing, flat_names, flat_by}
use Rattle.claims.proofs.Apart.{result_bytes, apart}
use Rattle.claims.proofs.Decide.{tests_compute}

-- ---- the premises, one of them left out, or none

pub data Premise : Type 0 where
  is_fit : Premise
  no_directory : Premise
  under_refs_only : Premise
  not_worktree : Premise
  private_only : Premise

abbrev index : Premise → ℕ
index is_fit = 0
index no_directory = 1
index under_refs_only = 2
index not_worktree = 3
index private_only = 4

abbrev kept : Option Premise → Premise → Bool
kept = kept_by index

abbrev pub Keeps : Option Premise → Premise → Type 0 → Type 0
Keeps out p A = Where (kept out p) A

pub record PremisesBut (out : Option Premise) (s : Snapshot) : Type 0 where
  pub fit : Keeps out is_fit (Fit 40 s)
  pub flat : Keeps out no_directory (Flat s)
  pub packed_under_refs : Keeps out under_refs_only (PackedUnderRefs s)
  pub packed_not_worktree : Keeps out not_worktree (PackedNotWorktree s)
  pub worktree_private : Keeps out private_only (WorktreePrivate s)

-- with none left out they are those of specs/ListSearch
premises_of : (s : Snapshot) → PremisesBut None s → Premises 40 s
premises_of s p = record { fit = p.fit; flat = p.flat; packed_under_refs = p.packed_under_refs; packed_not_worktree = p.packed_not_worktree; worktree_private = p.worktree_private }

-- after n steps the next one hands out an entry whose name, sought, gives something else
pub record Needed (p : Premise) : Type 0 where
  pub s : Snapshot
  pub others : PremisesBut (Some p) s
  pub n : ℕ
  pub entry : Offer
  pub listed : next_listed 40 s (run 40 s n (start [])).last ≡ Some entry
  pub handed : (step 40 s (run 40 s n (start [])).last).answer ≡ entry.answer
  pub told : sought 40 s entry.name ≡ answers (compared entry.answer) → ⊥

-- ---- tests of a snapshot that is written out

abbrev not_under_worktree : Bytes → Bool
not_under_worktree n = not (starts_with (bytes "refs/worktree/") n)

unfoldable tests : Option Premise → Snapshot → List Bool
tests out s =
    if_where (kept out is_fit) (fit_test 40 s)
    ∷ if_where (kept out no_directory) (flat_names (names_of s))
    ∷ if_where (kept out under_refs_only) (all_of under_refs (names_in (blocks s.packed)))
    ∷ if_where (kept out not_worktree) (all_of not_under_worktree (names_in (blocks s.packed)))
    ∷ if_where (kept out private_only) (not (is_there s.common) || all_of is_private (names_in (blocks s.worktree)))
    ∷ []

private_by : (s : Snapshot) → (not (is_there s.common) || all_of is_private (names_in (blocks s.worktree))) ≡ true → WorktreePrivate s
private_by s h c n k = of_all is_private (names_in (blocks s.worktree)) (rw c at h) n (among_bearing n (blocks s.worktree) k)

others_by : (out : Option Premise) (s : Snapshot) → all_true (tests out s) ≡ true → PremisesBut out s
unfolding tests
others_by out s h =
    let k = passed (tests out s) h in
    let records = names_in (blocks s.packed) in
    record {
      fit = keeps_where (kept out is_fit) (fit_test 40 s) (fit_by 40 s) k.0;
      flat = keeps_where (kept out no_directory) (flat_names (names_of s)) (flat_by s) k.1.0;
      packed_under_refs = keeps_where (kept out under_refs_only) (all_of under_refs records) (λ e n b. of_all under_refs records e n (among_bearing n (blocks s.packed) b)) k.1.1.0;
      packed_not_worktree = keeps_where (kept out not_worktree) (all_of not_under_worktree records)
          (λ e n b. not-true (starts_with (bytes "refs/worktree/") n) (of_all not_under_worktree records e n (among_bearing n (blocks s.packed) b))) k.1.1.1.0;
      worktree_private = keeps_where (kept out private_only) _ (private_by s) k.1.1.1.1.0;
    }

-- ---- the snapshots

record Case : Type 0 where
  s : Snapshot
  n : ℕ
  entry : Offer

-- after n steps the name x is listed with the id of the digit d
abbrev case : Snapshot → ℕ → String → ℕ → Case
case s n x d = record { s = s; n = n; entry = record { name = bytes x; answer = ref x d } }

unfoldable case_of : Premise → Case
-- out of order: search gives 8
case_of is_fit = case (snap (file "refs/heads/b" 49 ++ file "refs/heads/a" 49) []) 0 "refs/heads/b" 49
-- after a directory clash packed is not consulted
case_of no_directory = case (snap (file "refs/heads/a" 49) (packed "refs/heads/a/b" 49)) 1 "refs/heads/a/b" 49
-- a packed HEAD is never sought
case_of under_refs_only = case (snap [] (packed "HEAD" 49)) 0 "HEAD" 49
-- nor is a packed refs/worktree/x
case_of not_worktree = case (snap [] (packed "refs/worktree/x" 49)) 0 "refs/worktree/x" 49
-- a worktree file is listed, and search reads common
case_of private_only = case (three (file "refs/heads/a" 49) [] []) 0 "refs/heads/a" 49

-- ---- all is computed

needed_by : (p : Premise) → all_true (tests (Some p) (case_of p).s) ≡ true
    → next_listed 40 (case_of p).s (run 40 (case_of p).s (case_of p).n (start [])).last ≡ Some (case_of p).entry
    → (step 40 (case_of p).s (run 40 (case_of p).s (case_of p).n (start [])).last).answer ≡ (case_of p).entry.answer
    → same (result_bytes (sought 40 (case_of p).s (case_of p).entry.name)) (result_bytes (answers (compared (case_of p).entry.answer))) ≡ false → Needed p
needed_by p h l a d =
    let c = case_of p in
    record { s = c.s; others = others_by (Some p) c.s h; n = c.n; entry = c.entry; listed = l; handed = a; told = apart result_bytes (sought 40 c.s c.entry.name) (answers (compared c.entry.answer)) d }

pub needed : (p : Premise) → Needed p
unfolding tests_compute tests case_of
needed is_fit = needed_by is_fit refl refl refl refl
needed no_directory = needed_by no_directory refl refl refl refl
needed under_refs_only = needed_by under_refs_only refl refl refl refl
needed not_worktree = needed_by not_worktree refl refl refl refl
needed private_only = needed_by private_only refl refl refl refl

-- ---- "without namespace"

-- a snapshot that meets all premises; in the namespace n it lists HEAD, a record, which there is sought in vain
pub record NamespaceNeeded : Type 0 where
  pub s : Snapshot
  pub premises : Premises 40 s
  pub listed : handed_out (listing 40 s namespace_n 1) ≡ gives (ref "HEAD" 49 ∷ [], false)
  pub told : compared_result (find 40 s (bytes "HEAD") namespace_n) ≡ answers (ref "HEAD" 49) → ⊥

abbrev head_within : Snapshot
head_within = snap [] (packed_in (bytes "refs/namespaces/n/") "HEAD" 49)

pub namespace_needed : NamespaceNeeded
unfolding tests_compute tests
namespace_needed =
    record {
      s = head_within;
      premises = premises_of head_within (others_by None head_within refl);
      listed = refl;
      told = apart result_bytes (compared_result (find 40 head_within (bytes "HEAD") namespace_n)) (answers (ref "HEAD" 49)) refl;
    }

-- ---- all premises met

-- a private name in the worktree, a symbolic reference and a file that cannot be read in common, a record
abbrev four_names : Snapshot
four_names = three (file "refs/bisect/bad" 52) (points "refs/heads/a" "refs/heads/b" ++ make 2 (bytes "refs/heads/b") []) (packed "refs/tags/v1" 51)

pub record Met : Type 0 where
  pub s : Snapshot
  pub premises : Premises 40 s
  pub listed : lists s 5 (ref "refs/bisect/bad" 52 ∷ found (pointing "refs/heads/a" "refs/heads/b") ∷ refused 9 ∷ ref "refs/tags/v1" 51 ∷ nothing ∷ [])
  pub agree : (n : ℕ) (r : Run) → listing 40 s None n ≡ gives r → Agrees 40 s r.last (next_listed 40 s r.last)

pub met : Met
unfolding tests_compute tests
met =
    let p = premises_of four_names (others_by None four_names refl) in
    record { s = four_names; premises = p; listed = refl; agree = list_search 40 four_names p }
