-- Each premise of demand 3 is needed, without a namespace and in one: for each, two snapshots that meet all the others, and that the
-- listing or following tells apart. (Two are not among them: "well-formed", which no proof uses, and that differing names begin
-- with the expansion, since in such snapshots what stands elsewhere changes no answer in a namespace.)
use mathlib.Core.Path.{◌≡◌, refl}
use Prim.Native.Nat.{ℕ}
use Prim.Native.String.{String}
use mathlib.Core.List.{List, [], ◌∷◌, ◌++◌}
use mathlib.Core.Bool.{Bool, true, not}
use Rattle.std.specs.Prelude.{Option, None, Some}
use lib.ListN.{replicate}
use Rattle.names.specs.Bytes.{Bytes, bytes, same}
use Rattle.names.specs.WellFormed.{well_formed}
use Rattle.names.specs.Namespace.{expansion}
use Rattle.names.specs.Route.{own, shared}
use borrow.Author.Tests.{not-true}
use Rattle.names.proofs.Tests.{and_left, and_right}
use Rattle.blocks.specs.Snapshot.{Snapshot}
use Rattle.refs.specs.Follow.{follow}
use Rattle.refs.specs.Run.{listing}
use Rattle.claims.specs.Compared.{handed_out, outcome}
use Rattle.claims.proofs.Fixtures.{points_in, file_in, packed_in, namespace_n, snap, three}
use Rattle.claims.proofs.LeftOut.{Premise, same_namespace, both_fit, no_directory, shared_names, under_refs_only, not_remote_heads, same_id, where_search_reads, no_other_block, worktree_alike, others_agree, both_or_neither_common, twice_over, Keeps, CutBut}
use Rattle.claims.proofs.Tested.{all_true}
use Rattle.claims.proofs.Apart.{answers_bytes, handed_bytes, outcome_bytes, apart}
use Rattle.claims.proofs.Decide.{How, Line, cut_tests, cut_by, tests_compute}

pub data ToldApart (namespace : Option Bytes) (s t : Snapshot) : Type 0 where
  by_listing : (n : ℕ) → (handed_out (listing 40 s namespace n) ≡ handed_out (listing 40 t namespace n) → ⊥) → ToldApart namespace s t
  by_following : (x : Bytes) → well_formed x ≡ true → (outcome (follow 40 s x namespace) ≡ outcome (follow 40 t x namespace) → ⊥) → ToldApart namespace s t

-- p is needed in the namespace, or where there is none
pub record Needed (namespace : Option Bytes) (p : Premise) : Type 0 where
  pub s : Snapshot
  pub t : Snapshot
  -- the namespace of the calls
  pub asked : Option Bytes
  pub alone : Keeps (Some p) same_namespace (asked ≡ namespace)
  pub others : CutBut (Some p) 40 namespace s t
  pub told : ToldApart asked s t

-- ---- the pairs, of names behind the expansion e

abbrev ones : Bytes
ones = replicate 40 49

abbrev twos : Bytes
twos = replicate 40 50

-- what is asked of both
data Question : Type 0 where
  steps : ℕ → Question
  follows : String → Question

-- two snapshots, the names that agree, those that differ, and a question that tells them apart
record Pair : Type 0 where
  s : Snapshot
  t : Snapshot
  agreed : List Bytes
  differing : List Line
  question : Question

abbrev pair : Snapshot → Snapshot → List Bytes → List Line → Question → Pair
pair s t a d q = record { s = s; t = t; agreed = a; differing = d; question = q }

module _ (e : Bytes) where
  abbrev name : String → Bytes
  name n = e ++ bytes n

  abbrev line : String → Bytes → Bytes → How → How → Line
  line n id id' h h' = record { name = name n; id = id; id' = id'; how = h; how' = h' }

  -- a name loose in the shared region of the first, packed in the second
  abbrev moved : String → Line
  moved n = line n ones ones (How.loose shared) How.packed

  unfoldable pair_of : Premise → Pair
  -- in the namespace a below, refs/bisect/x is read in the worktree and not in common
  pair_of same_namespace =
      pair (three [] (file_in e "refs/namespaces/a/refs/bisect/x" 49) []) (three [] [] (packed_in e "refs/namespaces/a/refs/bisect/x" 49))
      [] (moved "refs/namespaces/a/refs/bisect/x" ∷ []) (follows "refs/bisect/x")
  -- a loose region out of order
  pair_of both_fit =
      pair (snap (file_in e "refs/heads/b" 49 ++ file_in e "refs/heads/a" 49) []) (snap [] (packed_in e "refs/heads/a" 49 ++ packed_in e "refs/heads/b" 49))
      [] (moved "refs/heads/a" ∷ moved "refs/heads/b" ∷ []) (steps 1)
  -- after a directory clash packed is not consulted
  pair_of no_directory =
      pair (snap (file_in e "refs/heads/a" 49) (packed_in e "refs/heads/a/b" 49)) (snap [] (packed_in e "refs/heads/a" 49 ++ packed_in e "refs/heads/a/b" 49))
      (name "refs/heads/a/b" ∷ []) (moved "refs/heads/a" ∷ []) (follows "refs/heads/a/b")
  -- refs/worktree/x is never sought packed
  pair_of shared_names =
      pair (snap (file_in e "refs/worktree/x" 49) []) (snap [] (packed_in e "refs/worktree/x" 49))
      [] (line "refs/worktree/x" ones ones (How.loose own) How.packed ∷ []) (follows "refs/worktree/x")
  -- for refs/a it is never sought packed
  pair_of under_refs_only =
      pair (snap (file_in e "remotes/refs/a/HEAD" 49) []) (snap [] (packed_in e "remotes/refs/a/HEAD" 49)) [] (moved "remotes/refs/a/HEAD" ∷ []) (follows "refs/a")
  -- for x it is never sought packed
  pair_of not_remote_heads =
      pair (snap (file_in e "refs/remotes/x/HEAD" 49) []) (snap [] (packed_in e "refs/remotes/x/HEAD" 49)) [] (moved "refs/remotes/x/HEAD" ∷ []) (follows "x")
  -- the record that is left is the stale one
  pair_of same_id =
      pair (snap (file_in e "refs/heads/a" 49) (packed_in e "refs/heads/a" 50)) (snap [] (packed_in e "refs/heads/a" 50))
      [] (line "refs/heads/a" ones twos (How.over_stale shared twos) How.packed ∷ []) (follows "refs/heads/a")
  -- a worktree file, while search reads common
  pair_of where_search_reads =
      pair (three (file_in e "refs/heads/a" 49) [] []) (three (file_in e "refs/heads/a" 49) [] (packed_in e "refs/heads/a" 49))
      [] (line "refs/heads/a" ones ones (How.loose own) How.packed ∷ []) (follows "refs/heads/a")
  -- a loose file of another id stands over the record
  pair_of no_other_block =
      pair (snap (file_in e "refs/heads/a" 50) (packed_in e "refs/heads/a" 49)) (snap [] (packed_in e "refs/heads/a" 49))
      [] (line "refs/heads/a" ones ones How.packed How.packed ∷ []) (follows "refs/heads/a")
  -- a worktree file is listed over the common one
  pair_of worktree_alike =
      pair (three (file_in e "refs/heads/a" 50) (file_in e "refs/heads/a" 49) []) (three [] (file_in e "refs/heads/a" 49) [])
      [] (line "refs/heads/a" ones ones (How.loose shared) (How.loose shared) ∷ []) (steps 1)
  -- HEAD points elsewhere
  pair_of others_agree =
      pair (snap (points_in e "HEAD" "refs/heads/a" ++ (file_in e "refs/heads/a" 49 ++ file_in e "refs/heads/b" 50)) []) (snap (points_in e "HEAD" "refs/heads/b" ++ (file_in e "refs/heads/a" 49 ++ file_in e "refs/heads/b" 50)) [])
      [] [] (follows "HEAD")
  -- search reads common where there is one
  pair_of both_or_neither_common = pair (snap (file_in e "refs/heads/a" 49) []) (three (file_in e "refs/heads/a" 49) [] []) (name "refs/heads/a" ∷ []) [] (follows "refs/heads/a")
  -- the name twice over is alike in both, and its file is answered as refs/heads/a; so is the record, which then was seen, while a
  -- loose refs/heads/a is answered as main-worktree/refs/heads/a, which was not
  pair_of twice_over =
      let head = points_in e "HEAD" "refs/namespaces/n/refs/heads/a" in
      let twice = points_in e "refs/namespaces/n/refs/heads/a" "main-worktree/refs/heads/a" in
      pair (snap (head ++ (file_in e "refs/heads/a" 49 ++ twice)) []) (snap (head ++ twice) (packed_in e "refs/heads/a" 49))
      (name "HEAD" ∷ name "refs/namespaces/n/refs/heads/a" ∷ []) (moved "refs/heads/a" ∷ []) (follows "HEAD")

-- ---- all is computed

tells : Option Bytes → Snapshot → Snapshot → Question → Bool
tells namespace s t (steps n) = not (same (handed_bytes (handed_out (listing 40 s namespace n))) (handed_bytes (handed_out (listing 40 t namespace n))))
tells namespace s t (follows x) =
    all_true (well_formed (bytes x) ∷ not (same (outcome_bytes (outcome (follow 40 s (bytes x) namespace))) (outcome_bytes (outcome (follow 40 t (bytes x) namespace)))) ∷ [])

told_by : (namespace : Option Bytes) (s t : Snapshot) (q : Question) → tells namespace s t q ≡ true → ToldApart namespace s t
unfolding tells
told_by namespace s t (steps n) h = by_listing n (apart handed_bytes _ _ (not-true _ h))
told_by namespace s t (follows x) h =
    by_following (bytes x) (and_left (well_formed (bytes x)) _ h) (apart outcome_bytes _ _ (not-true _ (and_left (not (same _ _)) _ (and_right (well_formed (bytes x)) _ h))))

-- the pair meets the premises of the namespace but p, and a call in the namespace asked tells it apart
holds : Option Bytes → Option Bytes → Premise → Bool
holds namespace asked p =
    let c = pair_of (expansion namespace) p in
    all_true (all_true (cut_tests (Some p) 40 namespace c.s c.t c.agreed c.differing) ∷ tells asked c.s c.t c.question ∷ [])

needed_by : (namespace asked : Option Bytes) (p : Premise) → Keeps (Some p) same_namespace (asked ≡ namespace) → holds namespace asked p ≡ true → Needed namespace p
unfolding holds
needed_by namespace asked p alone h =
    let c = pair_of (expansion namespace) p in
    let test = all_true (cut_tests (Some p) 40 namespace c.s c.t c.agreed c.differing) in
    record {
      s = c.s;
      t = c.t;
      asked = asked;
      alone = alone;
      others = cut_by (Some p) 40 namespace c.s c.t c.agreed c.differing (and_left test _ h);
      told = told_by asked c.s c.t c.question (and_left (tells asked c.s c.t c.question) _ (and_right test _ h));
    }

-- without a namespace, where nothing is asked of names twice over
pub needed : (p : Premise) → (p ≡ twice_over → ⊥) → Needed None p
unfolding tests_compute answers_bytes pair_of tells holds
needed same_namespace w = needed_by None (Some (bytes "a")) same_namespace tt refl
needed both_fit w = needed_by None None both_fit refl refl
needed no_directory w = needed_by None None no_directory refl refl
needed shared_names w = needed_by None None shared_names refl refl
needed under_refs_only w = needed_by None None under_refs_only refl refl
needed not_remote_heads w = needed_by None None not_remote_heads refl refl
needed same_id w = needed_by None None same_id refl refl
needed where_search_reads w = needed_by None None where_search_reads refl refl
needed no_other_block w = needed_by None None no_other_block refl refl
needed worktree_alike w = needed_by None None worktree_alike refl refl
needed others_agree w = needed_by None None others_agree refl refl
needed both_or_neither_common w = needed_by None None both_or_neither_common refl refl
needed twice_over w = absurd (w refl)

-- in the namespace n
pub needed_inside : (p : Premise) → Needed namespace_n p
unfolding tests_compute answers_bytes pair_of tells holds
needed_inside same_namespace = needed_by namespace_n (Some (bytes "n/a")) same_namespace tt refl
needed_inside both_fit = needed_by namespace_n namespace_n both_fit refl refl
needed_inside no_directory = needed_by namespace_n namespace_n no_directory refl refl
needed_inside shared_names = needed_by namespace_n namespace_n shared_names refl refl
needed_inside under_refs_only = needed_by namespace_n namespace_n under_refs_only refl refl
needed_inside not_remote_heads = needed_by namespace_n namespace_n not_remote_heads refl refl
needed_inside same_id = needed_by namespace_n namespace_n same_id refl refl
needed_inside where_search_reads = needed_by namespace_n namespace_n where_search_reads refl refl
needed_inside no_other_block = needed_by namespace_n namespace_n no_other_block refl refl
needed_inside worktree_alike = needed_by namespace_n namespace_n worktree_alike refl refl
needed_inside others_agree = needed_by namespace_n namespace_n others_agree refl refl
needed_inside both_or_neither_common = needed_by namespace_n namespace_n both_or_neither_common refl refl
needed_inside twice_over = needed_by namespace_n namespace_n twice_over refl refl
