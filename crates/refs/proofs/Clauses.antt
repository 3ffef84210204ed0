-- Search, following and the listing, clause by clause, for the crates above.
use Rattle.std.specs.Prelude.{if◌then◌else◌}
use mathlib.Core.Path.{◌≡◌, refl}
use Prim.Native.Nat.{ℕ, suc}
use mathlib.Core.List.{List, [], ◌∷◌}
use mathlib.Core.Bool.{false, ◌||◌}
use Rattle.std.specs.Prelude.{Option, None, Some}
use Rattle.names.specs.Bytes.{Bytes, same}
use Rattle.names.specs.Name.{fits}
use Rattle.names.specs.Check.{◌or_else◌, checked}
use Rattle.names.specs.Candidates.{Candidate, candidates}
use Rattle.names.specs.Namespace.{expansion, names_check}
use Rattle.names.specs.Route.{packed_name}
use Rattle.blocks.specs.Entry.{Entry, name_of}
use Rattle.blocks.specs.Snapshot.{Snapshot, Store, store, or_empty, size_check, store_flaw}
use Rattle.refs.specs.Answer.{Reference, nothing, bears, block_of}
use Rattle.refs.specs.Search.{directory_of, clashes, deciding, region_of, path_of, file_of, record_of, entry_for, answer_of, or_next, lookup, first_answer, search, after_checks, call_check, find}
use Rattle.refs.specs.Follow.{stopped, among, on_target, on_answer, follow_from, follow_answer, following, follow}
use Rattle.refs.specs.View.{Seen, View, scope, view}
use Rattle.refs.specs.Listing.{none_left, first_seen, first_waiting, peek, choose, Positions, move}
use Rattle.refs.specs.Run.{State, start, open_listing, unless_refused, unless_ended, moved, step, run_opened, listing}

-- ---- one region

module _ (n : Bytes) where
  pub block_none : block_of n [] ≡ None
  unfolding block_of
  block_none = refl

  pub block_more : (e : Entry) (l : List Entry) → block_of n (e ∷ l) ≡ (if bears n (name_of e) then Some e else block_of n l)
  unfolding block_of
  block_more e l = refl

  pub clashes_none : clashes n [] ≡ false
  unfolding clashes
  clashes_none = refl

  pub clashes_more : (e : Entry) (l : List Entry) → clashes n (e ∷ l) ≡ (directory_of (name_of e) n || clashes n l)
  unfolding clashes
  clashes_more e l = refl

-- ---- search

module _ (e : Bytes) (s : Store) where
  pub file_is : (c : Bytes) → file_of e s c ≡ block_of (path_of e c) (region_of s c)
  unfolding file_of
  file_is c = refl

  pub entry_is : (k : Candidate) → entry_for e s k ≡ deciding (clashes (path_of e k.name) (region_of s k.name)) (file_of e s k.name) (record_of e s k.packed (packed_name k.name))
  unfolding entry_for
  entry_is k = refl

module _ (width : ℕ) (e : Bytes) (s : Store) where
  pub lookup_is : (k : Candidate) → lookup width e s k ≡ (if fits k.name then answer_of width e k.name (entry_for e s k) else nothing)
  unfolding lookup
  lookup_is k = refl

  pub first_none : first_answer width e s [] ≡ record { tried = 0; answer = nothing }
  unfolding first_answer
  first_none = refl

  pub first_more : (k : Candidate) (l : List Candidate) → first_answer width e s (k ∷ l) ≡ or_next (lookup width e s k) (first_answer width e s l)
  unfolding first_answer
  first_more k l = refl

  pub search_first : (x : Bytes) → search width e s x ≡ first_answer width e s (candidates x)
  unfolding search
  search_first x = refl

  -- ---- following

  pub follow_last : (seen : List Bytes) (r : Reference) → follow_from width e s 0 seen r ≡ stopped 15 r
  unfolding follow_from
  follow_last seen r = refl

  pub follow_more : (left : ℕ) (seen : List Bytes) (r : Reference) → follow_from width e s (suc left) seen r
      ≡ on_target r r.target (λ t. on_answer seen r (search width e s t).answer (λ x. follow_from width e s left (x.name ∷ seen) x))
  unfolding follow_from
  follow_more left seen r = refl

  pub following_is : (x : Bytes) → following width e s x ≡ follow_answer width e s (search width e s x).answer
  unfolding following
  following_is x = refl

module _ (n : Bytes) where
  pub among_none : among n [] ≡ false
  unfolding among
  among_none = refl

  pub among_next : (m : Bytes) (l : List Bytes) → among n (m ∷ l) ≡ (same m n || among n l)
  unfolding among
  among_next m l = refl

pub find_is : (width : ℕ) (s : Snapshot) (x : Bytes) (namespace : Option Bytes) → find width s x namespace
    ≡ after_checks (call_check s x namespace) (store_flaw (store width s)) (search width (expansion namespace) (store width s) x)
unfolding find
find_is width s x namespace = refl

pub follow_is : (width : ℕ) (s : Snapshot) (x : Bytes) (namespace : Option Bytes) → follow width s x namespace
    ≡ after_checks (call_check s x namespace) (store_flaw (store width s)) (following width (expansion namespace) (store width s) x)
unfolding follow
follow_is width s x namespace = refl

-- ---- the listing

module _ (see : Entry → Seen) (i : ℕ) where
  pub waiting_none : first_waiting see [] i ≡ none_left
  unfolding first_waiting
  waiting_none = refl

  pub waiting_more : (e : Entry) (l : List Entry) → first_waiting see (e ∷ l) i ≡ first_seen (see e) (suc i) (first_waiting see l (suc i))
  unfolding first_waiting
  waiting_more e l = refl

pub move_chooses : (v : View) (s : Store) (at : Positions) → move v s at
    ≡ choose (peek v.worktree s.worktree at.worktree) (peek v.common (or_empty s.common) at.common) (peek v.packed s.packed at.packed) at
unfolding move
move_chooses v s at = refl

pub step_is : (width : ℕ) (s : Snapshot) (st : State) → step width s st
    ≡ unless_refused (size_check s) st (unless_ended st.ended st (moved st (move (view width (scope st.expansion)) (store width s) st.at)))
unfolding step
step_is width s st = refl

module _ (s : Snapshot) (namespace : Option Bytes) where
  pub open_is : open_listing s namespace ≡ checked (size_check s or_else names_check None namespace) (start (expansion namespace))
  unfolding open_listing
  open_is = refl

  pub listing_is : (width n : ℕ) → listing width s namespace n ≡ run_opened width s n (checked (size_check s or_else names_check None namespace) (start (expansion namespace)))
  unfolding listing open_listing
  listing_is width n = refl
