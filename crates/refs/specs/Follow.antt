-- Following (raw_ext.rs `follow_to_object_packed`).
use Rattle.std.specs.Prelude.{ℕ, zero, suc, List, [], ◌∷◌, Bool, false, ◌||◌, if◌then◌else◌}
use Rattle.std.specs.Prelude.{Option}
use Rattle.names.specs.Bytes.{Bytes, same}
use Rattle.names.specs.Namespace.{expansion}
use Rattle.blocks.specs.Content.{Target, object, symbolic}
use Rattle.blocks.specs.Snapshot.{Snapshot, Store, store, store_flaw}
use Rattle.refs.specs.Answer.{Reference, Answer, nothing, found, refused}
use Rattle.refs.specs.Search.{search, Result, after_checks, call_check}

-- "Following gives the id and the last reference reached, or "not there" where the first search does"; 13 to 15 with the
-- last reference reached; "Search and following give 9 to 12 for the file that decides, as the number alone."
pub data Followed : Type 0 where
  not_there : Followed
  reached : Bytes → Reference → Followed
  stopped : ℕ → Reference → Followed
  barred : ℕ → Followed

-- n is one of the names seen
unfoldable pub among : Bytes → List Bytes → Bool
among n [] = false
among n (m ∷ l) = same m n || among n l

-- "An object target .. ends following, peeled id or not, and its id is the one given"
abbrev pub on_target : Reference → Target → (Bytes → Followed) → Followed
on_target r (object id) go = reached id r
on_target r (symbolic t) go = go t

-- what the search of r's target answers: 13 "target not found", 14 "next name already seen"
abbrev pub on_answer : List Bytes → Reference → Answer → (Reference → Followed) → Followed
on_answer seen r nothing go = stopped 13 r
on_answer seen r (refused k) go = barred k
on_answer seen r (found x) go = if among x.name seen then stopped 14 r else go x

-- `MAX_REF_DEPTH`: "five names seen"
abbrev pub max_ref_depth : ℕ
max_ref_depth = 5

module _ (width : ℕ) (e : Bytes) (s : Store) where
  -- from r, where `left` more names may be seen: with the last of them "five names seen", 15
  unfoldable pub follow_from : ℕ → List Bytes → Reference → Followed
  follow_from zero seen r = stopped 15 r
  follow_from (suc left) seen r =
      on_target r r.target (λ t. on_answer seen r (search width e s t).answer (λ x. follow_from left (x.name ∷ seen) x))

  -- the starting reference does not count as seen
  abbrev pub follow_answer : Answer → Followed
  follow_answer nothing = not_there
  follow_answer (refused k) = barred k
  follow_answer (found r) = follow_from max_ref_depth [] r

  -- from the name x: the first search, then from what it finds
  unfoldable pub following : Bytes → Followed
  following x = follow_answer (search width e s x).answer

-- the call
unfoldable pub follow : ℕ → Snapshot → Bytes → Option Bytes → Result Followed
follow width s x namespace =
    after_checks (call_check s x namespace) (store_flaw (store width s)) (following width (expansion namespace) (store width s) x)
