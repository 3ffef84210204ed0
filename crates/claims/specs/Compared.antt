-- What is compared of two runs, and of two followings (document 01, "Two snapshots compared").
use Rattle.std.specs.Prelude.{ℕ, List, [], ◌∷◌, map, Bool}
use Rattle.std.specs.Prelude.{Option, None, Some}
use Rattle.names.specs.Bytes.{Bytes}
use Rattle.names.specs.Check.{Checked, gives, refuses}
use Rattle.names.specs.Name.{Above}
use Rattle.refs.specs.Answer.{Answer, nothing, found, refused}
use Rattle.refs.specs.Search.{Result, answers, turned_away, unfit}
use Rattle.refs.specs.Follow.{Followed, not_there, reached, stopped, barred}
use Rattle.refs.specs.Run.{Run}

-- "Compared are each step's full name and target, or its number, or its answer "ended" ..; peeled ids and positions are not"
abbrev pub compared : Answer → Answer
compared nothing = nothing
compared (found r) = found (record { name = r.name; target = r.target; peeled = None })
compared (refused k) = refused k

-- the list handed out, and whether the listing is ended
abbrev pub handed_out : Checked Run → Checked (List Answer × Bool)
handed_out (gives r) = gives (map compared r.answers, r.last.ended)
handed_out (refuses k) = refuses k

-- "the same id, refusal number or "not there""; "nor, in following, the last reference reached"
pub data Outcome : Type 0 where
  no_reference : Outcome
  an_id : Bytes → Outcome
  number : ℕ → Outcome

-- what is compared of a following
abbrev pub followed_outcome : Followed → Outcome
followed_outcome not_there = no_reference
followed_outcome (reached id r) = an_id id
followed_outcome (stopped k r) = number k
followed_outcome (barred k) = number k

-- what is compared of the call, its refusals among it
abbrev pub outcome : Result Followed → Outcome
outcome (answers f) = followed_outcome f
outcome (turned_away k) = number k
outcome (unfit f) = number f.number

-- each name that is listed is above the one listed before
abbrev pub Rising : Option Bytes → List Answer → Type 0
Rising b [] = Unit {0}
Rising b (nothing ∷ l) = Rising b l
Rising b (found r ∷ l) = Above b r.name × Rising (Some r.name) l
Rising b (refused k ∷ l) = Rising b l
