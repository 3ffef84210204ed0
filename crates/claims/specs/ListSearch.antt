-- List and search agree (document 02, §14): "A profile chosen from the list is afterwards sought by name."
use Rattle.std.specs.Prelude.{◌≡◌, ℕ, [], true, false}
use Rattle.std.specs.Prelude.{Option, None, Some}
use Rattle.names.specs.Bytes.{Bytes, bytes, starts_with}
use Rattle.names.specs.Check.{gives}
use Rattle.names.specs.Name.{under_refs}
use Rattle.names.specs.Category.{is_private}
use Rattle.blocks.specs.Snapshot.{Snapshot, store, is_there, Fit}
use Rattle.refs.specs.Answer.{Answer, nothing}
use Rattle.refs.specs.Search.{Searched, Result, answers, turned_away, unfit, find}
use Rattle.refs.specs.View.{scope, view}
use Rattle.refs.specs.Listing.{Offer, next_offer}
use Rattle.refs.specs.Run.{State, step, Run, listing}
use Rattle.claims.specs.Compared.{compared}
use Rattle.claims.specs.Demand3.{held_in, some_held, Flat}

-- ---- what is compared

-- the entry that a listing of all references hands out next where no error waits, under its block's name: a refused entry's answer
-- has none
abbrev pub next_listed : ℕ → Snapshot → State → Option Offer
next_listed width s st = next_offer (view width (scope [])) (store width s) st.at

-- "the target, or the refusal": name and target, or the number, of what search gives
abbrev pub compared_result : Result Searched → Result Answer
compared_result (answers r) = answers (compared r.answer)
compared_result (turned_away k) = turned_away k
compared_result (unfit f) = unfit f

-- a name "sought whole", without a namespace
abbrev pub sought : ℕ → Snapshot → Bytes → Result Answer
sought width s x = compared_result (find width s x None)

-- ---- the premises

-- "packed names begin `refs/`"
abbrev pub PackedUnderRefs : Snapshot → Type 0
PackedUnderRefs s = (n : Bytes) → some_held (held_in s.packed n) ≡ true → under_refs n ≡ true

-- "and not `refs/worktree/`"
abbrev pub PackedNotWorktree : Snapshot → Type 0
PackedNotWorktree s = (n : Bytes) → some_held (held_in s.packed n) ≡ true → starts_with (bytes "refs/worktree/") n ≡ false

-- "and, with a common region, the worktree region has private names only"
abbrev pub WorktreePrivate : Snapshot → Type 0
WorktreePrivate s = is_there s.common ≡ true → (n : Bytes) → some_held (held_in s.worktree n) ≡ true → is_private n ≡ true

-- "On a snapshot fit for search"; "It holds where no held name is a directory of another", and so on
pub record Premises (width : ℕ) (s : Snapshot) : Type 0 where
  pub fit : Fit width s
  pub flat : Flat s
  pub packed_under_refs : PackedUnderRefs s
  pub packed_not_worktree : PackedNotWorktree s
  pub worktree_private : WorktreePrivate s

-- ---- the claim

-- a step hands out what is next, and its name sought whole gives the same; where nothing is next it answers "ended"
abbrev pub Agrees : ℕ → Snapshot → State → Option Offer → Type 0
Agrees width s st None = (step width s st).answer ≡ nothing
Agrees width s st (Some o) = ((step width s st).answer ≡ o.answer) × (sought width s o.name ≡ answers (compared o.answer))

-- "On a snapshot fit for search, without namespace .., each listed name sought whole gives the target, or the refusal, that the
-- listing showed": at the step after the opening and any number of steps
abbrev pub ListSearch : Type 0
ListSearch = (width : ℕ) (s : Snapshot) → Premises width s → (n : ℕ) (r : Run) → listing width s None n ≡ gives r → Agrees width s r.last (next_listed width s r.last)
