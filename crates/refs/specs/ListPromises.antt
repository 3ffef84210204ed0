-- What the private functions of the listing promise. Nobody has to believe these: the promises of the public functions do
-- not speak of them.
use Rattle.std.specs.Prelude.{◌≡◌, ℕ, [], Bool, if◌then◌else◌}
use Rattle.std.specs.Prelude.{Option, None, Some, is_some}
use Rattle.std.specs.Option.{unwrap_or}
use Rattle.names.specs.Bytes.{Bytes}
use Rattle.blocks.specs.Block.{Region}
use Rattle.blocks.specs.Entry.{Entry, name_of, entries}
use Rattle.blocks.specs.Snapshot.{Snapshot}
use Rattle.blocks.specs.declared.block.Region as code
use Rattle.blocks.specs.Means.{id_width}
use Rattle.refs.specs.Answer.{Answer, nothing, says, strip_answer}
use Rattle.refs.specs.View.{Seen, Scope, scope, see, worktree_shows, common_shows, packed_shows}
use Rattle.refs.specs.Listing.{Waiting, none_left, error, named, Positions, Offer, Move, peek}
use Rattle.blocks.specs.Means.{entry_as, region_bytes}
use Rattle.refs.specs.Means.{positions_of}
use Rattle.refs.specs.declared.overlay_iter.Waiting as waiting
use Rattle.refs.specs.declared.overlay_iter.Positions as positions

-- ---- what a region shows

-- the names of a region that a listing shows
abbrev pub shows_in : Region → Scope → Bytes → Bool
shows_in Region.worktree c = worktree_shows c
shows_in Region.common c = common_shows c
shows_in Region.packed c = packed_shows c

-- how a listing under the expansion e sees a region
abbrev pub seen_in : Region → Bytes → Entry → Seen
seen_in r e = see id_width (scope e).stripped (shows_in r (scope e))

-- ---- what waits

-- the name of an entry, empty for an error
abbrev pub own_name : Entry → Bytes
own_name x = unwrap_or (name_of x) []

-- its answer under that name, without e in front
abbrev pub own_answer : Bytes → Entry → Answer
own_answer e x = strip_answer e (says id_width (own_name x) x)

-- what waits, by the name that it may bear
abbrev pub waiting_with : Option Bytes → Answer → ℕ → Waiting
waiting_with None a next = error a next
waiting_with (Some n) a next = named n a next

-- what waits, if anything does
abbrev pub waiting_of : Bytes → Option waiting.Waiting → Waiting
waiting_of e None = none_left
waiting_of e (Some w) = waiting_with (name_of (entry_as w.found.entry)) (own_answer e (entry_as w.found.entry)) w.next

-- what waits, where it is an error
abbrev pub error_of : Option waiting.Waiting → Option waiting.Waiting
error_of None = None
error_of (Some w) = if is_some (name_of (entry_as w.found.entry)) then None else Some w

-- it waits in the region
abbrev pub StandsIn : code.Region → Option waiting.Waiting → Type 0
StandsIn r None = Unit {0}
StandsIn r (Some w) = w.region ≡ r

-- the position of a region
abbrev pub position_in : Region → Positions → ℕ
position_in Region.worktree at = at.worktree
position_in Region.common at = at.common
position_in Region.packed at = at.packed

-- the positions, where that of the region is k
abbrev pub moved_in : Region → ℕ → Positions → Positions
moved_in Region.worktree k at = record { worktree = k; common = at.common; packed = at.packed }
moved_in Region.common k at = record { worktree = at.worktree; common = k; packed = at.packed }
moved_in Region.packed k at = record { worktree = at.worktree; common = at.common; packed = k }

-- what waits in a region of the snapshot, under the expansion e
abbrev pub waits_in : Region → Bytes → Snapshot → Positions → Waiting
waits_in r e s at = peek (seen_in r e) (entries id_width r (region_bytes s r)) (position_in r at)

-- ---- the choice

-- what waits, as an offer
abbrev pub offer_of : Bytes → Option waiting.Waiting → Option Offer
offer_of e None = None
offer_of e (Some w) = Some (record { name = own_name (entry_as w.found.entry); answer = own_answer e (entry_as w.found.entry) })

-- the answer that is handed out: "ended" where nothing waits
abbrev pub offered : Option Offer → Answer
offered None = nothing
offered (Some o) = o.answer

-- what is handed out, and the positions after it
abbrev pub taken : Bytes → Option waiting.Waiting → positions.Positions → Move
taken e w at = record { answer = offered (offer_of e w); next = positions_of at }
