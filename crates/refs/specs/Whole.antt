-- What of an entry's parts is sure.
use Rattle.std.specs.Prelude.{ℕ, ◌<◌, List, drop, Bool, true, false, ◌&&◌, leb, eqb, length}
use Rattle.std.specs.Prelude.{Option, None, Some}
use Rattle.names.specs.Bytes.{Bytes}
use Rattle.names.specs.Name.{fits}
use Rattle.names.specs.Route.{Base, own, shared}
use Rattle.blocks.specs.Block.{Region}
use Rattle.blocks.specs.Layout.{longest_content}
use Rattle.blocks.specs.Content.{Target, object, symbolic}
use Rattle.blocks.specs.Entry.{Entry, damaged, failed, loose, unread, packed_record}
use Rattle.blocks.specs.Means.{id_width, id_in, first}
use Rattle.blocks.specs.declared.decode.TargetRef.{TargetRef}
use Rattle.blocks.specs.declared.decode.TargetRef.TheVariants as ref
use Rattle.blocks.specs.declared.decode.Target as held
use Rattle.blocks.specs.declared.decode.Target.TheVariants as target
use Rattle.names.specs.Means.{content}

-- an id has all its digits
abbrev pub whole_id : Bytes → Bool
whole_id d = eqb (length d) id_width

-- where there is one
abbrev pub whole_if_given : Option Bytes → Bool
whole_if_given None = true
whole_if_given (Some d) = whole_id d

-- name and content are no longer than a block's, and ids are whole
abbrev pub entry_within : Entry → Bool
entry_within damaged = true
entry_within failed = true
entry_within (loose n c) = fits n && leb (length c) longest_content
entry_within (unread n) = fits n
entry_within (packed_record n t p) = fits n && (whole_id t && whole_if_given p)

-- what a target's parts mean, its id in lower case
abbrev pub target_in : TargetRef → Target
target_in (ref.Object d) = object (id_in id_width d.now)
target_in (ref.Symbolic n) = symbolic n.now

-- what a target means that is held by itself
abbrev pub target_of : held.Target → Target
target_of (target.Object id) = object id.digits
target_of (target.Symbolic n) = symbolic (content n)

-- a name holds what a target names
abbrev pub target_fits : Target → Bool
target_fits (object d) = true
target_fits (symbolic t) = fits t

-- the loose region that search reads: the common one for a shared name, where there is one
abbrev pub region_read : Base → Bool → Region
region_read own has = Region.worktree
region_read shared true = Region.common
region_read shared false = Region.worktree

-- the number is that of one of n blocks
abbrev pub InRange : Option ℕ → ℕ → Type 0
InRange None n = Unit {0}
InRange (Some k) n = k < n

-- the entry of a number, if there is one
abbrev pub indexed : Option ℕ → List Entry → Option Entry
indexed None l = None
indexed (Some k) l = first (drop k l)
