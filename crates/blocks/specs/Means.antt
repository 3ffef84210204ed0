-- What the code's types mean, and parts that its answers speak of.
use Rattle.std.specs.Prelude.{◌≡◌, ℕ, ◌+◌, ◌*◌, ◌/◌, ◌≤◌, List, [], ◌∷◌, ◌++◌, Bool, true, false, ◌&&◌, not, leb, ltb, length, take, drop, replicate, if◌then◌else◌}
use Rattle.std.specs.Prelude.{Option, None, Some, Result, Ok, Err, option_copied}
use Rattle.std.specs.Option.{option_map}
use Rattle.std.specs.Result.{result_err}
use Rattle.names.specs.Bytes.{Bytes, every}
use Rattle.names.specs.Check.{Check}
use Rattle.names.specs.Name.{longest, fits}
use Rattle.names.specs.Means.{content}
use Rattle.blocks.specs.Layout.{block_size, longest_content, sum_at}
use Rattle.blocks.specs.Block.{Region, two_bytes, block_kind, name_length, content_length, block_name, block_content, sound}
use Rattle.blocks.specs.Content.{object, symbolic, Reading, reads, unreadable, is_hex, lower_case, begins_hex}
pub use Rattle.blocks.specs.Content.{target_name_in}
use Rattle.blocks.specs.Entry.{Entry, damaged, failed, loose, unread, packed_record, entry_of, entries}
use Rattle.blocks.specs.Fitness.{Flaw}
use Rattle.blocks.specs.Snapshot.{Snapshot, or_empty}
use Rattle.blocks.specs.declared.block.Region as code
use Rattle.blocks.specs.declared.snapshot.Snapshot as lent
use Rattle.blocks.specs.declared.block.Kind.{Kind}
use Rattle.blocks.specs.declared.block.Kind.TheVariants as kind
use Rattle.blocks.specs.declared.block.Entry as held
use Rattle.blocks.specs.declared.decode.Refusal.{Refusal}
use Rattle.blocks.specs.declared.decode.Refusal.TheVariants.{Unreadable, Incomplete, Unsupported}
use Rattle.blocks.specs.declared.decode.TargetRef.{TargetRef}
use Rattle.blocks.specs.declared.decode.TargetRef.TheVariants as ref
use Rattle.blocks.specs.declared.decode.Target as decoded
use Rattle.blocks.specs.declared.fitness.SizeError.{SizeError}
use Rattle.blocks.specs.declared.fitness.SizeError.TheVariants.{NotWhole, TooMany}
use Rattle.blocks.specs.declared.fitness.Reason.{Reason}
use Rattle.blocks.specs.declared.fitness.Reason.TheVariants as reason
use Rattle.blocks.specs.declared.fitness.Unfit.{Unfit}

-- "Object ids have 40 hexadecimal digits"
abbrev pub id_width : ℕ
id_width = 40

-- the region that the enum names
abbrev pub region_of : code.Region → Region
region_of code.TheVariants.Worktree = Region.worktree
region_of code.TheVariants.Common = Region.common
region_of code.TheVariants.Packed = Region.packed

-- ---- a block

-- the sum that a block holds: "Bytes 508–511, low first"
abbrev pub stored_sum : Bytes → ℕ
stored_sum b = two_bytes b sum_at + two_bytes b (sum_at + 2) * 65536

-- a block whose lengths are right
pub record Within (b : Bytes) : Type 0 where
  pub name : name_length b ≤ longest
  pub content : content_length b ≤ longest_content

-- name and content of a block, empty where the length is over the longest
abbrev pub name_within : Bytes → Bytes
name_within b = if leb (name_length b) longest then block_name b else []

-- the same for the content
abbrev pub content_within : Bytes → Bytes
content_within b = if leb (content_length b) longest_content then block_content b else []

-- what a block holds if it is sound
abbrev pub taken_entry : ℕ → Bytes → Entry
taken_entry width b = entry_of width (block_kind b) (name_within b) (content_within b)

-- no region has this block undamaged
abbrev pub NeverSound : Bytes → Type 0
NeverSound b = (r : Region) → sound id_width r b ≡ false

-- "1 loose file, 2 loose file that could not be read, 3 walk error, 4 packed record, 5 packed error"
abbrev pub kind_number : Kind → ℕ
kind_number kind.Loose = 1
kind_number kind.Unread = 2
kind_number kind.WalkError = 3
kind_number kind.Record = 4
kind_number kind.PackedError = 5

-- a byte that is one of these numbers
abbrev pub a_kind : ℕ → Option ℕ
a_kind b = if leb 1 b && leb b 5 then Some b else None

-- what the enum says
abbrev pub entry_as : held.Entry → Entry
entry_as held.TheVariants.Damaged = damaged
entry_as held.TheVariants.Failed = failed
entry_as (held.TheVariants.Loose n c) = loose n.now c.now
entry_as (held.TheVariants.Unread n) = unread n.now
entry_as (held.TheVariants.Record n t p) = packed_record n.now t.now (option_copied p)

-- ---- the blocks of a region

-- how many whole blocks a region has
abbrev pub block_count : Bytes → ℕ
block_count s = length s / block_size

-- the bytes of block i
abbrev pub block_at : Bytes → ℕ → Bytes
block_at s i = take block_size (drop (i * block_size) s)

-- name and content of block i, empty past the last whole block
abbrev pub name_in : Bytes → ℕ → Bytes
name_in s i = if ltb i (block_count s) then name_within (block_at s i) else []

-- the same for the content
abbrev pub content_in : Bytes → ℕ → Bytes
content_in s i = if ltb i (block_count s) then content_within (block_at s i) else []

-- the first of a list, if there is one
abbrev pub first : {A : Type 0} → List A → Option A
first [] = None
first (a ∷ l) = Some a

-- the entry of block i, none past the last
abbrev pub entry_in : ℕ → Region → Bytes → ℕ → Option Entry
entry_in width r s i = first (drop i (entries width r s))

-- the same if every block is sound
abbrev pub taken_in : ℕ → Bytes → ℕ → Option Entry
taken_in width s i = if ltb i (block_count s) then Some (taken_entry width (block_at s i)) else None

-- ---- ids

-- a text in a field of so many bytes, zeros behind it
unfoldable pub padded : ℕ → Bytes → Bytes
padded width s = take width (s ++ replicate width 0)

-- the id that s begins with, zeros following where s is shorter
abbrev pub id_in : ℕ → Bytes → Bytes
id_in width s = lower_case (padded width s)

-- an id's digits stand in front
abbrev pub begins_with_id : ℕ → Bytes → Bool
begins_with_id width s = leb width (length s) && every is_hex (take width s)

-- an id, and no further digit
abbrev pub is_id : ℕ → Bytes → Bool
is_id width s = begins_with_id width s && not (begins_hex (drop width s))

-- ---- loose contents

-- 10 "content unreadable as a reference", 11 "target not complete, 12 apart", 12 "target `refs/heads/.invalid`"
abbrev pub refusal_number : Refusal → ℕ
refusal_number Unreadable = 10
refusal_number Incomplete = 11
refusal_number Unsupported = 12

-- what a content points to, its parts in it
abbrev pub read_as : Result TargetRef Refusal → Reading
read_as (Ok (ref.Object digits)) = reads (object (id_in id_width digits.now))
read_as (Ok (ref.Symbolic name)) = reads (symbolic name.now)
read_as (Err why) = unreadable (refusal_number why)

-- what a target says that is held by itself
abbrev pub reading_of : Result decoded.Target Refusal → Reading
reading_of (Ok (decoded.TheVariants.Object id)) = reads (object id.digits)
reading_of (Ok (decoded.TheVariants.Symbolic name)) = reads (symbolic (content name))
reading_of (Err why) = unreadable (refusal_number why)

-- a target that no name can hold is refused 11; no content of a block has one
abbrev pub name_reading : Bytes → Reading
name_reading t = if fits t then reads (symbolic t) else unreadable 11

-- a reading that can be held
abbrev pub within_name : Reading → Reading
within_name (reads (object id)) = reads (object id)
within_name (reads (symbolic t)) = name_reading t
within_name (unreadable k) = unreadable k

-- ---- snapshots

-- an absent region is none, whatever was lent for it
abbrev pub if_there : Bool → Bytes → Option Bytes
if_there true s = Some s
if_there false s = None

-- the snapshot of three regions of bytes
abbrev pub snapshot_from : Bytes → Option Bytes → Bytes → Snapshot
snapshot_from w c p = record { worktree = w; common = c; packed = p }

-- the snapshot of three regions that were lent
abbrev pub snapshot_of : lent.Snapshot → Snapshot
snapshot_of s = snapshot_from s.worktree.now (option_copied s.common) s.packed.now

-- the bytes of a region, where an absent one has none
abbrev pub region_bytes : Snapshot → Region → Bytes
region_bytes s Region.worktree = s.worktree
region_bytes s Region.common = or_empty s.common
region_bytes s Region.packed = s.packed

-- 1 "size not a multiple of 512", 2 "over 4,096 blocks"
abbrev pub size_number : SizeError → ℕ
size_number NotWhole = 1
size_number TooMany = 2

-- the check that the answer is of
abbrev pub sizes_check : Result Unit SizeError → Check
sizes_check r = option_map size_number (result_err r)

-- 6 "damaged", 7 "kind 3 or 5", 8 "name not above the one before"
abbrev pub reason_number : Reason → ℕ
reason_number reason.Damaged = 6
reason_number reason.ErrorKind = 7
reason_number reason.NotAbove = 8

-- the check that the answer is of
abbrev pub reason_check : Result Unit Reason → Check
reason_check r = option_map reason_number (result_err r)

-- number, region and block
abbrev pub flaw_in : Unfit → Flaw
flaw_in f = record { number = reason_number f.reason; region = region_of f.region; block = f.block }

-- no flaw, or the one that is answered
abbrev pub flaw_of : Result Unit Unfit → Option Flaw
flaw_of r = option_map flaw_in (result_err r)
