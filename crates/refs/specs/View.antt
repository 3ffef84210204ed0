-- What a listing sees of an entry: which names it shows in each region, and what is an error entry.
use Rattle.std.specs.Prelude.{ℕ, [], ◌∷◌, Bool, true, false, not, ◌&&◌}
use Rattle.names.specs.Bytes.{Bytes, bytes, starts_with}
use Rattle.names.specs.WellFormed.{well_formed}
use Rattle.names.specs.Category.{is_private}
use Rattle.blocks.specs.Entry.{Entry, damaged, failed, loose, unread, packed_record}
use Rattle.refs.specs.Answer.{Answer, refused, says, strip_answer}

-- nothing, an error entry, or an answer under a name
pub data Seen : Type 0 where
  passed_over : Seen
  fault : Answer → Seen
  shown : Bytes → Answer → Seen

-- an answer under a name, if it is shown
abbrev pub shown_if : Bool → Bytes → Answer → Seen
shown_if true n a = shown n a
shown_if false n a = passed_over

-- an entry, where the names that pass `shows` are shown, without e in front. "Damaged blocks and kinds 3 and 5 are error entries."
abbrev pub see : ℕ → Bytes → (Bytes → Bool) → Entry → Seen
see width e shows damaged = fault (refused 6)
see width e shows failed = fault (refused 7)
see width e shows (loose n c) = shown_if (shows n) n (strip_answer e (says width n (loose n c)))
see width e shows (unread n) = shown_if (shows n) n (strip_answer e (says width n (unread n)))
see width e shows (packed_record n t p) = shown_if (shows n) n (strip_answer e (says width n (packed_record n t p)))

-- which names a listing shows: the beginnings of loose and of packed names, and what is stripped
pub record Scope : Type 0 where
  pub loose_under : Bytes
  pub packed_under : Bytes
  pub stripped : Bytes

-- "Without a namespace, loose entries begin `refs/` and packed is unfiltered; with one, all begin with its expansion."
abbrev pub scope : Bytes → Scope
scope [] = record { loose_under = bytes "refs/"; packed_under = []; stripped = [] }
scope (b ∷ e) = record { loose_under = b ∷ e; packed_under = b ∷ e; stripped = b ∷ e }

-- how the entries of each region are seen
pub record View : Type 0 where
  pub worktree : Entry → Seen
  pub common : Entry → Seen
  pub packed : Entry → Seen

-- "a loose entry whose name is not well formed is skipped"
abbrev pub worktree_shows : Scope → Bytes → Bool
worktree_shows c n = starts_with c.loose_under n && well_formed n

-- "Private names of the common region change nothing in a listing."
abbrev pub common_shows : Scope → Bytes → Bool
common_shows c n = starts_with c.loose_under n && well_formed n && not (is_private n)

-- the same for packed, where names are well formed already
abbrev pub packed_shows : Scope → Bytes → Bool
packed_shows c n = starts_with c.packed_under n

-- how a listing of that scope sees each region
abbrev pub view : ℕ → Scope → View
view width c =
    record {
      worktree = see width c.stripped (worktree_shows c);
      common = see width c.stripped (common_shows c);
      packed = see width c.stripped (packed_shows c);
    }
