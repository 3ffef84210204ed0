-- What the code's types mean: for each answer the paper's number and values.
use Rattle.std.specs.Prelude.{◌≡◌, Bool, true, false, [], ℕ, drop, if◌then◌else◌}
use Rattle.std.specs.Prelude.{Option, None, Some, Ok, Err, List}
use Rattle.std.specs.Prelude as std
use Rattle.std.specs.Option.{option_map}
use Rattle.names.specs.Bytes.{Bytes}
use Rattle.names.specs.Means.{content, number}
use Rattle.blocks.specs.Block.{Region}
use Rattle.blocks.specs.Entry.{Entry}
use Rattle.blocks.specs.Means.{id_width, id_in}
use Rattle.blocks.specs.Means as blocks
use Rattle.refs.specs.Answer.{Reference, Answer, nothing, found, refused}
use Rattle.refs.specs.Search.{Searched, Result, answers, turned_away, unfit}
use Rattle.refs.specs.Follow.{Followed, not_there, reached, stopped, barred}
use Rattle.refs.specs.Listing.{Positions}
use Rattle.refs.specs.Run.{State, Step}
use Rattle.refs.specs.declared.raw.Reason.{Reason}
use Rattle.refs.specs.declared.raw_ext.Stop.{Stop}
use Rattle.refs.specs.declared.raw_ext.Trail.{Trail}
use Rattle.refs.specs.declared.raw.Parts.{Parts}
use Rattle.refs.specs.declared.check.CallError.{CallError}
use Rattle.refs.specs.declared.check.CallError.TheVariants as error
use Rattle.refs.specs.declared.check.CheckedCall.{CheckedCall}
use Rattle.refs.specs.declared.find.FindError.{FindError}
use Rattle.refs.specs.declared.find.FindError.TheVariants as find
use Rattle.refs.specs.Reasons.{reason_number, stop_number}
use Rattle.refs.specs.Whole.{target_in, target_of}
use Rattle.blocks.specs.declared.parse.Id.{Id}
use Rattle.refs.specs.declared.raw.Reference as code
use Rattle.names.specs.Check.{Checked, gives, refuses}
use Rattle.blocks.specs.Entry.{entries}
use Rattle.refs.specs.Answer.{strip_answer}
use Rattle.refs.specs.declared.overlay_iter.Positions as positions
use Rattle.refs.specs.declared.overlay_iter.Cursor.{Cursor}
use Rattle.refs.specs.declared.overlay_iter.Listing as listing
use Rattle.refs.specs.declared.overlay_iter.OpenError.{OpenError}
use Rattle.refs.specs.declared.overlay_iter.OpenError.TheVariants as opening
use Rattle.refs.specs.declared.overlay_iter.StepError.{StepError}
use Rattle.refs.specs.declared.overlay_iter.StepError.TheVariants as step
use Rattle.refs.specs.declared.packed.PackedReader.{PackedReader}

-- ---- answers

-- the reference that the struct holds
abbrev pub reference_of : code.Reference → Reference
reference_of r = record { name = content r.name; target = target_of r.target; peeled = option_map (λ i. i.digits) r.peeled }

-- the reference of such parts, its ids in lower case
abbrev pub parts_of : Parts → Reference
parts_of p = record { name = p.name.now; target = target_in p.target; peeled = option_map (λ d. id_in id_width d.now) p.peeled }

-- what an entry says: a reference, or 6, 7, 9 to 12
abbrev pub said : std.Result Parts Reason → Answer
said (Ok p) = found (parts_of p)
said (Err why) = refused (reason_number why)

-- ---- calls

-- 1 and 2, 3 to 5, or 6 to 8 with region and block
abbrev pub turned_back : {A : Type 0} → CallError → Result A
turned_back (error.Sizes e) = turned_away (blocks.size_number e)
turned_back (error.Names why) = turned_away (number why)
turned_back (error.Unfit u) = unfit (blocks.flaw_in u)

-- the namespace's expansion, where the call passed
abbrev pub call_gives : std.Result CheckedCall CallError → Result Bytes
call_gives (Ok c) = answers (content c.expansion)
call_gives (Err e) = turned_back e

-- fit for search, or why not
abbrev pub fit_gives : std.Result Unit CallError → Result Unit
fit_gives (Ok u) = answers u
fit_gives (Err e) = turned_back e

-- what a search answers, without the number of candidates tried
abbrev pub answer_only : Result Searched → Result Answer
answer_only (answers s) = answers s.answer
answer_only (turned_away k) = turned_away k
answer_only (unfit f) = unfit f

-- not there, a reference, or the refusal of the call or of the entry
abbrev pub found_of : std.Result (Option code.Reference) FindError → Result Answer
found_of (Ok None) = answers nothing
found_of (Ok (Some r)) = answers (found (reference_of r))
found_of (Err (find.Call e)) = turned_back e
found_of (Err (find.Entry why)) = answers (refused (reason_number why))

-- ---- following

-- where it ends
abbrev pub end_of : std.Result Id Stop → Reference → Followed
end_of (Ok i) r = reached i.digits r
end_of (Err why) r = stopped (stop_number why) r

-- the id and the last reference reached; 13 to 15 with it
abbrev pub trail_of : Trail → Followed
trail_of t = end_of t.end (reference_of t.last)

-- not there; the trail; 9 to 12; or the refusal of the call
abbrev pub followed_of : std.Result (Option Trail) FindError → Result Followed
followed_of (Ok None) = answers not_there
followed_of (Ok (Some t)) = answers (trail_of t)
followed_of (Err (find.Call e)) = turned_back e
followed_of (Err (find.Entry why)) = answers (barred (reason_number why))

-- ---- the listing

-- the positions that the struct holds
abbrev pub positions_of : positions.Positions → Positions
positions_of at = record { worktree = at.worktree; common = at.common; packed = at.packed }

-- the state of a listing under the expansion e
abbrev pub state_at : Bytes → Cursor → State
state_at e c = record { at = positions_of c.at; ended = c.ended; expansion = e }

-- the state that the struct holds
abbrev pub state_of : listing.Listing → State
state_of l = state_at (content l.expansion) l.cursor

-- 1 "size not a multiple of 512", 2 "over 4,096 blocks", 3 to 5 of the namespace
abbrev pub open_number : OpenError → ℕ
open_number (opening.Sizes e) = blocks.size_number e
open_number (opening.Namespace e) = number e

-- a state, or the number
abbrev pub opened : std.Result listing.Listing OpenError → Checked State
opened (Ok l) = gives (state_of l)
opened (Err e) = refuses (open_number e)

-- 1, 2, or 6 to 12
abbrev pub step_number : StepError → ℕ
step_number (step.Sizes e) = blocks.size_number e
step_number (step.Entry e) = reason_number e

-- a reference, nothing, or the number of why there is none
abbrev pub listed : {A E : Type 0} → (A → Reference) → (E → ℕ) → std.Result (Option A) E → Answer
listed view number (Ok (Some r)) = found (view r)
listed view number (Ok None) = nothing
listed view number (Err e) = refused (number e)

-- the answer, without e in front of its names, and the next state, whose expansion is e still
abbrev pub advanced : Bytes → std.Result (Option Parts) StepError → Cursor → Step
advanced e r c = record { answer = strip_answer e (listed parts_of step_number r); next = state_at e c }

-- the answer and the next state
abbrev pub step_of : std.Result (Option code.Reference) StepError → listing.Listing → Step
step_of r l = record { answer = listed reference_of step_number r; next = state_of l }

-- ---- the packed region

-- what block k of the packed region s holds, if there is one
abbrev pub record_in : Bytes → ℕ → Option Entry
record_in s k = blocks.entry_in id_width Region.packed s k

-- what a reader has still to hand out
abbrev pub records_of : PackedReader → List Entry
records_of r = drop r.at (entries id_width Region.packed r.region.now)
