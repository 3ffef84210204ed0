-- What the private functions of search and following promise. Nobody has to believe these: the promises of the public
-- functions do not speak of them.
use Rattle.std.specs.Prelude.{List, [], ◌∷◌, Bool, true, map}
use Rattle.std.specs.Prelude.{Option, None, Some, Result, Ok, Err}
use Rattle.names.specs.Bytes.{Bytes}
use Rattle.names.specs.Means.{content}
use denote.Ref.{Bor}
use Rattle.names.specs.Candidates.{Candidate, full_name, last_candidate}
use Rattle.blocks.specs.Means.{id_width}
use Rattle.blocks.specs.Snapshot.{Snapshot, store}
use Rattle.blocks.specs.Means.{entry_as}
use Rattle.refs.specs.Answer.{Answer, nothing, found, refused}
use Rattle.refs.specs.Search.{answer_of, lookup, first_answer}
use Rattle.refs.specs.Follow.{Followed, barred}
use Rattle.refs.specs.Reasons.{reason_number}
use Rattle.refs.specs.Means.{reference_of, trail_of}
use Rattle.refs.specs.declared.raw.Reason.{Reason}
use Rattle.refs.specs.declared.raw.Reference as code
use Rattle.refs.specs.declared.raw_ext.Trail.{Trail}
use Rattle.refs.specs.declared.find.Hit.{Hit}

-- ---- search

-- a candidate, and whether it is sought packed
abbrev pub candidate : Bytes → Bool → Candidate
candidate c seek = record { name = c; packed = seek }

-- what the candidate answers: nothing, over 250 bytes
abbrev pub looked_up : Bytes → Snapshot → Bytes → Bool → Answer
looked_up e s n seek = lookup id_width e (store id_width s) (candidate n seek)

-- the first answer, or else the second
abbrev pub or_answer : Answer → Answer → Answer
or_answer nothing b = b
or_answer (found r) b = found r
or_answer (refused k) b = refused k

-- the first answer of names, sought packed too, or else the rest
unfoldable pub first_of : Bytes → Snapshot → List Bytes → Answer → Answer
first_of e s [] rest = rest
first_of e s (n ∷ l) rest = or_answer (looked_up e s n true) (first_of e s l rest)

-- the candidates for x with some directories in between
abbrev pub full_names : Bool → Bytes → List (Bor Bytes) → List Bytes
full_names pseudo x l = map (λ d. full_name pseudo d.now x) l

-- what the last candidate answers
abbrev pub last_answer : Bytes → Snapshot → Bytes → Answer
last_answer e s x = (first_answer id_width e (store id_width s) (last_candidate x)).answer

-- what a hit answers
abbrev pub hit_answer : Bytes → Option Hit → Answer
hit_answer e None = nothing
hit_answer e (Some h) = answer_of id_width e (content h.name) (Some (entry_as h.entry.entry))

-- a reference, or 6, 7, 9 to 12
abbrev pub refused_or : Result code.Reference Reason → Answer
refused_or (Ok r) = found (reference_of r)
refused_or (Err why) = refused (reason_number why)

-- ---- following

-- a trail, or 6, 7, 9 to 12
abbrev pub ended : Result Trail Reason → Followed
ended (Ok t) = trail_of t
ended (Err why) = barred (reason_number why)
