-- What a call reports: a number and, where there are such, a block's place and a reference.
use Rattle.std.specs.Prelude.{ℕ}
use Rattle.std.specs.Prelude.{Option, None, Some}
use Rattle.names.specs.Check.{Check, Checked, gives, refuses}
use Rattle.blocks.specs.Block.{Region}
use Rattle.blocks.specs.Fitness.{Flaw}
use Rattle.blocks.specs.Snapshot.{Snapshot, store, size_check, store_flaw}
use Rattle.blocks.specs.Means.{id_width}
use Rattle.refs.specs.Answer.{Reference, Answer, nothing, found, refused}
use Rattle.refs.specs.Search.{Searched, Result, answers, turned_away, unfit, after_checks}
use Rattle.refs.specs.Follow.{Followed, not_there, reached, stopped, barred}

-- "not there" and "ended", which have no number in document 01
abbrev pub nothing_number : ℕ
nothing_number = 100

-- an output that is too short
abbrev pub too_short : ℕ
too_short = 101

-- 0 for an answer, else the number of the table or one of the two above; region and block of 6 to 8
pub record Report : Type 0 where
  pub number : ℕ
  pub region : ℕ
  pub block : ℕ
  pub reference : Option Reference

-- a number, and a reference where there is one
abbrev pub report : ℕ → Option Reference → Report
report k r = record { number = k; region = 0; block = 0; reference = r }

-- regions by number; 0 is none
abbrev pub region_number : Region → ℕ
region_number Region.worktree = 1
region_number Region.common = 2
region_number Region.packed = 3

-- 6 to 8: "number, region, block"
abbrev pub unfit_report : Flaw → Report
unfit_report f = record { number = f.number; region = region_number f.region; block = f.block; reference = None }

-- a call on a snapshot, where what its answer reports is told
abbrev pub result_report : {A : Type 0} → (A → Report) → Result A → Report
result_report f (answers a) = f a
result_report f (turned_away k) = report k None
result_report f (unfit w) = unfit_report w

-- an answer of search or of a listing's step
abbrev pub answer_report : Answer → Report
answer_report nothing = report nothing_number None
answer_report (found r) = report 0 (Some r)
answer_report (refused k) = report k None

-- search
abbrev pub searched_report : Searched → Report
searched_report s = answer_report s.answer

-- following: the last reference reached has the id
abbrev pub followed_report : Followed → Report
followed_report not_there = report nothing_number None
followed_report (reached id r) = report 0 (Some r)
followed_report (stopped k r) = report k (Some r)
followed_report (barred k) = report k None

-- a call that answers no more than that its checks passed
abbrev pub passed_report : Unit {0} → Report
passed_report u = report 0 None

-- "Fit for search means none of 1, 2, 6, 7, 8."
abbrev pub fitness_report : Snapshot → Report
fitness_report s = result_report passed_report (after_checks (size_check s) (store_flaw (store id_width s)) tt)

-- a check's number, 0 where it passes
abbrev pub check_number : Check → ℕ
check_number None = 0
check_number (Some k) = k

-- the same of an answer that a check may refuse
abbrev pub checked_number : {A : Type 0} → Checked A → ℕ
checked_number (gives a) = 0
checked_number (refuses k) = k
