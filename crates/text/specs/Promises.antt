-- What private functions promise.
use Rattle.std.specs.Prelude.{◌≡◌, ℕ, ◌+◌, ◌*◌, ◌≤◌, List, ◌++◌, length}
use Rattle.std.specs.Prelude.{Option, None, Result}
use Rattle.names.specs.Bytes.{Bytes}
use Rattle.names.specs.Name.{longest}
use Rattle.blocks.specs.Snapshot.{Snapshot}
use Rattle.blocks.specs.Means.{id_width}
use Rattle.refs.specs.Answer.{Answer}
use Rattle.refs.specs.Run.{listing, answers_of}
use Rattle.refs.specs.Means.{reference_of, listed, step_number}
use Rattle.refs.specs.declared.raw.Reference as code
use Rattle.refs.specs.declared.overlay_iter.StepError.{StepError}
use Rattle.text.specs.Reflist.{most_listed, block_total}

-- a piece of at most so many bytes was put behind a text, if there was room for it
pub record Adds (room most : ℕ) (before s after : Bytes) : Type 0 where
  pub text : length before + length s ≤ room → after ≡ before ++ s
  pub short : length s ≤ most

-- the most digits of a number of 64 bits
abbrev pub most_digits : ℕ
most_digits = 20

-- the longest target of a line of `reflist`: `-> ` and a name
abbrev pub longest_target : ℕ
longest_target = 3 + longest

-- the longest line: two names, a target, two tabs and the line's end
abbrev pub longest_line : ℕ
longest_line = longest + 1 + longest + 1 + longest_target + 1

-- the most steps that hand out something: one for each block of three files
abbrev pub most_steps : ℕ
most_steps = 3 * most_listed

-- the end with the count of the lines
abbrev pub longest_end : ℕ
longest_end = 4 + most_digits + 1

-- what a step answers
abbrev pub step_answer : Result (Option code.Reference) StepError → Answer
step_answer r = listed reference_of step_number r

-- the answers of a listing without a namespace, to its end
abbrev pub listed_answers : Snapshot → List Answer
listed_answers s = answers_of (listing id_width s None (block_total s))

-- ---- `refshow`

-- the longest words, with room to spare
abbrev pub longest_words : ℕ
longest_words = 160

-- the longest line of a refusal
abbrev pub longest_refused : ℕ
longest_refused = 8 + most_digits + 2 + longest_words + 1

-- the file and the block of a refusal
abbrev pub longest_unfit : ℕ
longest_unfit = 3 + 8 + 12 + most_digits + 1
