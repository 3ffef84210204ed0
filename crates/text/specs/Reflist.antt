-- The program `reflist` (document 01, the end of "Listing").
use Rattle.std.specs.Prelude.{ℕ, ◌+◌, ◌/◌, List, [], ◌∷◌, ◌++◌, length}
use Rattle.std.specs.Prelude.{None, Some}
use Rattle.names.specs.Bytes.{Bytes, bytes}
use Rattle.names.specs.Category.{short_name}
use Rattle.names.specs.Check.{Check}
use Rattle.blocks.specs.Layout.{block_size}
use Rattle.blocks.specs.Content.{Target, object, symbolic}
use Rattle.blocks.specs.Snapshot.{Snapshot, or_empty, sizes_within}
use Rattle.refs.specs.Answer.{Reference, Answer, nothing, found, refused}
use Rattle.refs.specs.Run.{listing, answers_of}
use Rattle.text.specs.Text.{tab, newline, decimal}

-- "(over 40 blocks: 2)"
abbrev pub most_listed : ℕ
most_listed = 40

-- "The heading is `full`, `short` and `target`." "Fields, by tab"
abbrev pub heading : Bytes
heading = bytes "full" ++ tab ++ bytes "short" ++ tab ++ bytes "target" ++ newline

-- "target or `-> ` and target"
abbrev pub target_field : Target → Bytes
target_field (object id) = id
target_field (symbolic n) = bytes "-> " ++ n

-- "full name, category's short name (whole name if none), target"
unfoldable pub entry_line : Reference → Bytes
entry_line r = r.name ++ tab ++ short_name r.name ++ tab ++ target_field r.target ++ newline

-- "an error line is `!`, tab, number"
unfoldable pub error_line : ℕ → Bytes
error_line k = bytes "!" ++ tab ++ decimal k ++ newline

-- what is written of a step's answer: nothing, where it says that the listing is ended
abbrev pub answer_line : Answer → Bytes
answer_line nothing = []
answer_line (found r) = entry_line r
answer_line (refused k) = error_line k

-- one line for each answer, in order
unfoldable pub answer_lines : List Answer → Bytes
answer_lines [] = []
answer_lines (a ∷ l) = answer_line a ++ answer_lines l

-- a line or none
abbrev pub line_weight : Answer → ℕ
line_weight nothing = 0
line_weight (found r) = 1
line_weight (refused k) = 1

-- "the count of the lines between"
unfoldable pub line_count : List Answer → ℕ
line_count [] = 0
line_count (a ∷ l) = line_weight a + line_count l

-- "the last line is `end`, tab and the count"
unfoldable pub end_line : ℕ → Bytes
end_line n = bytes "end" ++ tab ++ decimal n ++ newline

-- the blocks of a snapshot; so many steps hand out all of it, since each that does not end the listing takes a block
unfoldable pub block_total : Snapshot → ℕ
block_total s = length s.worktree / block_size + length (or_empty s.common) / block_size + length s.packed / block_size

-- rows 1 and 2 with the program's own limit: "(over 40 blocks: 2)"
unfoldable pub files_check : ℕ → ℕ → ℕ → Check
files_check w c p = sizes_within most_listed w c p

-- a line for each answer, and the end
unfoldable pub listed_text : List Answer → Bytes
listed_text l = answer_lines l ++ end_line (line_count l)

-- "After a refusal 1 or 2 one error line follows it and nothing more; otherwise the last line is `end`"
abbrev pub below_heading : Check → List Answer → Bytes
below_heading (Some k) l = error_line k
below_heading None l = listed_text l

-- what `reflist` writes of the files' bytes: "A missing file is an absent region, or an empty worktree."
unfoldable pub report : ℕ → Snapshot → Bytes
report width s =
    heading
    ++ below_heading
    (files_check (length s.worktree) (length (or_empty s.common)) (length s.packed))
    (answers_of (listing width s None (block_total s)))

-- the same of files that are too large to be read, from their sizes; nothing where the sizes are right
abbrev pub size_report : Check → Bytes
size_report None = []
size_report (Some k) = heading ++ error_line k
