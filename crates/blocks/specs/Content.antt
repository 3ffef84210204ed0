-- What the content of a loose file says (loose/reference/decode.rs, parse.rs). An id has `width` digits.
use Rattle.std.specs.Prelude.{ℕ, ◌+◌, [], ◌∷◌, map, Bool, false, ◌&&◌, ◌||◌, not, leb, eqb, length, take, drop, if◌then◌else◌}
use Rattle.names.specs.Bytes.{Bytes, bytes, same, starts_with, every, after}
use Rattle.names.specs.WellFormed.{complete}

-- `Target`: an object id, or the name of another reference
pub data Target : Type 0 where
  object : Bytes → Target
  symbolic : Bytes → Target

-- a target, or a refusal 10 to 12
pub data Reading : Type 0 where
  reads : Target → Reading
  unreadable : ℕ → Reading

-- "Upper and lower case digits count"
unfoldable pub is_hex : ℕ → Bool
is_hex b = leb 48 b && leb b 57 || leb 65 b && leb b 70 || leb 97 b && leb b 102

-- "an answered or printed id is in lower case"
abbrev pub lower : ℕ → ℕ
lower b = if leb 65 b && leb b 90 then b + 32 else b

-- the same for all bytes of an id
abbrev pub lower_case : Bytes → Bytes
lower_case s = map lower s

-- ---- symbolic

-- the spaces in front, of which there may be more than the one of `ref: `
unfoldable pub skip_spaces : Bytes → Bytes
skip_spaces [] = []
skip_spaces (b ∷ s) = if eqb b 32 then skip_spaces s else b ∷ s

-- NUL, CR or LF
abbrev pub ends_line : ℕ → Bool
ends_line b = eqb b 0 || eqb b 13 || eqb b 10

-- "A target ends before the first NUL, CR or LF."
unfoldable pub line : Bytes → Bytes
line [] = []
line (b ∷ s) = if ends_line b then [] else b ∷ line s

-- what stands behind `ref: ` and the spaces, up to the line's end
abbrev pub target_name_in : Bytes → Bytes
target_name_in s = line (skip_spaces (after (bytes "ref: ") s))

-- "target not complete, 12 apart"; "target `refs/heads/.invalid`"
unfoldable pub read_target : Bytes → Reading
read_target t =
    if complete t then reads (symbolic t)
    else if same t (bytes "refs/heads/.invalid") then unreadable 12
    else unreadable 11

-- ---- ids

-- the first byte is a digit
unfoldable pub begins_hex : Bytes → Bool
begins_hex [] = false
begins_hex (b ∷ s) = is_hex b

-- "39 digits are too few"; "forty digits then `z`: an id", "then `a`: refused 10"
unfoldable pub read_id : ℕ → Bytes → Reading
read_id width s =
    if leb width (length s) && every is_hex (take width s) && not (begins_hex (drop width s)) then reads (object (lower_case (take width s)))
    else unreadable 10

-- `try_from_path`
unfoldable pub read : ℕ → Bytes → Reading
read width s = if starts_with (bytes "ref: ") s then read_target (target_name_in s) else read_id width s
