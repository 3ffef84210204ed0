-- Byte strings and numbers, as a field of the vector format writes them.
use Rattle.std.specs.Prelude.{ℕ, ◌+◌, ◌*◌, ◌-◌, ◌%◌, ◌^◌, ◌≡◌, [], ◌∷◌, Bool, ◌&&◌, ◌||◌, not, leb, eqb, length, if◌then◌else◌}
use Rattle.std.specs.Prelude.{Option, None, Some}
use Rattle.std.specs.Option.{option_map}
use Rattle.names.specs.Bytes.{Bytes, bytes, same, every}

-- ---- byte strings

-- "at most 20,481 bytes"
abbrev pub most : ℕ
most = 20481

-- a hexadecimal digit in lower case
unfoldable pub is_digit : ℕ → Bool
is_digit b = leb 48 b && leb b 57 || leb 97 b && leb b 102

-- what it stands for
unfoldable pub digit_value : ℕ → ℕ
digit_value b = if leb 48 b && leb b 57 then b - 48 else if leb 97 b && leb b 102 then b - 87 else 0

-- the bytes that pairs of digits stand for
unfoldable pub pairs : Bytes → Bytes
pairs [] = []
pairs (a ∷ []) = []
pairs (a ∷ b ∷ s) = (digit_value a * 16 + digit_value b) ∷ pairs s

-- "an even number of digits", and not too many
unfoldable pub is_pairs : Bytes → Bool
is_pairs s = not (eqb (length s) 0) && leb (length s) (most * 2) && eqb (length s % 2) 0 && every is_digit s

-- "`-` is the empty string"
unfoldable pub byte_string : Bytes → Option Bytes
byte_string s = if same s (bytes "-") then Some [] else if is_pairs s then Some (pairs s) else None

-- A field was read into a room: it gives the byte string that is there now, or the room stays as it was.
pub record Reads (s old new : Bytes) (r : Option Unit) : Type 0 where
  pub gives : option_map (λ _. new) r ≡ byte_string s
  pub stays : r ≡ None → new ≡ old

-- ---- numbers

-- "up to 2^64 - 1"
abbrev pub largest : ℕ
largest = 2 ^ 64 - 1

unfoldable pub is_decimal : ℕ → Bool
is_decimal b = leb 48 b && leb b 57

-- the number that digits behind v give
unfoldable pub digits_behind : ℕ → Bytes → ℕ
digits_behind v [] = v
digits_behind v (b ∷ s) = digits_behind (v * 10 + (b - 48)) s

-- the same, where all are digits and the number is not too large
unfoldable pub number_behind : ℕ → Bytes → Option ℕ
number_behind v s = if every is_decimal s && leb (digits_behind v s) largest then Some (digits_behind v s) else None

-- "one or more decimal digits without a sign, leading zeros allowed"
unfoldable pub number_in : Bytes → Option ℕ
number_in s = if eqb (length s) 0 then None else number_behind 0 s
