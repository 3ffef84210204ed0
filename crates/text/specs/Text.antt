-- Tabs, line ends and numbers as text.
use Rattle.std.specs.Prelude.{ℕ, zero, suc, [], ◌∷◌, reverse, eqb, if◌then◌else◌}
use Rattle.names.specs.Bytes.{Bytes, bytes}

abbrev pub tab : Bytes
tab = 9 ∷ []

abbrev pub newline : Bytes
newline = 10 ∷ []

-- the digits 0 and 9
abbrev pub zero_digit : ℕ
zero_digit = 48

abbrev pub nine_digit : ℕ
nine_digit = 57

-- the numeral of one more, the last digit in front: a nine becomes a zero and carries
unfoldable pub one_more : Bytes → Bytes
one_more [] = bytes "1"
one_more (d ∷ l) = if eqb d nine_digit then zero_digit ∷ one_more l else suc d ∷ l

-- the numeral of a number, the last digit in front
unfoldable pub numeral : ℕ → Bytes
numeral zero = bytes "0"
numeral (suc n) = one_more (numeral n)

-- a number in decimal digits
unfoldable pub decimal : ℕ → Bytes
decimal n = reverse (numeral n)
