-- What private functions promise: the rules of a well-formed name, byte by byte; and the width of a byte in an expansion. And
-- a component of a name, by which proofs/Components reads two of the rules.
use Rattle.std.specs.Prelude.{ℕ, zero, suc, ◌+◌, [], ◌∷◌, Bool, true, ◌&&◌, ◌||◌, not, eqb, leb, length, get_or, if◌then◌else◌}
use Rattle.names.specs.Bytes.{Bytes, bytes, slash, same, starts_with, ends_with, contains, every}
use Rattle.names.specs.WellFormed.{allowed}

-- all rules but "not empty" and "not `@` alone", of what stands behind the byte p
unfoldable pub rules_after : ℕ → Bytes → Bool
rules_after p s =
    not (contains (bytes "/.") (p ∷ s))
    && not (ends_with (bytes ".lock") s)
    && not (contains (bytes ".lock/") s)
    && not (contains (bytes "..") (p ∷ s))
    && every allowed s
    && not (ends_with (bytes "/") s)
    && not (contains (bytes "//") (p ∷ s))
    && not (ends_with (bytes ".") s)
    && not (contains (bytes "@{") (p ∷ s))

-- the same rules, at the first byte of s
unfoldable pub fits_after : ℕ → Bytes → Bool
fits_after p s =
    not (starts_with (bytes "/.") (p ∷ s))
    && not (same s (bytes ".lock"))
    && not (starts_with (bytes ".lock/") s)
    && not (starts_with (bytes "..") (p ∷ s))
    && allowed (get_or s 0 0)
    && not (same s (bytes "/"))
    && not (starts_with (bytes "//") (p ∷ s))
    && not (same s (bytes "."))
    && not (starts_with (bytes "@{") (p ∷ s))

-- does it begin with a `.lock` that ends a component?
abbrev pub lock_ends : Bytes → Bool
lock_ends t = same t (bytes ".lock") || starts_with (bytes ".lock/") t

-- the byte before place i, a slash before the first
abbrev pub before : Bytes → ℕ → ℕ
before s i = get_or (slash ∷ s) i 0

-- is it `-`, `0` to `9`, `@` to `Z` or `_` to `z`?
abbrev pub plain : ℕ → Bool
plain b = (leb 95 b && leb b 122) || (leb 48 b && leb b 57) || (leb 64 b && leb b 90) || eqb b 45

-- is it a dot or a slash?
abbrev pub parting : ℕ → Bool
parting b = leb 46 b && leb b 47

-- is b sure to fit between p and n? It is plain, or a dot or slash that follows neither and is no dot before an `l`
abbrev pub sure : ℕ → ℕ → ℕ → Bool
sure p b n = plain b || (parting b && not (parting p) && (eqb b slash || not (eqb n 108)))

-- are n bytes behind place i?
abbrev pub all_sure : Bytes → ℕ → ℕ → Bool
all_sure s i zero = true
all_sure s i (suc n) = all_sure s i n && sure (get_or s (i + n) 0) (get_or s (i + n + 1) 0) (get_or s (i + n + 2) 0)

-- what stands before the first slash
unfoldable pub first_part : Bytes → Bytes
first_part [] = []
first_part (b ∷ s) = if eqb b slash then [] else b ∷ first_part s

-- how many bytes a byte of a namespace becomes in the expansion
abbrev pub width_in : ℕ → ℕ
width_in b = if eqb b slash then length (bytes "/refs/namespaces/") else 1
