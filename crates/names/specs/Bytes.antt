-- Byte strings, and the one order of names.
use Prim.Native.Nat.{ℕ, Ordering, compare}
use Prim.Native.Char.{code}
use Prim.Native.String.{String}
use Rattle.std.specs.Prelude.{List, [], ◌∷◌, Bool, true, false, ◌&&◌, ◌||◌, eqb, length, drop, if◌then◌else◌}
use Rattle.std.proofs.Math.Dec.{compare_is_eq}

-- a name, a content, an id, a block or a region
abbrev pub Bytes : Type 0
Bytes = List ℕ

-- the bytes of a quoted text
abbrev pub bytes : String → Bytes
bytes String.[] = []
bytes (String.◌∷◌ c s) = code c ∷ bytes s

-- a slash
abbrev pub slash : ℕ
slash = 47

-- the first comparison that tells
abbrev pub first_told : Ordering → Ordering → Ordering
first_told Ordering.lt o = Ordering.lt
first_told Ordering.eq o = o
first_told Ordering.gt o = Ordering.gt

-- "Order is by bytes, a proper beginning first."
unfoldable pub order : Bytes → Bytes → Ordering
order [] [] = Ordering.eq
order [] (b ∷ t) = Ordering.lt
order (a ∷ s) [] = Ordering.gt
order (a ∷ s) (b ∷ t) = first_told (compare a b) (order s t)

-- the same bytes
abbrev pub same : Bytes → Bytes → Bool
same s t = compare_is_eq (order s t)

-- s begins with p
unfoldable pub starts_with : Bytes → Bytes → Bool
starts_with [] s = true
starts_with (a ∷ p) [] = false
starts_with (a ∷ p) (b ∷ s) = eqb a b && starts_with p s

-- s ends with p: it is p, or what follows its first byte ends with p
unfoldable pub ends_with : Bytes → Bytes → Bool
ends_with p [] = same [] p
ends_with p (b ∷ s) = same (b ∷ s) p || ends_with p s

-- p stands somewhere in s
unfoldable pub contains : Bytes → Bytes → Bool
contains p [] = starts_with p []
contains p (b ∷ s) = starts_with p (b ∷ s) || contains p s

-- every byte passes a test
unfoldable pub every : (ℕ → Bool) → Bytes → Bool
every f [] = true
every f (b ∷ s) = f b && every f s

-- what stands behind p, in a text that begins with it
abbrev pub after : Bytes → Bytes → Bytes
after p s = drop (length p) s

-- s without p, where p stands in front
unfoldable pub strip : Bytes → Bytes → Bytes
strip p s = if starts_with p s then after p s else s
