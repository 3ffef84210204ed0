-- Numbers low byte first: ours and the library's are the same.
use mathlib.Core.Path.{◌≡◌}
use Prim.Native.Nat.{ℕ}
use native.Mathlib.Omega.{arith}
use mathlib.Core.List.{[], ◌∷◌}
use lib.ListN.{length}
use Rattle.std.specs.Int.{w64, to_le_bytes, from_le_bytes}
use Rattle.names.specs.Bytes.{Bytes}
use Rattle.capi.specs.Layout.{low_first, from_low_first, word}

-- as it is written
pub word_written : (n : ℕ) → to_le_bytes w64 n ≡ word n
unfolding low_first
word_written n = grind (arith)

-- as it is read
pub word_read : (s : Bytes) → length s ≡ 8 → from_le_bytes w64 s ≡ from_low_first s
unfolding from_low_first
word_read [] k = absurd (omega arith)
word_read (a ∷ []) k = absurd (omega arith)
word_read (a ∷ b ∷ []) k = absurd (omega arith)
word_read (a ∷ b ∷ c ∷ []) k = absurd (omega arith)
word_read (a ∷ b ∷ c ∷ d ∷ []) k = absurd (omega arith)
word_read (a ∷ b ∷ c ∷ d ∷ e ∷ []) k = absurd (omega arith)
word_read (a ∷ b ∷ c ∷ d ∷ e ∷ f ∷ []) k = absurd (omega arith)
word_read (a ∷ b ∷ c ∷ d ∷ e ∷ f ∷ g ∷ []) k = absurd (omega arith)
word_read (a ∷ b ∷ c ∷ d ∷ e ∷ f ∷ g ∷ h ∷ []) k = omega arith
word_read (a ∷ b ∷ c ∷ d ∷ e ∷ f ∷ g ∷ h ∷ i ∷ s) k = absurd (omega arith)
