-- Bytes written over others.
use Rattle.std.specs.Prelude.{◌≡◌, ℕ, zero, suc, ◌+◌, List, [], ◌∷◌, ◌++◌, length, take}

-- s written over b from a position on: what lies before and behind stays, what finds no room is left out
unfoldable pub pasted : List ℕ → ℕ → List ℕ → List ℕ
pasted [] at s = []
pasted (x ∷ b) zero [] = x ∷ b
pasted (x ∷ b) zero (y ∷ s) = y ∷ pasted b zero s
pasted (x ∷ b) (suc at) s = x ∷ pasted b at s

-- s was put into a buffer that has room for it, behind the first `at` bytes, and ends at r
pub record Put (before : List ℕ) (at : ℕ) (s after : List ℕ) (r : ℕ) : Type 0 where
  pub text : take r after ≡ take at before ++ s
  pub ends : r ≡ at + length s
  pub size : length after ≡ length before
