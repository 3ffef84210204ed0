-- Pieces put into a buffer one behind the other.
use mathlib.Core.Path.{ap, ◌∙◌}
use Prim.Native.Nat.{ℕ, ◌+◌, ◌≤◌}
use native.Mathlib.Omega.{arith}
use mathlib.Core.List.{List, ◌++◌, append_assoc}
use lib.ListN.{length, take, length-append}
use Rattle.output.specs.Pasted.{Put}

-- a piece of at most so many bytes was put into a buffer
pub record PutWithin (most : ℕ) (before : List ℕ) (at : ℕ) (s after : List ℕ) (r : ℕ) : Type 0 where
  pub put : Put before at s after r
  pub within : r ≤ at + most

-- one piece behind the other is both
pub put_then : {b m a s t : List ℕ} {at i j : ℕ} → Put b at s m i → Put m i t a j → Put b at (s ++ t) a j
put_then {b} {m} {a} {s} {t} {at} p q =
    record {
      text = q.text ∙ ap (λ (x : List ℕ). x ++ t) p.text ∙ append_assoc (take at b) s t;
      ends = simp length-append (omega (arith, p.ends, q.ends));
      size = q.size ∙ p.size;
    }

-- a piece that is known to be short, then one of known length
pub within_then : {b m a s t : List ℕ} {at i j most : ℕ} → PutWithin most b at s m i → Put m i t a j → PutWithin (most + length t) b at (s ++ t) a j
within_then p q = record { put = put_then p.put q; within = omega (arith, p.within, q.ends) }

-- two that are known to be short
pub both_within : {b m a s t : List ℕ} {at i j most more : ℕ} → PutWithin most b at s m i → PutWithin more m i t a j → PutWithin (most + more) b at (s ++ t) a j
both_within p q = record { put = put_then p.put q.put; within = omega (arith, p.within, q.within) }
