-- Pieces put into a text one behind the other.
use mathlib.Core.Path.{◌≡◌, ap, sym, ◌∙◌}
use Prim.Native.Nat.{ℕ, ◌+◌, ◌≤◌}
use native.Mathlib.Omega.{arith}
use mathlib.Core.List.{[], ◌++◌, append_assoc, append-nil}
use lib.ListN.{length, length-append}
use Rattle.names.specs.Bytes.{Bytes}
use Rattle.text.specs.Promises.{Adds}

-- one piece behind the other is both
infixl 40 ◌then◌
pub ◌then◌ : {n k m : ℕ} {a b c s t : Bytes} → Adds n k a s b → Adds n m b t c → Adds n (k + m) a (s ++ t) c
◌then◌ {n} {k} {m} {a} {b} {c} {s} {t} p q =
    record {
      text = λ h.
          let room : length a + (length s + length t) ≤ n = simp length-append at h in
          let first : b ≡ a ++ s = p.text (omega (arith, room)) in
          let so_far : length b ≡ length a + length s = ap length first ∙ length-append a s in
          q.text (omega (arith, room, so_far)) ∙ ap (λ (x : Bytes). x ++ t) first ∙ append_assoc a s t;
      short = simp length-append (omega (arith, p.short, q.short));
    }

pub wider : {n k m : ℕ} {a b s : Bytes} → Adds n k a s b → k ≤ m → Adds n m a s b
wider p h = record { text = p.text; short = omega (arith, p.short) }

pub nothing_put : (n k : ℕ) (a : Bytes) → Adds n k a [] a
nothing_put n k a = record { text = λ h. sym (append-nil a); short = omega arith }

-- a text that has room for all its pieces
pub whole : {n k : ℕ} {b s : Bytes} → Adds n k [] s b → k ≤ n → b ≡ s
whole p h = p.text (omega (arith, p.short))
