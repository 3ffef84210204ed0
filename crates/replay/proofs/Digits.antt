-- Pairs of hexadecimal digits, pair by pair.
use mathlib.Core.Path.{◌≡◌, refl, ap}
use mathlib.Core.Bool.{true, ◌&&◌, not}
use mathlib.Core.List.{List, [], ◌∷◌, ◌++◌, append_assoc, append-nil}
use Prim.Native.Nat.{ℕ, zero, suc, ◌+◌, ◌*◌, ◌/◌, ◌%◌, ◌≤◌, ◌<◌}
use native.Mathlib.Numerals.{add-one}
use native.Mathlib.Omega.{arith}
use borrow.Author.Tests.{leb-true}
use lib.Dec.{leb, eqb}
use lib.ListN.{length, drop, get_or, drop_of_length-le}
use lib.Seq.{drop-cons}
use Rattle.std.specs.Simd.{first_chunks}
use Rattle.names.specs.Bytes.{Bytes, every}
use Rattle.names.proofs.Tests.{and_left, and_right}
use Rattle.replay.specs.Input.{most, is_digit, digit_value, pairs, is_pairs}

-- ---- pairs

short : (s : Bytes) → length s < 2 → pairs s ≡ []
unfolding pairs
short [] h = refl
short (a ∷ []) h = refl
short (a ∷ b ∷ s) h = absurd (omega arith)

-- what the pairs of a list stand for
pub decoded : List Bytes → Bytes
decoded [] = []
decoded (p ∷ ps) = (digit_value (get_or p 0 0) * 16 + digit_value (get_or p 1 0)) ∷ decoded ps

-- `s.as_chunks::<2>()`
pub in_chunks : (k : ℕ) (s : Bytes) → k ≡ length s / 2 → pairs s ≡ decoded (first_chunks 2 k s)
unfolding pairs decoded
in_chunks zero s h = short s (omega arith)
in_chunks (suc k) [] h = absurd (omega arith)
in_chunks (suc k) (a ∷ []) h = absurd (omega arith)
in_chunks (suc k) (a ∷ b ∷ s) h = ap (λ (r : Bytes). (digit_value a * 16 + digit_value b) ∷ r) (in_chunks k s (omega arith))

-- pair i behind those before it
pub pair_more : (ps : List Bytes) (t u : Bytes) (i v : ℕ) → i < length ps
    → v ≡ digit_value (get_or (get_or ps i []) 0 0) * 16 + digit_value (get_or (get_or ps i []) 1 0)
    → u ≡ t ++ decoded (drop i ps) → u ≡ (t ++ v ∷ []) ++ decoded (drop (i + 1) ps)
unfolding decoded
pair_more ps t u i v h e before = rw (before, add-one i, drop-cons ps i [] h, append_assoc, e)

-- all pairs are there
pub pairs_end : (ps : List Bytes) (t u : Bytes) (i : ℕ) → length ps ≤ i → u ≡ t ++ decoded (drop i ps) → t ≡ u
unfolding decoded
pairs_end ps t u i h before = rw (before, drop_of_length-le ps h, append-nil)

-- ---- a field

pub not_too_long : (s : Bytes) → is_pairs s ≡ true → length s ≤ most * 2
unfolding is_pairs
not_too_long s h =
    let a = not (eqb (length s) 0) in
    let b = leb (length s) (most * 2) in
    let d = eqb (length s % 2) 0 in
    leb-true (length s) (most * 2) (and_right a b (and_left (a && b) d (and_left (a && b && d) (every is_digit s) h)))
