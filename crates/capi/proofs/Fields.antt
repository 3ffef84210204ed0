-- Fields of a record, and writes of one field behind the other.
use mathlib.Core.Path.{◌≡◌, refl, ap, sym, ◌∙◌}
use Prim.Native.Nat.{ℕ, zero, suc, ◌+◌, ◌-◌, ◌≤◌, ◌/◌}
use native.Mathlib.Omega.{arith}
use mathlib.Core.List.{[], ◌∷◌, ◌++◌}
use lib.ListN.{length, take, drop, replicate, length-take, length-append, length-replicate}
use Rattle.std.proofs.lemmas.List.{take-replicate}
use Rattle.names.specs.Bytes.{Bytes}
use Rattle.names.specs.Means.{held}
use Rattle.names.proofs.Parts.{held_is}
use Rattle.output.specs.Pasted.{pasted}
use Rattle.output.proofs.Pastes.{pasted_both, pasted_over, pasted_front}
use Rattle.capi.specs.Layout.{low_first, padded}
use Rattle.capi.specs.Promises.{Wrote}

-- ---- their lengths

pub low_first_length : (k n : ℕ) → length (low_first k n) ≡ k
unfolding low_first
low_first_length zero n = refl
low_first_length (suc k) n = ap suc (low_first_length k (n / 256))

pub padded_length : (width : ℕ) (s : Bytes) → length (padded width s) ≡ width
unfolding padded
padded_length width s = simp (length-take, length-append, length-replicate) (omega arith)

-- ---- texts in fields

-- its first bytes, over zeros
over_zeros : (width m : ℕ) (s : Bytes) → width ≤ m + length s → take width s ++ drop (length (take width s)) (replicate width 0) ≡ take width (s ++ replicate m 0)
over_zeros zero m s h = refl
over_zeros (suc width) m [] h = sym (take-replicate (suc width) m 0 (omega (arith, h)))
over_zeros (suc width) m (x ∷ s) h = ap (λ (l : Bytes). x ∷ l) (over_zeros width m s (omega (arith, h)))

-- a text that fits, and zeros behind it
zeros_behind : (width m : ℕ) (s : Bytes) → length s ≤ width → width ≤ m + length s → s ++ replicate (width - length s) 0 ≡ take width (s ++ replicate m 0)
zeros_behind width m [] h k = let e : width - 0 ≡ width = omega arith in rw e (sym (take-replicate width m 0 (omega (arith, k))))
zeros_behind zero m (x ∷ s) h k = absurd (omega (arith, h))
zeros_behind (suc width) m (x ∷ s) h k =
    let e : suc width - suc (length s) ≡ width - length s = omega arith in
    rw e (ap (λ (l : Bytes). x ∷ l) (zeros_behind width m s (omega (arith, h)) (omega (arith, k))))

pub padded_whole : (width : ℕ) (s : Bytes) → length s ≤ width → s ++ replicate (width - length s) 0 ≡ padded width s
unfolding padded
padded_whole width s h = zeros_behind width width s h (omega arith)

-- ---- writes

-- one behind the other is both
pub wrote_both : {b m a s t : Bytes} {at k : ℕ} → Wrote b at s m → Wrote m k t a → k ≡ at + length s → Wrote b at (s ++ t) a
wrote_both {b} {m} {a} {s} {t} {at} {k} p q e = record { bytes = q.bytes ∙ rw (p.bytes, e) (pasted_both b at s t) }

-- the first bytes of a text over zeros
pub over : (b : Bytes) (at width : ℕ) (m s t a : Bytes) → m ≡ pasted b at (replicate width 0) → t ≡ held s width → a ≡ pasted m at t → Wrote b at (padded width s) a
unfolding padded
over b at width m s t a p h q =
    let front : t ≡ take width s = h ∙ held_is s width in
    let room : length t ≤ length (replicate {A = ℕ} width 0) = rw front (simp (length-replicate, length-take) (omega arith)) in
    let text : t ++ drop (length t) (replicate width 0) ≡ take width (s ++ replicate width 0) = rw front (over_zeros width width s (omega arith)) in
    record { bytes = q ∙ rw p (pasted_over b at (replicate width 0) t room) ∙ ap (pasted b at) text }

-- at the front, where there is room
pub in_front : (s : Bytes) {b a : Bytes} {size : ℕ} → length s ≡ size → size ≤ length b → Wrote b 0 s a → a ≡ s ++ drop size b
in_front s {b} e h p = p.bytes ∙ pasted_front b s (rw e h) ∙ ap (λ (k : ℕ). s ++ drop k b) e
