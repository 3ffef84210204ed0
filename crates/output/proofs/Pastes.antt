-- Writes one behind the other, over each other, and to the front.
use mathlib.Core.Path.{◌≡◌, refl, ap, sym, ◌∙◌}
use mathlib.Core.Bool.{Bool, true, false}
use Prim.Native.Nat.{ℕ, zero, suc, ◌+◌, ◌-◌, ◌≤◌, ◌<◌}
use mathlib.Core.List.{List, [], ◌∷◌, ◌++◌}
use native.Mathlib.Omega.{arith}
use lib.ListN.{length, take, drop, replicate, length-take, length-drop, length-replicate}
use lib.Seq.{paste, paste-zero, take-length, take-paste, take-take}
use lib.Dec.{leb}
use borrow.Author.Tests.{leb-true, leb-false}
use borrow.Rule.Slice.PartMut.{put_mid}
use Rattle.std.specs.Prelude.{min}
use Rattle.std.proofs.lemmas.List.{take-replicate}
use Rattle.std.proofs.lemmas.Slice.{put_mid-paste}
use Rattle.output.specs.Pasted.{pasted, Put}

pub pasted_length : (b : List ℕ) (at : ℕ) (s : List ℕ) → length (pasted b at s) ≡ length b
unfolding pasted
pasted_length [] at s = refl
pasted_length (x ∷ b) zero [] = refl
pasted_length (x ∷ b) zero (y ∷ s) = ap suc (pasted_length b zero s)
pasted_length (x ∷ b) (suc at) s = ap suc (pasted_length b at s)

-- one behind the other is both
pub pasted_both : (b : List ℕ) (at : ℕ) (s t : List ℕ) → pasted (pasted b at s) (at + length s) t ≡ pasted b at (s ++ t)
unfolding pasted
pasted_both [] at s t = refl
pasted_both (x ∷ b) zero [] t = refl
pasted_both (x ∷ b) zero (y ∷ s) t = let k : 0 + suc (length s) ≡ suc (0 + length s) = omega arith in rw k (ap (λ (l : List ℕ). y ∷ l) (pasted_both b zero s t))
pasted_both (x ∷ b) (suc at) s t = let k : suc at + length s ≡ suc (at + length s) = omega arith in rw k (ap (λ (l : List ℕ). x ∷ l) (pasted_both b at s t))

-- what lay behind the first n bytes is written over, and these stay
pasted_kept : (b : List ℕ) (n : ℕ) (t : List ℕ) → n ≤ length b → pasted b n t ≡ pasted b 0 (take n b ++ t)
unfolding pasted
pasted_kept b zero t h = refl
pasted_kept [] (suc n) t h = absurd (omega (arith, h))
pasted_kept (x ∷ b) (suc n) t h = ap (λ (l : List ℕ). x ∷ l) (pasted_kept b n t (omega (arith, h)))

-- two with a gap of n bytes between them, which stay
pub pasted_apart : (b s : List ℕ) (n : ℕ) (t : List ℕ) → length s + n ≤ length b → pasted (pasted b 0 s) (length s + n) t ≡ pasted b 0 (s ++ (take n (drop (length s) b) ++ t))
unfolding pasted
pasted_apart [] s n t h = refl
pasted_apart (x ∷ b) [] n t h = let k : 0 + n ≡ n = omega arith in rw k (pasted_kept (x ∷ b) n t (omega (arith, h)))
pasted_apart (x ∷ b) (y ∷ s) n t h = let k : suc (length s) + n ≡ suc (length s + n) = omega arith in rw k (ap (λ (l : List ℕ). y ∷ l) (pasted_apart b s n t (omega (arith, h))))

-- a piece over a longer one
pub pasted_over : (b : List ℕ) (at : ℕ) (z s : List ℕ) → length s ≤ length z → pasted (pasted b at z) at s ≡ pasted b at (s ++ drop (length s) z)
unfolding pasted
pasted_over [] at z s h = refl
pasted_over (x ∷ b) zero [] [] h = refl
pasted_over (x ∷ b) zero (w ∷ z) [] h = refl
pasted_over (x ∷ b) zero (w ∷ z) (y ∷ s) h = ap (λ (l : List ℕ). y ∷ l) (pasted_over b zero z s (omega (arith, h)))
pasted_over (x ∷ b) (suc at) z s h = ap (λ (l : List ℕ). x ∷ l) (pasted_over b at z s h)
pasted_over (x ∷ b) zero [] (y ∷ s) h = elim h [ ]

-- what has room at the front stands there
pub pasted_front : (b s : List ℕ) → length s ≤ length b → pasted b 0 s ≡ s ++ drop (length s) b
unfolding pasted
pasted_front [] [] h = refl
pasted_front (x ∷ b) [] h = refl
pasted_front (x ∷ b) (y ∷ s) h = ap (λ (l : List ℕ). y ∷ l) (pasted_front b s (omega (arith, h)))
pasted_front [] (y ∷ s) h = elim h [ ]

-- of a piece at the front as many bytes stand there as have room
pub pasted_taken : (b s : List ℕ) (k : ℕ) → k ≤ length b → k ≤ length s → take k (pasted b 0 s) ≡ take k s
unfolding pasted
pasted_taken b s zero h l = refl
pasted_taken [] s (suc k) h l = absurd (omega (arith, h))
pasted_taken (x ∷ b) [] (suc k) h l = absurd (omega (arith, l))
pasted_taken (x ∷ b) (y ∷ s) (suc k) h l = ap (λ (t : List ℕ). y ∷ t) (pasted_taken b s k (omega (arith, h)) (omega (arith, l)))

-- the first n bytes, copied, where those behind them find no room
pub copied : (b : List ℕ) (at : ℕ) (s : List ℕ) (n : ℕ) → n ≤ length b - at → n ≤ length s → (n < length s → length b ≤ at + n)
    → paste b at s n ≡ pasted b at s
unfolding pasted
copied [] at s zero h k e = sym (paste-zero [] at s)
copied [] at s (suc n) h k e = absurd (omega (arith, h))
copied (x ∷ b) zero [] zero h k e = refl
copied (x ∷ b) zero [] (suc n) h k e = absurd (omega (arith, k))
copied (x ∷ b) zero (y ∷ s) zero h k e = absurd (omega (arith, e (omega arith)))
copied (x ∷ b) zero (y ∷ s) (suc n) h k e =
    let m : 0 + suc n ≡ suc (0 + n) = omega arith in
    rw m (ap (λ (l : List ℕ). y ∷ l) (copied b zero s n (omega (arith, h)) (omega (arith, k)) (λ (l : n < length s). omega (arith, e (omega (arith, l))))))
copied (x ∷ b) (suc at) s n h k e =
    let m : suc at + n ≡ suc (at + n) = omega arith in
    rw m (ap (λ (l : List ℕ). x ∷ l) (copied b at s n (omega (arith, h)) k (λ (l : n < length s). omega (arith, e l))))

-- nothing is written at or behind the end
pasted_past : (b : List ℕ) (at : ℕ) (s : List ℕ) → length b ≤ at → pasted b at s ≡ b
unfolding pasted
pasted_past [] at s h = refl
pasted_past (x ∷ b) zero s h = absurd (omega (arith, h))
pasted_past (x ∷ b) (suc at) s h = ap (λ (l : List ℕ). x ∷ l) (pasted_past b at s (omega (arith, h)))

-- as many bytes as find room, from a place on that is no further than the end: a loan of this part that holds them then
module _ (b : List ℕ) (at : ℕ) (s : List ℕ) (start n : ℕ) (e : start ≡ min at (length b)) (f : n ≡ min (length s) (length b - start)) where
  pub roomy : paste b start s n ≡ pasted b at s
  roomy = go (leb at (length b)) refl
    where
      go : (t : Bool) → leb at (length b) ≡ t → paste b start s n ≡ pasted b at s
      go true t =
          let h : at ≤ length b = leb-true at (length b) t in
          let k : start ≡ at = omega arith in
          rw k (copied b at s n (omega arith) (omega arith) (λ (l : n < length s). omega arith))
      go false t =
          let h : length b < at = leb-false at (length b) t in
          let k : n ≡ 0 = omega arith in
          rw k (sym (paste-zero b start s) ∙ sym (pasted_past b at s (omega arith)))

  pub lent_part : (k : ℕ) (part : List ℕ) → k ≡ n → part ≡ take n s → put_mid start k b part ≡ pasted b at s
  lent_part k part l p =
      put_mid-paste start k b part (take n s) n p (sym l) (simp length-take (omega arith))
      ∙ rw (take-take n n s (omega arith)) roomy

-- the same where the part was filled with zeros
pub lent_zeros : (b : List ℕ) (at l start n : ℕ) → start ≡ min at (length b) → n ≡ min l (length b - start)
    → (k : ℕ) (part : List ℕ) → k ≡ n → part ≡ replicate (length (take k (drop start b))) 0 → put_mid start k b part ≡ pasted b at (replicate l 0)
lent_zeros b at l start n e f k part h p =
    let whole : length (take k (drop start b)) ≡ n = simp (length-take, length-drop) (omega arith) in
    lent_part b at (replicate l 0) start n e (rw length-replicate f) k part h (p ∙ rw (whole, take-replicate {X = ℕ} n l 0 (omega arith)))

-- what has room stands behind what lay before it
pub pasted_behind : (b : List ℕ) (at : ℕ) (s : List ℕ) → at + length s ≤ length b → take (at + length s) (pasted b at s) ≡ take at b ++ s
pasted_behind b at s h =
    let whole : paste b at s (length s) ≡ pasted b at s = copied b at s (length s) (omega (arith, h)) (omega arith) (λ (l : length s < length s). absurd (omega (arith, l))) in
    rw (← whole, take-paste b at s (length s) (omega (arith, h)) (omega arith), take-length)

-- a piece that has room
pub put_pasted : (b : List ℕ) (at : ℕ) (s a : List ℕ) → at + length s ≤ length b → a ≡ pasted b at s → Put b at s a (at + length s)
put_pasted b at s a h e = record { text = rw e (pasted_behind b at s h); ends = refl; size = rw e (pasted_length b at s) }
