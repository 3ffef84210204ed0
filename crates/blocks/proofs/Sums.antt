-- The weighted sum by parts, and sums that are 0.
use mathlib.Core.Path.{◌≡◌, refl, ap}
use mathlib.Core.List.{[], ◌∷◌}
use mathlib.Core.Bool.{Bool, true, false, ◌&&◌}
use Prim.Native.Nat.{ℕ, suc, ◌+◌, ◌*◌, ◌-◌, ◌≤◌, ◌<◌}
use native.Mathlib.Nat.{mul-le-mul_left}
use native.Mathlib.Numerals.{add-one}
use native.Mathlib.Omega.{arith}
use borrow.Author.Tests.{eqb-true, leb-true, leb-false}
use lib.Dec.{eqb, leb}
use lib.ListN.{length, take, drop, get_or, length-take, length-drop, drop_of_length-le}
use lib.Seq.{take-nil, take-suc, take-add, drop-drop}
use Rattle.names.specs.Bytes.{Bytes, every}
use Rattle.names.proofs.Tests.{and_left, and_right}
use Rattle.names.proofs.Walks.{every_more}
use Rattle.blocks.specs.Layout.{zero_at, name_at, content_at, sum_at}
use Rattle.blocks.specs.Block.{between, name_length, content_length, block_name, block_content, is_zero, unused_zero, weighted}
use Rattle.blocks.specs.Means.{Within}
use Rattle.blocks.proofs.Walks.{weighted_append}
use Rattle.blocks.proofs.Parts.{part_is}

-- one byte more of a part
pub weighted_more : (k : ℕ) (s : Bytes) (i : ℕ) → i < length s → weighted k (take (i + 1) s) ≡ weighted k (take i s) + (k + i + 1) * get_or s i 0
unfolding weighted
weighted_more k s i h =
    let l : k + length (take i s) ≡ k + i = omega (arith, length-take i s) in
    rw (add-one, take-suc s i 0 h, weighted_append k (take i s) (get_or s i 0 ∷ []), l) (omega arith)

pub weighted_none : (k : ℕ) (s : Bytes) → weighted k (take 0 s) ≡ 0
unfolding weighted
weighted_none k s = refl

-- a product: weight and byte
pub product_le : (w x : ℕ) → w ≤ 509 → x ≤ 255 → w * x ≤ 509 * 255
product_le w x hw hx =
    let a : w * x ≤ w * 255 = mul-le-mul_left w hx in
    omega arith

-- bytes that are 0 add nothing
zeros_sum : (k : ℕ) (s : Bytes) → every is_zero s ≡ true → weighted k s ≡ 0
unfolding weighted
zeros_sum k [] h = refl
zeros_sum k (x ∷ s) h =
    let both = rw (every_more is_zero x s) at h in
    let e = eqb-true x 0 (and_left (eqb x 0) _ both) in
    rw (e, zeros_sum (suc k) s (and_right (eqb x 0) _ both)) (omega arith)

-- from i to j, and from there to k
sum_split : (b : Bytes) (i j k : ℕ) → i ≤ j → j ≤ k → weighted i (between b i k) ≡ weighted i (between b i j) + weighted j (between b j k)
unfolding weighted
sum_split b i j k p q =
    let m : k - i ≡ (j - i) + (k - j) = omega arith in
    let o : i + (j - i) ≡ j = omega arith in
    rw (m, take-add (j - i) (k - j) (drop i b), drop-drop (j - i) i b, o, weighted_append i (take (j - i) (drop i b)) (take (k - j) (drop j b)), behind (leb j (length b)) refl)
  where
    -- past the end there is nothing, so that its position does not count
    behind : (t : Bool) → leb j (length b) ≡ t → weighted (i + length (take (j - i) (drop i b))) (take (k - j) (drop j b)) ≡ weighted j (take (k - j) (drop j b))
    behind true e =
        let l = leb-true j (length b) e in
        let n : i + length (take (j - i) (drop i b)) ≡ j = simp (length-take, length-drop) (omega arith) in
        rw n
    behind false e =
        let f = leb-false j (length b) e in
        let l : length b ≤ j = omega arith in
        rw (drop_of_length-le b l, take-nil {A = ℕ} (k - j))

-- only what the header, the name and the content hold counts, where the rest is 0
module _ (b : Bytes) (w : Within b) (z : unused_zero b ≡ true) where
  zeros : every is_zero (between b zero_at name_at) ≡ true × every is_zero (between b (name_at + name_length b) content_at) ≡ true × every is_zero (between b (content_at + content_length b) sum_at) ≡ true
  unfolding unused_zero
  zeros =
      let first = every is_zero (between b zero_at name_at) in
      let second = every is_zero (between b (name_at + name_length b) content_at) in
      let third = every is_zero (between b (content_at + content_length b) sum_at) in
      let both = and_left (first && second) third z in
      (and_left first second both, and_right first second both, and_right (first && second) third z)

  pub used_sum : weighted 0 (take sum_at b) ≡ weighted 0 (take zero_at b) + weighted name_at (block_name b) + weighted content_at (block_content b)
  unfolding block_name block_content
  used_sum =
      let n = name_at + name_length b in
      let c = content_at + content_length b in
      let header = sum_split b 0 zero_at sum_at (omega arith) (omega arith) in
      let unused = sum_split b zero_at name_at sum_at (omega arith) (omega arith) in
      let name = sum_split b name_at n sum_at (omega arith) (omega (arith, w.name)) in
      let behind = sum_split b n content_at sum_at (omega (arith, w.name)) (omega arith) in
      let content = sum_split b content_at c sum_at (omega arith) (omega (arith, w.content)) in
      let None = zeros_sum zero_at _ zeros.0 in
      let none2 = zeros_sum n _ zeros.1 in
      let none3 = zeros_sum c _ zeros.2 in
      let name_is = ap (weighted name_at) (part_is b name_at (name_length b)) in
      let content_is = ap (weighted content_at) (part_is b content_at (content_length b)) in
      omega arith
