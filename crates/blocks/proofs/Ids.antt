-- Ids: zeros behind a text that is too short, and lower case.
use mathlib.Core.Path.{◌≡◌, refl, ap₂, ◌∙◌}
use mathlib.Core.Bool.{Bool, true, false}
use Prim.Native.Nat.{ℕ, ◌+◌, ◌-◌, ◌≤◌}
use mathlib.Core.List.{[], ◌∷◌, ◌++◌, map}
use native.Mathlib.Omega.{arith}
use borrow.Author.Tests.{leb-true, leb-false}
use lib.Dec.{leb}
use lib.ListN.{length, take, drop, replicate}
use lib.Seq.{take-append-le, take-append-add, take_all}
use Rattle.std.specs.Prelude.{min}
use Rattle.std.specs.Char.{to_ascii_lowercase}
use Rattle.std.proofs.Common.{append-nil}
use Rattle.std.proofs.Math.Nat.{min-eq_left, min-eq_right}
use Rattle.std.proofs.lemmas.List.{drop-replicate, take-replicate}
use Rattle.names.specs.Bytes.{Bytes}
use Rattle.blocks.specs.Content.{lower, lower_case}
use Rattle.blocks.specs.Means.{padded, id_in}

-- zeros, of which the first n are copied over
pub padded_is : (width n : ℕ) (s c z : Bytes) → n ≡ min (length s) width → c ≡ take n s → z ≡ replicate width 0 → c ++ drop n z ≡ padded width s
unfolding padded
padded_is width n s c z m e r = rw (r, e, drop-replicate {X = ℕ} n width 0) (go (leb (length s) width) refl)
  where
    short : length s ≤ width → take n s ++ replicate (width - n) 0 ≡ padded width s
    short h =
        let k : n ≡ length s = m ∙ min-eq_left h in
        let l : length s + (width - length s) ≡ width = omega arith in
        rw (k, take_all (length s) s (omega arith), ← take-replicate {X = ℕ} (width - length s) width 0 (omega arith), ← take-append-add s (replicate width 0) (width - length s), l)

    long : width ≤ length s → take n s ++ replicate (width - n) 0 ≡ padded width s
    long h =
        let k : n ≡ width = m ∙ min-eq_right h in
        let z : width - width ≡ 0 = omega arith in
        rw (k, z, append-nil, take-append-le width s (replicate width 0) h)

    go : (t : Bool) → leb (length s) width ≡ t → take n s ++ replicate (width - n) 0 ≡ padded width s
    go true t = short (leb-true _ _ t)
    go false t = let h = leb-false _ _ t in long (omega arith)

lower_is : (b : ℕ) → to_ascii_lowercase b ≡ lower b
lower_is b = grind arith

-- the library's lower case is that of the definitions
pub lowered : (s : Bytes) → map to_ascii_lowercase s ≡ lower_case s
lowered [] = refl
lowered (b ∷ s) = ap₂ ◌∷◌ (lower_is b) (lowered s)

-- an id that is all there
pub id_whole : (width : ℕ) (s : Bytes) → width ≤ length s → id_in width s ≡ lower_case (take width s)
unfolding padded
id_whole width s h = rw (take-append-le width s (replicate width 0) h)
