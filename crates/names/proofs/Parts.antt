-- Parts of byte strings, as the code has them.
use mathlib.Core.Path.{◌≡◌, refl}
use Prim.Native.Nat.{ℕ, ◌-◌, ◌≤◌}
use native.Mathlib.Omega.{arith}
use lib.ListN.{length, take, drop, length-take, length-drop}
use lib.Seq.{take_all}
use Rattle.names.specs.Bytes.{Bytes}
use Rattle.names.specs.Name.{longest}
use Rattle.names.specs.Means.{held}

-- `&s[i..]`
pub tail_part : (s : Bytes) (i : ℕ) → take (length s - i) (drop i s) ≡ drop i s
tail_part s i = take_all (length s - i) (drop i s) (simp length-drop (omega arith))

-- `&s[0..]`
pub whole_part : (s : Bytes) → take (length s - 0) s ≡ s
whole_part s = tail_part s 0

pub held_is : (b : Bytes) (l : ℕ) → held b l ≡ take l b
unfolding held
held_is b l = refl

-- what a name lends is no longer than a name
pub held_small : (s b : Bytes) (l : ℕ) → s ≡ held b l → length b ≡ longest → length s ≤ longest
unfolding held
held_small s b l e h = rw e (simp length-take (omega (arith, h)))
