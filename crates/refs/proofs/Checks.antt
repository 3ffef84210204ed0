-- What a check leaves of its answer.
use mathlib.Core.Path.{◌≡◌, refl}
use Prim.Native.Nat.{ℕ}
use native.Mathlib.Omega.{arith}
use Rattle.std.specs.Prelude.{Option, None, Some}
use Rattle.names.specs.Check.{Check, gives, refuses, checked}

-- what a check that passed leaves
pub checked_gives : {A : Type 0} (c : Check) (a b : A) → gives b ≡ checked c a → c ≡ None
checked_gives None a b h = refl
checked_gives (Some k) a b h = absurd (let z : ◌≡◌ {A = ℕ} 0 1 = cc in omega arith)

pub checked_is : {A : Type 0} (c : Check) (a b : A) → gives b ≡ checked c a → b ≡ a
checked_is None a b h = cc
checked_is (Some k) a b h = absurd (let z : ◌≡◌ {A = ℕ} 0 1 = cc in omega arith)

pub checked_refuses : {A : Type 0} (c : Check) (a : A) (k : ℕ) → refuses k ≡ checked c a → c ≡ Some k
checked_refuses None a k h = absurd (let z : ◌≡◌ {A = ℕ} 0 1 = cc in omega arith)
checked_refuses (Some j) a k h = cc
