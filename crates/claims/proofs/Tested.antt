-- Tests that compute, and what a passed one tells.
use Rattle.std.specs.Prelude.{if◌then◌else◌}
use mathlib.Core.Path.{◌≡◌, refl}
use Prim.Native.Nat.{ℕ}
use mathlib.Core.List.{List, [], ◌∷◌}
use mathlib.Core.Bool.{Bool, true, false, ◌&&◌, not, false≢true}
use Rattle.std.specs.Prelude.{Option, None, Some}
use lib.Dec.{eqb}
use Rattle.names.proofs.Tests.{and_left, and_right}
use Rattle.blocks.specs.Snapshot.{Snapshot, is_there, size_check, store, store_flaw, Fit}

-- every test of a list is passed
abbrev pub all_true : List Bool → Bool
all_true [] = true
all_true (b ∷ l) = b && all_true l

abbrev pub Passed : List Bool → Type 0
Passed [] = Unit {0}
Passed (b ∷ l) = (b ≡ true) × Passed l

pub passed : (l : List Bool) → all_true l ≡ true → Passed l
passed [] h = tt
passed (b ∷ l) h = (and_left b _ h, passed l (and_right b _ h))

-- ---- what counts only where a premise is kept

-- the premise p, unless it is the one left out; premises are told apart by an index
abbrev pub kept_by : {P : Type 0} → (P → ℕ) → Option P → P → Bool
kept_by index None p = true
kept_by index (Some q) p = not (eqb (index q) (index p))

-- what has to hold where a test does
abbrev pub Where : Bool → Type 0 → Type 0
Where true A = A
Where false A = Unit {0}

-- a test that counts only where another one is passed
abbrev pub if_where : Bool → Bool → Bool
if_where kept t = if kept then t else true

pub keeps_where : (kept : Bool) {A : Type 0} (t : Bool) → (t ≡ true → A) → if_where kept t ≡ true → Where kept A
keeps_where true t f h = f h
keeps_where false t f h = tt

-- ---- fitness

none_by : {A : Type 0} (o : Option A) → not (is_there o) ≡ true → o ≡ None
none_by None h = refl
none_by (Some a) h = absurd (false≢true h)

module _ (width : ℕ) where
  unfoldable pub fit_test : Snapshot → Bool
  fit_test u = not (is_there (size_check u)) && not (is_there (store_flaw (store width u)))

  pub fit_by : (u : Snapshot) → fit_test u ≡ true → Fit width u
  unfolding fit_test
  fit_by u h =
      record {
        sizes = none_by (size_check u) (and_left (not (is_there (size_check u))) _ h);
        flawless = none_by (store_flaw (store width u)) (and_right (not (is_there (size_check u))) _ h);
      }
