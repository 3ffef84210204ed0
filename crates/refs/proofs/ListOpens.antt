-- The opening: the regions' sizes, then the namespace.
use mathlib.Core.Path.{◌≡◌, refl}
use mathlib.Core.List.{[]}
use Rattle.std.specs.Prelude.{Option, None, Some}
use Prim.Native.Nat.{ℕ, ◌≤◌}
use lib.ListN.{length}
use native.Mathlib.Omega.{arith}
use Rattle.names.specs.Bytes.{Bytes}
use Rattle.names.specs.Name.{longest}
use Rattle.names.specs.Check.{Check, gives, refuses, checked, ◌or_else◌}
use Rattle.names.specs.Namespace.{expansion, names_check}
use Rattle.names.proofs.Rows.{expansion_fits}
use Rattle.blocks.specs.Snapshot.{Snapshot, size_check}
use Rattle.refs.specs.Run.{State, start, run, open_listing, listing, answers_of}

module _ (s : Snapshot) where
  pub sizes_refused : (namespace : Option Bytes) (k : ℕ) → Some k ≡ size_check s → refuses k ≡ open_listing s namespace
  unfolding open_listing
  sizes_refused namespace k h = rw (← h)

  module _ (right : None ≡ size_check s) (namespace : Option Bytes) where
    pub namespace_right : (e : Bytes) → gives e ≡ checked (names_check None namespace) (expansion namespace) → gives (start e) ≡ open_listing s namespace
    unfolding open_listing
    namespace_right e h = rw (← right) (go (names_check None namespace) h)
      where
        go : (k : Check) → gives e ≡ checked k (expansion namespace) → gives (start e) ≡ checked k (start (expansion namespace))
        go None h = let q : e ≡ expansion namespace = cc in rw q
        go (Some k) h = let z : ◌≡◌ {A = ℕ} 0 1 = cc in absurd (omega arith)

    pub namespace_refused : (j : ℕ) → refuses j ≡ checked (names_check None namespace) (expansion namespace) → refuses j ≡ open_listing s namespace
    unfolding open_listing
    namespace_refused j h = rw (← right) (go (names_check None namespace) h)
      where
        go : (k : Check) → refuses j ≡ checked k (expansion namespace) → refuses j ≡ checked k (start (expansion namespace))
        go None h = let z : ◌≡◌ {A = ℕ} 0 1 = cc in absurd (omega arith)
        go (Some k) h = let q : j ≡ k = cc in rw q

-- ---- the answers of a listing

module _ (width : ℕ) (s : Snapshot) (namespace : Option Bytes) (n : ℕ) where
  -- none, where the opening is refused
  pub not_opened_answers : (k : ℕ) → refuses k ≡ open_listing s namespace → answers_of (listing width s namespace n) ≡ []
  unfolding listing
  not_opened_answers k h = rw (← h)

  -- else those of the steps from the state that it gives
  pub opened_answers : (st : State) → gives st ≡ open_listing s namespace → answers_of (listing width s namespace n) ≡ (run width s n st).answers
  unfolding listing
  opened_answers st h = rw (← h)

-- ---- the state of an opening

-- a fresh one, whose expansion is no longer than a name
pub opened_start : (s : Snapshot) (namespace : Option Bytes) (st : State) → open_listing s namespace ≡ gives st → (st ≡ start (expansion namespace)) × (length (expansion namespace) ≤ longest)
unfolding open_listing
opened_start s namespace st e = sized (size_check s) e
  where
    named : (k : Check) → names_check None namespace ≡ k → checked k (start (expansion namespace)) ≡ gives st → (st ≡ start (expansion namespace)) × (length (expansion namespace) ≤ longest)
    named None n h = (cc, expansion_fits namespace n)
    named (Some k) n h = let z : ◌≡◌ {A = ℕ} 0 1 = cc in absurd (omega arith)

    sized : (c : Check) → checked (c or_else names_check None namespace) (start (expansion namespace)) ≡ gives st → (st ≡ start (expansion namespace)) × (length (expansion namespace) ≤ longest)
    sized None h = named (names_check None namespace) refl h
    sized (Some k) h = let z : ◌≡◌ {A = ℕ} 0 1 = cc in absurd (omega arith)
