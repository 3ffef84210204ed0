-- A step: turned away, ended, or moved.
use mathlib.Core.Path.{◌≡◌, ◌∙◌}
use mathlib.Core.Bool.{Bool, true, false}
use Prim.Native.Nat.{ℕ}
use Rattle.std.specs.Prelude.{None, Some}
use Rattle.names.specs.Bytes.{Bytes}
use Rattle.blocks.specs.Means.{id_width}
use Rattle.blocks.specs.Snapshot.{Snapshot, store, size_check}
use Rattle.refs.specs.Answer.{nothing, refused}
use Rattle.refs.specs.View.{scope, view}
use Rattle.refs.specs.Listing.{Positions, move}
use Rattle.refs.specs.Run.{State, Step, moved, step}

-- the step of a state with these positions, ended or not
module _ (s : Snapshot) (e : Bytes) (at : Positions) (b : Bool) where
  abbrev state : State
  state = record { at = at; ended = b; expansion = e }

  pub turned_away : (k : ℕ) → Some k ≡ size_check s → record { answer = refused k; next = state } ≡ step id_width s state
  unfolding step
  turned_away k h = rw (← h)

  pub ended_before : None ≡ size_check s → b ≡ true → record { answer = nothing; next = state } ≡ step id_width s state
  unfolding step
  ended_before right h = rw (← right, h)

  pub goes_on : (d : Step) → None ≡ size_check s → b ≡ false → d ≡ moved state (move (view id_width (scope e)) (store id_width s) at) → d ≡ step id_width s state
  unfolding step
  goes_on d right on h = h ∙ rw (← right, on)
