-- What a listing has left after some steps: each name's answer as at the opening, or nothing; nothing, once it has ended.
use mathlib.Core.Path.{◌≡◌, refl, ◌∙◌}
use mathlib.Core.Logic.{◌⊎◌, inl, inr}
use Prim.Native.Nat.{ℕ, zero, suc, Ordering}
use mathlib.Core.Bool.{Bool, true, false, false≢true}
use Rattle.std.specs.Prelude.{Option, None}
use Rattle.names.specs.Bytes.{Bytes, order}
use Rattle.blocks.specs.Snapshot.{Snapshot, store, Fit}
use Rattle.refs.specs.Answer.{Answer, nothing, found, refused}
use Rattle.refs.specs.View.{scope, view}
use Rattle.refs.specs.Listing.{move}
use Rattle.refs.specs.Run.{State, is_nothing, moved, unless_ended, step, run}
use Rattle.refs.proofs.Clauses.{step_is}
use Rattle.refs.proofs.Moves.{run_none, run_more}
use Rattle.refs.proofs.Positions.{step_expansion}
use Rattle.claims.proofs.Tables.{Table, beyond, Does, ends, hands}
use Rattle.claims.proofs.Least.{table}
use Rattle.claims.proofs.Runs.{ordered, Honest, move_does, state_table, step_does}

-- ---- tables

-- u has of each name what t has, or nothing
abbrev pub Left : Table → Table → Type 0
Left t u = (y : Bytes) → (u y ≡ None) ⊎ (u y ≡ t y)

beyond_left : (o : Ordering) (a : Option Answer) → (beyond o a ≡ None) ⊎ (beyond o a ≡ a)
beyond_left Ordering.lt a = inr refl
beyond_left Ordering.eq a = inl refl
beyond_left Ordering.gt a = inl refl

left_trans : (t u v : Table) → Left t u → Left u v → Left t v
left_trans t u v f g y = go (g y) (f y)
  where
    go : (v y ≡ None) ⊎ (v y ≡ u y) → (u y ≡ None) ⊎ (u y ≡ t y) → (v y ≡ None) ⊎ (v y ≡ t y)
    go (inl i) h = inl i
    go (inr i) (inl j) = inl (i ∙ j)
    go (inr i) (inr j) = inr (i ∙ j)

module _ (Shown : Bytes → Bytes → Type 0) where
  does_left : {t u : Table} {a : Answer} → Does Shown t a u → Left t u
  does_left (ends p q r) y = inl (r y)
  does_left {t} {u} (hands x h k) y = go (beyond_left (order x y) (t y))
    where
      go : (beyond (order x y) (t y) ≡ None) ⊎ (beyond (order x y) (t y) ≡ t y) → (u y ≡ None) ⊎ (u y ≡ t y)
      go (inl i) = inl (k y ∙ i)
      go (inr i) = inr (k y ∙ i)

  -- "ended" leaves nothing
  nothing_left : {t u : Table} (a : Answer) → Does Shown t a u → is_nothing a ≡ true → (y : Bytes) → u y ≡ None
  nothing_left nothing (ends p q r) i y = r y
  nothing_left nothing (hands x h k) i y = absurd h.named
  nothing_left (found r) d i y = absurd (false≢true i)
  nothing_left (refused k) d i y = absurd (false≢true i)

-- ---- runs

module _ (width : ℕ) (e : Bytes) (Shown : Bytes → Bytes → Type 0) (honest : Honest Shown (view width (scope e))) (s : Snapshot) (fit : Fit width s) where
  pub run_left : (n : ℕ) (st : State) → st.expansion ≡ e → Left (state_table width e s st) (state_table width e s (run width s n st).last)
  run_left zero st q = rw (run_none width s st) (λ y. inr refl)
  run_left (suc n) st q =
      rw (run_more width s n st)
      (left_trans _ _ _ (does_left Shown (step_does width e Shown honest s fit st q)) (run_left n (step width s st).next (step_expansion width s st ∙ q)))

  -- an ended listing has nothing left at its positions
  abbrev pub Over : State → Type 0
  Over st = st.ended ≡ true → (y : Bytes) → table (view width (scope e)) (store width s) st.at y ≡ None

  step_over : (st : State) → st.expansion ≡ e → Over st → Over (step width s st).next
  step_over st q h = rw (step_is width s st, fit.sizes) (go st.ended)
    where
      left : (x : Bytes) → x ≡ e → is_nothing (move (view width (scope x)) (store width s) st.at).answer ≡ true
          → (y : Bytes) → table (view width (scope e)) (store width s) (move (view width (scope x)) (store width s) st.at).next y ≡ None
      left x r = rw r (nothing_left Shown _ (move_does Shown (view width (scope e)) honest (store width s) (ordered width s fit) st.at))

      go : (b : Bool) → Over (unless_ended b st (moved st (move (view width (scope st.expansion)) (store width s) st.at))).next
      go true = h
      go false = left st.expansion q

  pub run_over : (n : ℕ) (st : State) → st.expansion ≡ e → Over st → Over (run width s n st).last
  run_over zero st q h = rw (run_none width s st) h
  run_over (suc n) st q h = rw (run_more width s n st) (run_over n (step width s st).next (step_expansion width s st ∙ q) (step_over st q h))

  pub run_expansion : (n : ℕ) (st : State) → st.expansion ≡ e → (run width s n st).last.expansion ≡ e
  run_expansion zero st q = rw (run_none width s st) q
  run_expansion (suc n) st q = rw (run_more width s n st) (run_expansion n (step width s st).next (step_expansion width s st ∙ q))
