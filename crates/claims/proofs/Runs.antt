-- Runs of the listing: equal tables give equal runs, and listed names rise.
use mathlib.Core.Path.{◌≡◌, refl, sym, ap, ap₂, ◌∙◌, subst}
use mathlib.Core.Bool.{Bool, true, false}
use mathlib.Core.List.{◌∷◌, map}
use Rattle.std.specs.Prelude.{Option, None, Some}
use lib.ListN.{drop}
use Prim.Native.Nat.{ℕ, zero, suc}
use Rattle.names.specs.Bytes.{Bytes}
use Rattle.names.proofs.Orders.{◌≺◌}
use Rattle.blocks.proofs.Sorted.{Sorted, sorted}
use Rattle.blocks.proofs.Flaws.{store_flawless}
use Rattle.blocks.specs.Snapshot.{Snapshot, Store, store, or_empty, Fit}
use Rattle.refs.specs.Answer.{Answer, nothing, found, refused}
use Rattle.refs.specs.View.{View, scope, view}
use Rattle.refs.specs.Listing.{Waiting, peek, Offer, Positions, by_name, move, next_offer}
use Rattle.refs.specs.ListPromises.{offered}
use Rattle.refs.specs.Run.{State, start, Step, is_nothing, moved, unless_ended, step, Run, run}
use Rattle.refs.proofs.Clauses.{move_chooses, step_is}
use Rattle.refs.proofs.Moves.{run_none, run_more}
use Rattle.refs.proofs.Positions.{step_expansion}
use Rattle.claims.specs.Compared.{compared, Rising}
use Rattle.claims.proofs.Tables.{Table, Does, ends, hands, Both, same_step, Clear, Bound, no_bound, rising_step}
use Rattle.claims.proofs.Waits.{Faithful, region, Waits, peek_waits}
use Rattle.claims.proofs.Least.{table, Offers, chosen, offers_next, choose_does}

-- ---- regions without a flaw

pub record Ordered (s : Store) : Type 0 where
  pub worktree : Sorted None s.worktree
  pub common : Sorted None (or_empty s.common)
  pub packed : Sorted None s.packed

pub ordered : (width : ℕ) (s : Snapshot) → Fit width s → Ordered (store width s)
ordered width s h =
    let f = store_flawless (store width s) h.flawless in
    record { worktree = sorted _ _ f.0; common = sorted _ _ f.1; packed = sorted _ _ f.2 }

-- a view that shows each entry of a name as an answer for it
pub record Honest (Shown : Bytes → Bytes → Type 0) (v : View) : Type 0 where
  pub worktree : Faithful Shown v.worktree
  pub common : Faithful Shown v.common
  pub packed : Faithful Shown v.packed

module _ (Shown : Bytes → Bytes → Type 0) (v : View) (honest : Honest Shown v) (s : Store) (h : Ordered s) (at : Positions) where
  worktree_waits : Waits Shown (region v.worktree (drop at.worktree s.worktree)) (λ j. region v.worktree (drop j s.worktree)) (peek v.worktree s.worktree at.worktree)
  worktree_waits = peek_waits Shown v.worktree honest.worktree s.worktree h.worktree at.worktree

  common_waits : Waits Shown (region v.common (drop at.common (or_empty s.common))) (λ j. region v.common (drop j (or_empty s.common))) (peek v.common (or_empty s.common) at.common)
  common_waits = peek_waits Shown v.common honest.common (or_empty s.common) h.common at.common

  packed_waits : Waits Shown (region v.packed (drop at.packed s.packed)) (λ j. region v.packed (drop j s.packed)) (peek v.packed s.packed at.packed)
  packed_waits = peek_waits Shown v.packed honest.packed s.packed h.packed at.packed

  pub move_does : Does Shown (table v s at) (move v s at).answer (table v s (move v s at).next)
  move_does = rw (move_chooses v s at) (choose_does Shown _ _ _ _ _ _ at worktree_waits common_waits packed_waits)

  -- what is next begins the table
  pub move_offers : Offers Shown (table v s at) (next_offer v s at)
  move_offers = offers_next Shown _ _ _ _ _ _ at worktree_waits common_waits packed_waits

  -- and is answered
  by_name_answer : (q : Option Offer) (w c p : Waiting) → (by_name q w c p at).answer ≡ offered q
  by_name_answer None w c p = refl
  by_name_answer (Some o) w c p = refl

  pub move_answer : (move v s at).answer ≡ offered (next_offer v s at)
  move_answer =
      rw (move_chooses v s at, chosen Shown _ _ _ _ _ _ at worktree_waits common_waits packed_waits)
      (by_name_answer (next_offer v s at) (peek v.worktree s.worktree at.worktree) (peek v.common (or_empty s.common) at.common) (peek v.packed s.packed at.packed))

-- ---- states

-- an ended listing has nothing left
abbrev unless_over : Bool → Option Answer → Option Answer
unless_over true a = None
unless_over false a = a

does_over : (Shown : Bytes → Bytes → Type 0) {t u : Table} (a : Answer) → Does Shown t a u → Does Shown t a (λ y. unless_over (is_nothing a) (u y))
does_over Shown nothing (ends p q r) = ends p q (λ y. refl)
does_over Shown nothing (hands x h k) = absurd h.named
does_over Shown (found r) d = d
does_over Shown (refused k) d = d

nothing_compared : (a : Answer) → is_nothing (compared a) ≡ is_nothing a
nothing_compared nothing = refl
nothing_compared (found r) = refl
nothing_compared (refused k) = refl

module _ (width : ℕ) (s : Snapshot) (fit : Fit width s) where
  -- "its answer "ended", which alone makes a listing ended"
  pub step_ended : (st : State) → (step width s st).next.ended ≡ is_nothing (step width s st).answer
  step_ended st = rw (step_is width s st, fit.sizes) (go st.ended (moved st (move (view width (scope st.expansion)) (store width s) st.at)) refl refl)
    where
      go : (b : Bool) (d : Step) → st.ended ≡ b → d.next.ended ≡ is_nothing d.answer → (unless_ended b st d).next.ended ≡ is_nothing (unless_ended b st d).answer
      go true d e f = e
      go false d e f = f

-- what a state still has to give
abbrev pub state_table : ℕ → Bytes → Snapshot → State → Table
state_table width e s st y = unless_over st.ended (table (view width (scope e)) (store width s) st.at y)

module _ (width : ℕ) (e : Bytes) (Shown : Bytes → Bytes → Type 0) (honest : Honest Shown (view width (scope e))) where
  abbrev state : Positions → Bool → Bytes → State
  state at b x = record { at = at; ended = b; expansion = x }

  step_does_at : (s : Snapshot) → Fit width s → (at : Positions) (b : Bool)
      → Does Shown (state_table width e s (state at b e)) (step width s (state at b e)).answer (state_table width e s (step width s (state at b e)).next)
  step_does_at s h at true = rw (step_is width s (state at true e), h.sizes) (ends refl (λ y. refl) (λ y. refl))
  step_does_at s h at false =
      rw (step_is width s (state at false e), h.sizes)
      (does_over Shown (move (view width (scope e)) (store width s) at).answer (move_does Shown (view width (scope e)) honest (store width s) (ordered width s h) at))

  pub step_does : (s : Snapshot) → Fit width s → (st : State) → st.expansion ≡ e → Does Shown (state_table width e s st) (step width s st).answer (state_table width e s (step width s st).next)
  step_does s h st q =
      subst (λ (x : Bytes). Does Shown (state_table width e s st) (step width s (state st.at st.ended x)).answer (state_table width e s (step width s (state st.at st.ended x)).next))
      (sym q) (step_does_at s h st.at st.ended)

  -- two runs compared: the answers, and whether they are ended
  pub record SameRuns (a b : Run) : Type 0 where
    pub answers : map compared a.answers ≡ map compared b.answers
    pub ended : a.last.ended ≡ b.last.ended

  pub same_runs : (s t : Snapshot) → Fit width s → Fit width t → (n : ℕ) (st st' : State) → st.expansion ≡ e → st'.expansion ≡ e → st.ended ≡ st'.ended
      → ((y : Bytes) → state_table width e s st y ≡ state_table width e t st' y) → SameRuns (run width s n st) (run width t n st')
  same_runs s t h h' zero st st' q q' f g = rw (run_none width s st, run_none width t st') (record { answers = refl; ended = f })
  same_runs s t h h' (suc n) st st' q q' f g =
      let d : Step = step width s st in
      let d' : Step = step width t st' in
      let b : Both Shown d.answer d'.answer (state_table width e s d.next) (state_table width e t d'.next) =
      same_step Shown g (step_does s h st q) (step_does t h' st' q') in
      let o : d.next.ended ≡ d'.next.ended =
      step_ended width s h st ∙ sym (nothing_compared d.answer) ∙ ap is_nothing b.answers ∙ nothing_compared d'.answer ∙ sym (step_ended width t h' st') in
      let r = same_runs s t h h' n d.next d'.next (step_expansion width s st ∙ q) (step_expansion width t st' ∙ q') o b.tables in
      rw (run_more width s n st, run_more width t n st') (record { answers = ap₂ ◌∷◌ b.answers r.answers; ended = r.ended })

  module _ (rise : (x x' y y' : Bytes) → Shown x y → Shown x' y' → x ≺ x' → y ≺ y') where
    rising_run : (s : Snapshot) → Fit width s → (n : ℕ) (st : State) → st.expansion ≡ e → (b b' : Option Bytes) → Bound Shown b b' → Clear Shown b (state_table width e s st) → Rising b' (run width s n st).answers
    rising_run s h zero st q b b' m c = rw (run_none width s st) tt
    rising_run s h (suc n) st q b b' m c =
        let d : Step = step width s st in
        rw (run_more width s n st)
        (rising_step Shown rise d.answer b b' (state_table width e s st) (state_table width e s d.next) (run width s n d.next).answers (step_does s h st q) m c
        (rising_run s h n d.next (step_expansion width s st ∙ q)))

    pub names_rise : (s : Snapshot) → Fit width s → (n : ℕ) → Rising None (run width s n (start e)).answers
    names_rise s h n = rising_run s h n (start e) refl None None no_bound tt
