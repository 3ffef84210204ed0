-- Positions stay within the blocks that a region may have.
use mathlib.Core.Path.{◌≡◌, refl}
use Prim.Native.Nat.{ℕ, ◌≤◌, Ordering}
use native.Mathlib.Omega.{arith}
use mathlib.Core.List.{List}
use mathlib.Core.Bool.{Bool, true, false}
use Rattle.std.specs.Prelude.{Option, None, Some}
use lib.ListN.{length, drop, length-drop}
use Rattle.names.specs.Bytes.{Bytes, order}
use Rattle.names.specs.Check.{Check}
use Rattle.blocks.specs.Layout.{most_blocks}
use Rattle.blocks.specs.Entry.{Entry}
use Rattle.blocks.specs.Snapshot.{Snapshot, Store, store, or_empty, size_check}
use Rattle.blocks.proofs.Sizes.{Few, few}
use Rattle.refs.specs.View.{Seen, View, scope, view}
use Rattle.refs.specs.Listing.{Waiting, none_left, error, named, peek, Offer, first_of, if_same, past, Positions, Move, error_else, by_name, choose, move}
use Rattle.refs.proofs.Moves.{Within, first_within}
use Rattle.refs.specs.Run.{State, moved, unless_ended, unless_refused, step}

-- ---- what waits

-- the place behind what waits is at most m
abbrev Before : ℕ → Waiting → Type 0
Before m none_left = Unit {0}
Before m (error a j) = j ≤ m
Before m (named n a j) = j ≤ m

before : (m : ℕ) (l : List Entry) (i : ℕ) (w : Waiting) → length l ≤ m → i ≤ m → Within i (length (drop i l)) w → Before m w
before m l i none_left h k b = tt
before m l i (error a j) h k b = omega (arith, length-drop i l)
before m l i (named n a j) h k b = omega (arith, length-drop i l)

peek_before : (m : ℕ) (see : Entry → Seen) (l : List Entry) (i : ℕ) → length l ≤ m → i ≤ m → Before m (peek see l i)
peek_before m see l i h k = before m l i (peek see l i) h k (first_within see (drop i l) i)

past_before : (m : ℕ) (n : Bytes) (w : Waiting) (i : ℕ) → Before m w → i ≤ m → past n w i ≤ m
past_before m n none_left i h k = k
past_before m n (error a j) i h k = k
past_before m n (named x a j) i h k = go (order n x)
  where
    go : (o : Ordering) → if_same o j i ≤ m
    go Ordering.lt = k
    go Ordering.eq = h
    go Ordering.gt = k

-- ---- positions

-- each is at most m
pub record AtMost (m : ℕ) (at : Positions) : Type 0 where
  pub worktree : at.worktree ≤ m
  pub common : at.common ≤ m
  pub packed : at.packed ≤ m

error_at_most : (m : ℕ) (w : Waiting) (to : ℕ → Positions) (rest : Move) → Before m w → ((i : ℕ) → i ≤ m → AtMost m (to i)) → AtMost m rest.next
    → AtMost m (error_else w to rest).next
error_at_most m none_left to rest h k r = r
error_at_most m (error a i) to rest h k r = k i h
error_at_most m (named n a i) to rest h k r = r

by_name_at_most : (m : ℕ) (q : Option Offer) (w c p : Waiting) (at : Positions) → Before m w → Before m c → Before m p → AtMost m at
    → AtMost m (by_name q w c p at).next
by_name_at_most m None w c p at hw hc hp h = h
by_name_at_most m (Some o) w c p at hw hc hp h =
    record {
      worktree = past_before m o.name w at.worktree hw h.worktree;
      common = past_before m o.name c at.common hc h.common;
      packed = past_before m o.name p at.packed hp h.packed;
    }

choose_at_most : (m : ℕ) (w c p : Waiting) (at : Positions) → Before m w → Before m c → Before m p → AtMost m at → AtMost m (choose w c p at).next
choose_at_most m w c p at hw hc hp h =
    error_at_most m p _ _ hp (λ i k. record { worktree = h.worktree; common = h.common; packed = k })
    (error_at_most m c _ _ hc (λ i k. record { worktree = h.worktree; common = k; packed = h.packed })
    (error_at_most m w _ _ hw (λ i k. record { worktree = k; common = h.common; packed = h.packed })
    (by_name_at_most m (first_of w c p) w c p at hw hc hp h)))

move_at_most : (m : ℕ) (v : View) (s : Store) (at : Positions) → Few m s → AtMost m at → AtMost m (move v s at).next
unfolding move
move_at_most m v s at f h =
    choose_at_most m (peek v.worktree s.worktree at.worktree) (peek v.common (or_empty s.common) at.common) (peek v.packed s.packed at.packed) at
    (peek_before m v.worktree s.worktree at.worktree f.worktree h.worktree)
    (peek_before m v.common (or_empty s.common) at.common f.common h.common)
    (peek_before m v.packed s.packed at.packed f.packed h.packed)
    h

-- ---- steps

-- from positions of at most 4,096 a step leads to such
pub step_at_most : (width : ℕ) (s : Snapshot) (st : State) → AtMost most_blocks st.at → AtMost most_blocks (step width s st).next.at
unfolding step
step_at_most width s st h = go (size_check s) refl
  where
    m : Move
    m = move (view width (scope st.expansion)) (store width s) st.at

    unless : (b : Bool) → size_check s ≡ None → AtMost most_blocks (unless_ended b st (moved st m)).next.at
    unless true z = h
    unless false z = move_at_most most_blocks (view width (scope st.expansion)) (store width s) st.at (few width s z) h

    go : (c : Check) → size_check s ≡ c → AtMost most_blocks (unless_refused c st (unless_ended st.ended st (moved st m))).next.at
    go (Some k) e = h
    go None e = unless st.ended e

-- and the namespace's expansion stays
pub step_expansion : (width : ℕ) (s : Snapshot) (st : State) → (step width s st).next.expansion ≡ st.expansion
unfolding step
step_expansion width s st = go (size_check s) st.ended
  where
    go : (c : Check) (b : Bool) → (unless_refused c st (unless_ended b st (moved st (move (view width (scope st.expansion)) (store width s) st.at)))).next.expansion ≡ st.expansion
    go (Some k) b = refl
    go None true = refl
    go None false = refl
