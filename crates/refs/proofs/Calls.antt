-- The calls: the checks, and then search or following.
use mathlib.Core.Path.{◌≡◌, refl, sym, ◌∙◌}
use Prim.Native.Nat.{ℕ}
use native.Mathlib.Omega.{arith}
use Rattle.std.specs.Prelude.{Option, None, Some}
use Rattle.names.specs.Bytes.{Bytes}
use Rattle.names.specs.Check.{Check, gives, checked}
use Rattle.names.specs.Namespace.{expansion, names_check}
use Rattle.blocks.specs.Fitness.{Flaw}
use Rattle.blocks.specs.Snapshot.{Snapshot, size_check, store, store_flaw}
use Rattle.blocks.specs.Means.{id_width}
use Rattle.refs.specs.Answer.{Answer}
use Rattle.refs.specs.Search as Search
use Rattle.refs.specs.Search.{Searched, answers, turned_away, unfit, search, after_checks, call_check, find}
use Rattle.refs.specs.Follow.{Followed, following, follow}
use Rattle.refs.specs.Means.{turned_back, answer_only}
use Rattle.refs.specs.declared.check.CallError.{CallError}
use Rattle.refs.specs.declared.check.CallError.TheVariants as why

answer_after : (c : Check) (f : Option Flaw) (s : Searched) → answer_only (after_checks c f s) ≡ after_checks c f s.answer
answer_after None None s = refl
answer_after None (Some f) s = refl
answer_after (Some k) f s = refl

module _ {A : Type 0} (c : Check) (f : Option Flaw) (e : A) where
  -- a call that is turned away is so whatever the answer
  pub turned_same : {B : Type 0} (w : CallError) → turned_back {A = A} w ≡ after_checks c f e → (b : B) → turned_back w ≡ after_checks c f b
  turned_same {B} w h b = go c f h
    where
      clash : (k : CallError) → turned_back {A = A} k ≡ answers e → turned_back k ≡ answers b
      clash (why.Sizes u) h = absurd (let z : ◌≡◌ {A = ℕ} 0 1 = cc in omega arith)
      clash (why.Names u) h = absurd (let z : ◌≡◌ {A = ℕ} 0 1 = cc in omega arith)
      clash (why.Unfit u) h = absurd (let z : ◌≡◌ {A = ℕ} 0 1 = cc in omega arith)

      same_away : (k : CallError) (j : ℕ) → turned_back {A = A} k ≡ turned_away j → turned_back {A = B} k ≡ turned_away j
      same_away (why.Sizes u) j h = cc
      same_away (why.Names u) j h = cc
      same_away (why.Unfit u) j h = absurd (let z : ◌≡◌ {A = ℕ} 0 1 = cc in omega arith)

      same_unfit : (k : CallError) (l : Flaw) → turned_back {A = A} k ≡ unfit l → turned_back {A = B} k ≡ unfit l
      same_unfit (why.Sizes u) l h = absurd (let z : ◌≡◌ {A = ℕ} 0 1 = cc in omega arith)
      same_unfit (why.Names u) l h = absurd (let z : ◌≡◌ {A = ℕ} 0 1 = cc in omega arith)
      same_unfit (why.Unfit u) l h = cc

      go : (d : Check) (l : Option Flaw) → turned_back {A = A} w ≡ after_checks d l e → turned_back w ≡ after_checks d l b
      go (Some k) l h = same_away w k h
      go None (Some l) h = same_unfit w l h
      go None None h = clash w h

  -- a call that passed: its checks found nothing
  pub record Passes (x : A) : Type 0 where
    pub no_check : c ≡ None
    pub no_flaw : f ≡ None
    pub same_value : x ≡ e

  pub passes : (x : A) → answers x ≡ after_checks c f e → Passes x
  passes x h = let p = go c f h in record { no_check = p.0; no_flaw = p.1; same_value = p.2 }
    where
      go : (d : Check) (l : Option Flaw) → answers x ≡ after_checks d l e → (d ≡ None) × (l ≡ None) × (x ≡ e)
      go None None h = (refl, refl, cc)
      go None (Some l) h = absurd (let z : ◌≡◌ {A = ℕ} 0 1 = cc in omega arith)
      go (Some k) l h = absurd (let z : ◌≡◌ {A = ℕ} 0 1 = cc in omega arith)

module _ (s : Snapshot) (x : Bytes) (o : Option Bytes) where
  -- what the checks leave
  abbrev pub After : {A : Type 0} → A → Search.Result A
  After a = after_checks (call_check s x o) (store_flaw (store id_width s)) a

  -- the checks one after the other
  pub all_pass : (e : Bytes) → None ≡ size_check s → gives e ≡ checked (names_check (Some x) o) (expansion o) → store_flaw (store id_width s) ≡ None → answers e ≡ After (expansion o)
  all_pass e h g f = rw (← h, f) (go (names_check (Some x) o) g)
    where
      go : (c : Check) → gives e ≡ checked c (expansion o) → answers e ≡ after_checks c None (expansion o)
      go None g = let q : e ≡ expansion o = cc in rw q
      go (Some k) g = absurd (let z : ◌≡◌ {A = ℕ} 0 1 = cc in omega arith)

  pub find_turned : (w : CallError) → turned_back w ≡ After (expansion o) → turned_back w ≡ answer_only (find id_width s x o)
  unfolding find
  find_turned w h =
      turned_same (call_check s x o) (store_flaw (store id_width s)) (expansion o) w h _
      ∙ sym (answer_after (call_check s x o) (store_flaw (store id_width s)) (search id_width (expansion o) (store id_width s) x))

  pub follow_turned : (w : CallError) → turned_back w ≡ After (expansion o) → turned_back w ≡ follow id_width s x o
  unfolding follow
  follow_turned w h = turned_same (call_check s x o) (store_flaw (store id_width s)) (expansion o) w h _

  module _ (e : Bytes) (h : answers e ≡ After (expansion o)) where
    passed : Passes (call_check s x o) (store_flaw (store id_width s)) (expansion o) e
    passed = passes (call_check s x o) (store_flaw (store id_width s)) (expansion o) e h

    pub find_answers : (a : Answer) → a ≡ (search id_width e (store id_width s) x).answer → answers a ≡ answer_only (find id_width s x o)
    unfolding find
    find_answers a q = rw (passed.no_check, passed.no_flaw, ← passed.same_value, q)

    pub follow_answers : (a : Followed) → a ≡ following id_width e (store id_width s) x → answers a ≡ follow id_width s x o
    unfolding follow
    follow_answers a q = rw (passed.no_check, passed.no_flaw, ← passed.same_value, q)
