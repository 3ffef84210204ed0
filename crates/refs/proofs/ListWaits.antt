-- What waits in a region: at one block, and from one block to the next.
use mathlib.Core.Path.{◌≡◌, refl, sym, subst, ap, ◌∙◌}
use mathlib.Core.Bool.{Bool, true, false}
use denote.Param.Members.{Mut}
use Rattle.std.specs.Prelude.{Option, None, Some, is_some, MatchOption, IfSome, IsSomeAnd}
use Rattle.std.specs.Bool.{IsTrue}
use Rattle.std.specs.Fn.{Called}
use Rattle.std.specs.Iterator.Runs.{Run, ItemsCountUp, CallKeepsClosure, AllItemsGive, IsFirstToGive}
use Rattle.std.specs.declared.ops.Range.{Range}
use Rattle.std.proofs.iter.Yields.{nat_range_steps}
use Rattle.std.proofs.iter.runs.Sources.{range_runs}
use Rattle.std.specs.Option.{option_map}
use Prim.Native.Nat.{ℕ, zero, suc, ◌+◌, ◌-◌, ◌<◌, ◌≤◌}
use native.Mathlib.Numerals.{add-one}
use native.Mathlib.Omega.{arith}
use Rattle.names.specs.Bytes.{Bytes}
use Rattle.blocks.specs.Block.{Region}
use Rattle.blocks.specs.Entry.{Entry, damaged, failed, loose, unread, packed_record, name_of, entry, entries}
use Rattle.blocks.specs.Means.{id_width, entry_in, block_count, block_at}
use Rattle.blocks.proofs.Entries.{entry_there}
use Rattle.blocks.specs.Means.{entry_as}
use Rattle.blocks.specs.declared.block.Entry as code
use Rattle.refs.specs.Answer.{Answer}
use Rattle.refs.specs.View.{Seen, passed_over, fault, shown, shown_if, scope, see}
use Rattle.refs.specs.Listing.{Waiting, none_left, first_seen, peek}
use Rattle.refs.specs.ListPromises.{shows_in, seen_in, own_answer, waiting_with, waiting_of}
use Rattle.refs.specs.declared.overlay_iter.Waiting as waiting
use Rattle.refs.proofs.ListShows.{stripped_is}
use Rattle.refs.proofs.Peeks.{peek_turn, peek_stop}

-- ---- one entry, by the name that it may bear

abbrev seen_as : Option Bytes → Answer → (Bytes → Bool) → Seen
seen_as None a shows = fault a
seen_as (Some n) a shows = shown_if (shows n) n a

see_is : (e : Bytes) (shows : Bytes → Bool) (x : Entry) → see id_width e shows x ≡ seen_as (name_of x) (own_answer e x) shows
see_is e shows damaged = refl
see_is e shows failed = refl
see_is e shows (loose n c) = refl
see_is e shows (unread n) = refl
see_is e shows (packed_record n t p) = refl

-- ---- block k of a region

module _ (r : Region) (s e : Bytes) (k : ℕ) (within : k < block_count s) where
  pub look_none : {A : Type 0} → None ≡ entry_in id_width r s k → A
  look_none h =
      let z : ◌≡◌ {A = Option Entry} None (Some (entry id_width r (block_at s k))) = h ∙ entry_there id_width r s k within in
      let y : ◌≡◌ {A = ℕ} 0 1 = cc in
      absurd (omega arith)

  module _ (y : code.Entry) (h : Some (entry_as y) ≡ entry_in id_width r s k) where
    seen : seen_in r e (entry id_width r (block_at s k)) ≡ seen_as (name_of (entry_as y)) (own_answer e (entry_as y)) (shows_in r (scope e))
    seen =
        let z : Some (entry_as y) ≡ Some (entry id_width r (block_at s k)) = h ∙ entry_there id_width r s k within in
        let q : entry id_width r (block_at s k) ≡ entry_as y = cc in
        rw (q, stripped_is e) (see_is e (shows_in r (scope e)) (entry_as y))

    pub look_error : None ≡ name_of (entry_as y) → waiting_with (name_of (entry_as y)) (own_answer e (entry_as y)) (k + 1) ≡ first_seen (seen_in r e (entry id_width r (block_at s k))) (suc k) none_left
    look_error z = rw (seen, ← z, add-one)

    module _ (n : Bytes) (z : Some n ≡ name_of (entry_as y)) (b : Bool) (is : b ≡ shows_in r (scope e) n) where
      pub look_name : b ≡ true → waiting_with (name_of (entry_as y)) (own_answer e (entry_as y)) (k + 1) ≡ first_seen (seen_in r e (entry id_width r (block_at s k))) (suc k) none_left
      look_name t = rw (seen, ← z, add-one, ← is, t)

      pub look_past : b ≡ false → none_left ≡ first_seen (seen_in r e (entry id_width r (block_at s k))) (suc k) none_left
      look_past t = rw (seen, ← z, ← is, t)

-- ---- a turn of the loop

module _ (w : waiting.Waiting) (e : Bytes) (next : ℕ) (rest : Waiting) where
  stays : (x : Seen) → waiting_of e (Some w) ≡ first_seen x next none_left → waiting_of e (Some w) ≡ first_seen x next rest
  stays passed_over h = go (name_of (entry_as w.found.entry)) h
    where
      go : (n : Option Bytes) → waiting_with n (own_answer e (entry_as w.found.entry)) w.next ≡ none_left → waiting_with n (own_answer e (entry_as w.found.entry)) w.next ≡ rest
      go None h = let z : ◌≡◌ {A = ℕ} 0 1 = cc in absurd (omega arith)
      go (Some n) h = let z : ◌≡◌ {A = ℕ} 0 1 = cc in absurd (omega arith)
  stays (fault b) h = h
  stays (shown m b) h = h

goes : (x : Seen) (next : ℕ) (rest : Waiting) → none_left ≡ first_seen x next none_left → first_seen x next rest ≡ rest
goes passed_over next rest h = refl
goes (fault b) next rest h = let z : ◌≡◌ {A = ℕ} 0 1 = cc in absurd (omega arith)
goes (shown m b) next rest h = let z : ◌≡◌ {A = ℕ} 0 1 = cc in absurd (omega arith)

module _ (r : Region) (s e : Bytes) (from i : ℕ) (at : peek (seen_in r e) (entries id_width r s) from ≡ peek (seen_in r e) (entries id_width r s) i) where
  module _ (within : i < block_count s) where
    turn : peek (seen_in r e) (entries id_width r s) from ≡ first_seen (seen_in r e (entry id_width r (block_at s i))) (suc i) (peek (seen_in r e) (entries id_width r s) (suc i))
    turn = at ∙ peek_turn (seen_in r e) id_width r s i within

    pub peek_found : (w : Option waiting.Waiting) → waiting_of e w ≡ first_seen (seen_in r e (entry id_width r (block_at s i))) (suc i) none_left → is_some w ≡ true → waiting_of e w ≡ peek (seen_in r e) (entries id_width r s) from
    peek_found None h t = cc
    peek_found (Some w) h t = stays w e (suc i) (peek (seen_in r e) (entries id_width r s) (suc i)) (seen_in r e (entry id_width r (block_at s i))) h ∙ sym turn

    pub peek_next : (w : Option waiting.Waiting) → waiting_of e w ≡ first_seen (seen_in r e (entry id_width r (block_at s i))) (suc i) none_left → is_some w ≡ false → peek (seen_in r e) (entries id_width r s) from ≡ peek (seen_in r e) (entries id_width r s) (i + 1)
    peek_next None h t = turn ∙ rw add-one (goes (seen_in r e (entry id_width r (block_at s i))) (suc i) (peek (seen_in r e) (entries id_width r s) (suc i)) h)
    peek_next (Some w) h t = cc

  pub peek_none : block_count s ≤ i → none_left ≡ peek (seen_in r e) (entries id_width r s) from
  peek_none past = sym (at ∙ peek_stop (seen_in r e) id_width r s i past)

-- ---- the blocks from one on, until one gives something

at_is : (o : Option ℕ) (x : ℕ) → option_map (λ y. y) o ≡ Some x → o ≡ Some x
at_is None x h = let z : ◌≡◌ {A = ℕ} 0 1 = cc in absurd (omega arith)
at_is (Some y) x h = h

module _ (from to : ℕ) (p : Run nat_range_steps) (starts : p.from ≡ record { start = from; end = to }) where
  counts : ItemsCountUp p from to
  counts = subst (λ (q : Range ℕ). ItemsCountUp p q.start q.end) starts (range_runs p p.seen)

  there : (k : ℕ) → k < p.len → p.at k ≡ Some (from + k)
  there k h = at_is (p.at k) (from + k) (counts.3 k h)

module _ {F : Type 0} (g : Mut F (ℕ × Unit {0}) (Option waiting.Waiting)) (f : F) (r : Region) (s e : Bytes) (from : ℕ)
    (looks : (k : ℕ) (w : Option waiting.Waiting) → k < block_count s → Called g f (k, tt) w f → waiting_of e w ≡ first_seen (seen_in r e (entry id_width r (block_at s k))) (suc k) none_left) where
  passed : (n : ℕ) → n ≤ block_count s - from → ((k : ℕ) → k < n → Called g f (from + k, tt) None f) → peek (seen_in r e) (entries id_width r s) from ≡ peek (seen_in r e) (entries id_width r s) (from + n)
  passed zero l h = ap (peek (seen_in r e) (entries id_width r s)) (omega arith)
  passed (suc n) l h =
      let w : from + n < block_count s = omega arith in
      subst (λ i. peek (seen_in r e) (entries id_width r s) from ≡ peek (seen_in r e) (entries id_width r s) i) {x = from + n + 1} {y = from + suc n} (omega arith)
      (peek_next r s e from (from + n) (passed n (omega arith) (λ k y. h k (omega arith))) w None (looks (from + n) None w (h n (omega arith))) refl)

  module _ (p : Run nat_range_steps) (starts : p.from ≡ record { start = from; end = block_count s }) (keeps : CallKeepsClosure g f) where
    pub looked : (w : Option waiting.Waiting)
        → MatchOption w (IsTrue p.whole × AllItemsGive p g f None) (λ y. (i : ℕ) × (i < p.len) × (p.len ≡ i + 1) × IsFirstToGive p g f (Some y) None i)
        → waiting_of e w ≡ peek (seen_in r e) (entries id_width r s) from
    looked None h =
        let c = counts from (block_count s) p starts in
        let z = passed p.len c.0 (λ k l. subst (λ o. IfSome o (λ x. Called g f (x, tt) None f)) (there from (block_count s) p starts k l) (h.1 keeps k)) in
        peek_none r s e from (from + p.len) z (omega (arith, c.1 h.0))
    looked (Some y) h =
        let all = h.3 keeps in
        let c = counts from (block_count s) p starts in
        let z = passed h.0 (omega (arith, h.1, c.0)) (λ k l. subst (λ o. IsSomeAnd o (λ x. Called g f (x, tt) None f)) (there from (block_count s) p starts k (omega (arith, h.1))) (all.1 k l)) in
        let w : from + h.0 < block_count s = omega (arith, c.0, h.1) in
        peek_found r s e from (from + h.0) z w (Some y) (looks (from + h.0) (Some y) w (subst (λ o. IsSomeAnd o (λ x. Called g f (x, tt) (Some y) f)) (there from (block_count s) p starts h.0 h.1) all.0)) refl
