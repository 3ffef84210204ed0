-- Three regions as one table: a move of the listing is a step of the table.
use mathlib.Core.Path.{◌≡◌, refl, sym, ap, ◌∙◌}
use Rattle.std.specs.Prelude.{Option, None, Some}
use Prim.Native.Nat.{ℕ, Ordering}
use lib.ListN.{drop}
use Rattle.names.specs.Bytes.{Bytes, order}
use Rattle.names.proofs.Tests.{some_none}
use Rattle.names.proofs.Orders.{flip, ◌≺◌, order_eq, order_flip, ≺_trans}
use Rattle.blocks.specs.Snapshot.{Store, or_empty}
use Rattle.refs.specs.Answer.{Answer}
use Rattle.refs.specs.View.{View}
use Rattle.refs.specs.Listing.{Waiting, Offer, smaller, least, first_of, if_same, past, Positions, Move, error_else, by_name, choose}
use Rattle.claims.proofs.Tables.{Table, beyond, beyond_none, Starts, Does, ends, hands}
use Rattle.claims.proofs.Waits.{region, Waits, empty, waits}

infixr 50 ◌or◌
abbrev pub ◌or◌ : Option Answer → Option Answer → Option Answer
None or b = b
Some a or b = Some a

-- the answers that a listing of s at some positions still has to give: worktree over common over packed
abbrev pub table : View → Store → Positions → Table
table v s at y =
    region v.worktree (drop at.worktree s.worktree) y
    or region v.common (drop at.common (or_empty s.common)) y
    or region v.packed (drop at.packed s.packed) y

or_none : (a b : Option Answer) → a or b ≡ None → (a ≡ None) × (b ≡ None)
or_none None b h = (refl, h)
or_none (Some a) b h = (some_none refl h, some_none refl h)

beyond_or : (o : Ordering) (a b c : Option Answer) → beyond o (a or b or c) ≡ beyond o a or beyond o b or beyond o c
beyond_or Ordering.lt a b c = refl
beyond_or Ordering.eq a b c = refl
beyond_or Ordering.gt a b c = refl

module _ (Shown : Bytes → Bytes → Type 0) where
  -- what a table offers next
  pub data Offers (t : Table) : Option Offer → Type 0 where
    offers_none : ((y : Bytes) → t y ≡ None) → Offers t None
    offers : {o : Offer} → Starts Shown t o.name o.answer → Offers t (Some o)

  -- what waits in a region, beside what the others offer
  least_offers : {t u : Table} {from : ℕ → Table} {h : Waiting} {q : Option Offer} → Waits Shown t from h → Offers u q → Offers (λ y. t y or u y) (least h q)
  least_offers (empty e) (offers_none f) = offers_none (λ y. rw (e y) (f y))
  least_offers (empty e) (offers {o = o} s) = offers {o = o} (record { here = rw (e o.name) s.here; named = s.named; before = λ y h. rw (e y) (s.before y h) })
  least_offers (waits {x = x} {a = a} s k) (offers_none f) = offers {o = record { name = x; answer = a }} (record { here = rw s.here; named = s.named; before = λ y h. rw (s.before y h) (f y) })
  least_offers {t} {u} (waits {x = x} {a = a} s k) (offers {o = o} s') = offers {o = smaller (order x o.name) (record { name = x; answer = a }) o} (go (order x o.name) refl)
    where
      go : (c : Ordering) → order x o.name ≡ c
          → Starts Shown (λ y. t y or u y) (smaller c (record { name = x; answer = a }) o).name (smaller c (record { name = x; answer = a }) o).answer
      go Ordering.lt c = record { here = rw s.here; named = s.named; before = λ y h. rw (s.before y h) (s'.before y (≺_trans y x o.name h c)) }
      go Ordering.eq c = record { here = rw s.here; named = s.named; before = λ y h. rw (s.before y h) (s'.before y (rw (← order_eq x o.name c) h)) }
      go Ordering.gt c =
          let d : o.name ≺ x = order_flip x o.name ∙ ap flip c in
          record { here = rw (s.before o.name d) s'.here; named = s'.named; before = λ y h. rw (s.before y (≺_trans y o.name x h d)) (s'.before y h) }

  last_offers : {t : Table} {from : ℕ → Table} {h : Waiting} → Waits Shown t from h → Offers t (least h None)
  last_offers (empty e) = offers_none e
  last_offers (waits {x = x} {a = a} s k) = offers {o = record { name = x; answer = a }} s

  -- a region, once a name x is handed out that is above none of its names
  past_beyond : {from : ℕ → Table} {h : Waiting} (i : ℕ) (x : Bytes) → Waits Shown (from i) from h → ((y : Bytes) → y ≺ x → from i y ≡ None)
      → (y : Bytes) → from (past x h i) y ≡ beyond (order x y) (from i y)
  past_beyond i x (empty f) b y = f y ∙ sym (rw (f y) (beyond_none (order x y)))
  past_beyond {from} i x (waits {x = z} {a = a} {j = j} s k) b y = go (order x z) refl
    where
      -- x is below the region's first name
      still : x ≺ z → (o : Ordering) → order x y ≡ o → from i y ≡ beyond o (from i y)
      still d Ordering.lt c = refl
      still d Ordering.eq c = s.before y (rw (← order_eq x y c) d)
      still d Ordering.gt c = s.before y (≺_trans y x z (order_flip x y ∙ ap flip c) d)

      go : (o : Ordering) → order x z ≡ o → from (if_same o j i) y ≡ beyond (order x y) (from i y)
      go Ordering.lt c = still c (order x y) refl
      go Ordering.eq c = rw (order_eq x z c) (k y)
      go Ordering.gt c = some_none s.here (b z (order_flip x z ∙ ap flip c))

  no_error : {t : Table} {from : ℕ → Table} {h : Waiting} (moved : ℕ → Positions) (rest : Move) → Waits Shown t from h → error_else h moved rest ≡ rest
  no_error moved rest (empty e) = refl
  no_error moved rest (waits s k) = refl

  module _ (fw fc fp : ℕ → Table) where
    abbrev table_at : Positions → Table
    table_at at y = fw at.worktree y or fc at.common y or fp at.packed y

    module _ (w c p : Waiting) (at : Positions) (hw : Waits Shown (fw at.worktree) fw w) (hc : Waits Shown (fc at.common) fc c) (hp : Waits Shown (fp at.packed) fp p) where
      by_name_does : (q : Option Offer) → Offers (table_at at) q → Does Shown (table_at at) (by_name q w c p at).answer (table_at (by_name q w c p at).next)
      by_name_does None (offers_none e) = ends refl e e
      by_name_does (Some o) (offers h) =
          let x : Bytes = o.name in
          let none-w : (y : Bytes) → y ≺ x → fw at.worktree y ≡ None = λ y k. (or_none (fw at.worktree y) _ (h.before y k)).0 in
          let none-cp : (y : Bytes) → y ≺ x → fc at.common y or fp at.packed y ≡ None = λ y k. (or_none (fw at.worktree y) _ (h.before y k)).1 in
          hands x h
          (λ y. rw (
            past_beyond at.worktree x hw none-w y,
            past_beyond at.common x hc (λ z k. (or_none (fc at.common z) _ (none-cp z k)).0) y,
            past_beyond at.packed x hp (λ z k. (or_none (fc at.common z) _ (none-cp z k)).1) y,
          )
          (sym (beyond_or (order x y) (fw at.worktree y) (fc at.common y) (fp at.packed y))))

      pub chosen : choose w c p at ≡ by_name (first_of w c p) w c p at
      chosen = no_error _ _ hp ∙ no_error _ _ hc ∙ no_error _ _ hw

      -- what is next begins the table
      pub offers_next : Offers (table_at at) (first_of w c p)
      offers_next = least_offers hw (least_offers hc (last_offers hp))

      pub choose_does : Does Shown (table_at at) (choose w c p at).answer (table_at (choose w c p at).next)
      choose_does = rw chosen (by_name_does (first_of w c p) offers_next)
