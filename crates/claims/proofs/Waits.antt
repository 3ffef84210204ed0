-- One region as a table, and what waits in it.
use Rattle.std.specs.Prelude.{if◌then◌else◌}
use mathlib.Core.Path.{◌≡◌, refl, ap, ◌∙◌, subst, fun_ext}
use mathlib.Core.List.{List, [], ◌∷◌}
use Rattle.std.specs.Prelude.{Option, None, Some}
use Prim.Native.Nat.{ℕ, zero, suc, Ordering}
use lib.ListN.{drop}
use lib.Dec.{compare_is_eq}
use Rattle.names.specs.Bytes.{Bytes, order}
use Rattle.names.proofs.Orders.{flip, ◌≺◌, order_refl, order_flip, eq_not_lt, gt_not_lt}
use Rattle.blocks.specs.Entry.{Entry, name_of}
use Rattle.blocks.proofs.Sorted.{Sorted, sorted-[], sorted-∷, sorted_drop}
use Rattle.refs.specs.Answer.{Answer, block_of}
use Rattle.refs.specs.View.{Seen, passed_over, fault, shown}
use Rattle.refs.specs.Listing.{Waiting, none_left, named, first_seen, first_waiting, peek}
use Rattle.claims.specs.Compared.{compared}
use Rattle.refs.proofs.Clauses.{block_none, block_more, waiting_none, waiting_more}
use Rattle.refs.proofs.Blocks.{absent}
use Rattle.claims.proofs.Tables.{Table, beyond, Named, Starts}

abbrev pub shows : Seen → Option Answer
shows passed_over = None
shows (fault a) = None
shows (shown x a) = Some (compared a)

-- the answer of a block of a region, seen so
abbrev pub said : (Entry → Seen) → Option Entry → Option Answer
said see None = None
said see (Some e) = shows (see e)

-- the answers that a region still has to give
abbrev pub region : (Entry → Seen) → List Entry → Table
region see l y = said see (block_of y l)

drop_tail : {A : Type 0} (i : ℕ) (r : List A) {e : A} {l : List A} → drop i r ≡ e ∷ l → drop (suc i) r ≡ l
drop_tail zero [] h = cc
drop_tail zero (x ∷ xs) h = cc
drop_tail (suc i) [] h = cc
drop_tail (suc i) (x ∷ xs) h = drop_tail i xs h

module _ (Shown : Bytes → Bytes → Type 0) where
  -- how an entry of the name x may be seen
  pub data Sight (x : Bytes) : Seen → Type 0 where
    unseen : Sight x passed_over
    offered : {a : Answer} → Named Shown x a → Sight x (shown x a)

  abbrev pub Faithful : (Entry → Seen) → Type 0
  Faithful see = (e : Entry) (x : Bytes) → name_of e ≡ Some x → Sight x (see e)

  -- what waits in a region of table t, where a region that stands at j has the table `from j`
  pub data Waits (t : Table) (from : ℕ → Table) : Waiting → Type 0 where
    empty : ((y : Bytes) → t y ≡ None) → Waits t from none_left
    waits : {x : Bytes} {a : Answer} {j : ℕ} → Starts Shown t x a → ((y : Bytes) → from j y ≡ beyond (order x y) (t y)) → Waits t from (named x a j)

  module _ (see : Entry → Seen) (faithful : Faithful see) (r : List Entry) where
    gone : (x : Bytes) (l : List Entry) → Sorted (Some x) l → (y : Bytes) → (x ≺ y → ⊥) → region see l y ≡ None
    gone x l s y h = rw (absent x s y h)

    -- an entry that is passed over adds nothing
    skip : (e : Entry) (l : List Entry) (x : Bytes) → name_of e ≡ Some x → Sorted (Some x) l → see e ≡ passed_over → (y : Bytes) → region see l y ≡ region see (e ∷ l) y
    skip e l x n s k y = rw (block_more y e l, n) (go (order x y) refl)
      where
        go : (o : Ordering) → order x y ≡ o → region see l y ≡ said see (if compare_is_eq o then Some e else block_of y l)
        go Ordering.lt c = refl
        go Ordering.eq c = rw k (gone x l s y (eq_not_lt x y c))
        go Ordering.gt c = refl

    -- one that is not starts the table
    start : (e : Entry) (l : List Entry) (x : Bytes) (a : Answer) → name_of e ≡ Some x → Sorted (Some x) l → see e ≡ shown x a → Named Shown x a → Starts Shown (region see (e ∷ l)) x a
    start e l x a n s k m =
        record {
          here = rw (block_more x e l, n, order_refl x, k);
          named = m;
          before = λ y h. let c : order x y ≡ Ordering.gt = order_flip y x ∙ ap flip h in rw (block_more y e l, n, c) (gone x l s y (gt_not_lt x y c));
        }

    after : (e : Entry) (l : List Entry) (x : Bytes) → name_of e ≡ Some x → Sorted (Some x) l → (y : Bytes) → region see l y ≡ beyond (order x y) (region see (e ∷ l) y)
    after e l x n s y = rw (block_more y e l, n) (go (order x y) refl)
      where
        go : (o : Ordering) → order x y ≡ o → region see l y ≡ beyond o (said see (if compare_is_eq o then Some e else block_of y l))
        go Ordering.lt c = refl
        go Ordering.eq c = gone x l s y (eq_not_lt x y c)
        go Ordering.gt c = gone x l s y (gt_not_lt x y c)

    first_waits : {b : Option Bytes} {l : List Entry} → Sorted b l → (i : ℕ) → drop i r ≡ l → Waits (region see l) (λ j. region see (drop j r)) (first_waiting see l i)
    first_waits sorted-[] i d = rw (waiting_none see i) (empty (λ y. rw (block_none y)))
    first_waits (sorted-∷ {e = e} {l = l} x n a s) i d = rw (waiting_more see i e l) (go (see e) refl (faithful e x n) (first_waits s (suc i) (drop_tail i r d)))
      where
        go : (k : Seen) → see e ≡ k → Sight x k → Waits (region see l) (λ j. region see (drop j r)) (first_waiting see l (suc i))
            → Waits (region see (e ∷ l)) (λ j. region see (drop j r)) (first_seen k (suc i) (first_waiting see l (suc i)))
        go passed_over k unseen ih = subst (λ (t : Table). Waits t (λ j. region see (drop j r)) (first_waiting see l (suc i))) (fun_ext (skip e l x n s k)) ih
        go (shown z a) k (offered m) ih = waits {j = suc i} (start e l x a n s k m) (λ y. rw (drop_tail i r d) (after e l x n s y))
        go (fault _) k x7 ih = elim x7 [ ]

    pub peek_waits : Sorted None r → (i : ℕ) → Waits (region see (drop i r)) (λ j. region see (drop j r)) (peek see r i)
    peek_waits h i = first_waits (sorted_drop i h) i refl
