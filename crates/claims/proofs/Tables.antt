-- A listing seen as a table: the answer that it still has to give of each name. A step hands out the least name of the
-- table and strikes it out; so equal tables give equal steps, whatever the regions.
use mathlib.Core.Path.{◌≡◌, refl, sym, ap, ◌∙◌}
use mathlib.Core.List.{List, ◌∷◌}
use Rattle.std.specs.Prelude.{Option, None, Some}
use Prim.Native.Nat.{ℕ, Ordering}
use native.Mathlib.Omega.{arith}
use Rattle.names.specs.Bytes.{Bytes, order}
use Rattle.names.specs.Name.{Above}
use Rattle.names.proofs.Tests.{some_none}
use Rattle.names.proofs.Orders.{flip, ◌≺◌, order_eq, order_flip}
use Rattle.refs.specs.Answer.{Answer, nothing, found, refused}
use Rattle.claims.specs.Compared.{compared, Rising}

abbrev pub Table : Type 0
Table = Bytes → Option Answer

-- a name's answer, once the names up to x are handed out: o is x's order to the name
abbrev pub beyond : Ordering → Option Answer → Option Answer
beyond Ordering.lt a = a
beyond Ordering.eq a = None
beyond Ordering.gt a = None

pub beyond_none : (o : Ordering) → beyond o None ≡ None
beyond_none Ordering.lt = refl
beyond_none Ordering.eq = refl
beyond_none Ordering.gt = refl

beyond_twice : (o : Ordering) (a : Option Answer) → beyond o (beyond o a) ≡ beyond o a
beyond_twice Ordering.lt a = refl
beyond_twice Ordering.eq a = refl
beyond_twice Ordering.gt a = refl

beyond_comm : (o p : Ordering) (a : Option Answer) → beyond o (beyond p a) ≡ beyond p (beyond o a)
beyond_comm Ordering.lt p a = refl
beyond_comm Ordering.eq p a = sym (beyond_none p)
beyond_comm Ordering.gt p a = sym (beyond_none p)

beyond_lt : (o : Ordering) {q : Option Answer} {a : Answer} → q ≡ Some a → q ≡ beyond o q → o ≡ Ordering.lt
beyond_lt Ordering.lt p e = refl
beyond_lt Ordering.eq p e = some_none p e
beyond_lt Ordering.gt p e = some_none p e

-- `Shown x y`: an entry of the name x is listed as y
module _ (Shown : Bytes → Bytes → Type 0) where
  -- an entry of the name x may give the answer a
  abbrev pub Named : Bytes → Answer → Type 0
  Named x nothing = ⊥
  Named x (found r) = Shown x r.name
  Named x (refused k) = Unit {0}

  -- the table t begins with the name x, of which it has the answer a
  pub record Starts (t : Table) (x : Bytes) (a : Answer) : Type 0 where
    pub here : t x ≡ Some (compared a)
    pub named : Named x a
    pub before : (y : Bytes) → y ≺ x → t y ≡ None

  -- a step from the table t gives the answer a and leaves the table u
  pub data Does (t : Table) (a : Answer) (u : Table) : Type 0 where
    ends : a ≡ nothing → ((y : Bytes) → t y ≡ None) → ((y : Bytes) → u y ≡ None) → Does t a u
    hands : (x : Bytes) → Starts t x a → ((y : Bytes) → u y ≡ beyond (order x y) (t y)) → Does t a u

  pub record Both (a b : Answer) (t u : Table) : Type 0 where
    pub answers : compared a ≡ compared b
    pub tables : (y : Bytes) → t y ≡ u y

  -- two steps from equal tables give the same and leave equal tables
  pub same_step : {t t' u u' : Table} {a a' : Answer} → ((y : Bytes) → t y ≡ t' y) → Does t a u → Does t' a' u' → Both a a' u u'
  same_step e (ends p q r) (ends p' q' r') = record { answers = cc; tables = λ y. r y ∙ sym (r' y) }
  same_step e (ends p q r) (hands x h k) = some_none h.here (sym (e x) ∙ q x)
  same_step e (hands x h k) (ends p q r) = some_none h.here (e x ∙ q x)
  same_step {t} {t'} {u} {u'} {a} {a'} e (hands x h k) (hands x' h' k') = go (order x x') refl
    where
      go : (o : Ordering) → order x x' ≡ o → Both a a' u u'
      go Ordering.lt c = some_none h.here (e x ∙ h'.before x c)
      go Ordering.eq c = let d : x ≡ x' = order_eq x x' c in record { answers = cc (h.here, h'.here, e x); tables = λ y. cc (k y, k' y, e y) }
      go Ordering.gt c = some_none h'.here (sym (e x') ∙ h.before x' (order_flip x x' ∙ ap flip c))

  -- ---- what a listing rises by

  -- nothing of the table is left up to the bound
  abbrev pub Clear : Option Bytes → Table → Type 0
  Clear None t = Unit {0}
  Clear (Some b) t = (y : Bytes) → t y ≡ beyond (order b y) (t y)

  -- a bound on names, and what it was listed as
  pub data Bound : Option Bytes → Option Bytes → Type 0 where
    no_bound : Bound None None
    bound : {b y : Bytes} → Shown b y → Bound (Some b) (Some y)

  clear_kept : (b : Option Bytes) (t u : Table) (x : Bytes) → Clear b t → ((y : Bytes) → u y ≡ beyond (order x y) (t y)) → Clear b u
  clear_kept None t u x c k = tt
  clear_kept (Some b) t u x c k = λ y. k y ∙ ap (beyond (order x y)) (c y) ∙ beyond_comm (order x y) (order b y) (t y) ∙ ap (beyond (order b y)) (sym (k y))

  clear_new : (t u : Table) (x : Bytes) → ((y : Bytes) → u y ≡ beyond (order x y) (t y)) → Clear (Some x) u
  clear_new t u x k y = k y ∙ sym (beyond_twice (order x y) (t y)) ∙ ap (beyond (order x y)) (sym (k y))

  clear_empty : (b : Option Bytes) (t : Table) → ((y : Bytes) → t y ≡ None) → Clear b t
  clear_empty None t e = tt
  clear_empty (Some b) t e = λ y. rw (e y) (sym (beyond_none (order b y)))

  module _ (rise : (x x' y y' : Bytes) → Shown x y → Shown x' y' → x ≺ x' → y ≺ y') where
    higher : {b b' : Option Bytes} {t : Table} {x y : Bytes} {a : Answer} → Bound b b' → Clear b t → Starts t x a → Shown x y → Above b' y
    higher no_bound c h n = tt
    higher {x = x} {y = y} (bound {b = b} {y = z} m) c h n = rise b x z y m n (beyond_lt (order b x) h.here (c x))

    -- a step keeps to a bound, and its name is the next one
    pub rising_step : (a : Answer) (b b' : Option Bytes) (t u : Table) (l : List Answer) → Does t a u → Bound b b' → Clear b t
        → ((d d' : Option Bytes) → Bound d d' → Clear d u → Rising d' l) → Rising b' (a ∷ l)
    rising_step nothing b b' t u l (ends e f g) m c ih = ih b b' m (clear_empty b u g)
    rising_step nothing b b' t u l (hands x h k) m c ih = absurd h.named
    rising_step (refused n) b b' t u l (ends e f g) m c ih = absurd (let z : ◌≡◌ {A = ℕ} 0 1 = cc in omega arith)
    rising_step (refused n) b b' t u l (hands x h k) m c ih = ih b b' m (clear_kept b t u x c k)
    rising_step (found r) b b' t u l (ends e f g) m c ih = absurd (let z : ◌≡◌ {A = ℕ} 0 1 = cc in omega arith)
    rising_step (found r) b b' t u l (hands x h k) m c ih = (higher m c h h.named, ih (Some x) (Some r.name) (bound h.named) (clear_new t u x k))
