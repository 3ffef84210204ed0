-- The names seen, in an array of which the first n count; and following by them.
use mathlib.Core.Path.{◌≡◌, refl, sym, ap, ◌∙◌}
use Prim.Native.Nat.{ℕ, zero, suc, ◌+◌, ◌-◌, ◌≤◌, ◌<◌}
use native.Mathlib.Numerals.{add-one}
use native.Mathlib.Omega.{arith}
use mathlib.Core.List.{List, [], ◌∷◌, ◌++◌, map, map-append}
use mathlib.Core.Bool.{Bool, true, false, ◌||◌}
use lib.ListN.{length, take, set}
use lib.Seq.{take-suc-set}
use Rattle.std.specs.Prelude.{nat_eq}
use Rattle.std.specs.List.{list_any}
use Rattle.std.specs.Cmp.Lexicographic.{pointwise}
use Rattle.names.specs.Bytes.{Bytes, same}
use Rattle.names.specs.Means.{content}
use Rattle.names.specs.declared.name.Name.{Name}
use Rattle.names.proofs.Slices.{same_is}
use Rattle.blocks.specs.Content.{Target, object, symbolic}
use Rattle.blocks.specs.Snapshot.{Snapshot, Store, store}
use Rattle.blocks.specs.Means.{id_width}
use Rattle.refs.specs.Answer.{Reference, Answer, nothing, found, refused}
use Rattle.refs.specs.Search.{search}
use Rattle.refs.specs.Follow.{Followed, not_there, reached, stopped, barred, on_target, on_answer, max_ref_depth, among, follow_from, following}

-- ---- the array

-- a name is one of those in a list
pub contains_among : (x : Name) (l : List Name) → list_any (λ y. pointwise nat_eq (content y) (content x)) l ≡ among (content x) (map content l)
unfolding among
contains_among x [] = refl
contains_among x (y ∷ l) = rw (same_is (content y) (content x), contains_among x l)

-- one more name is stored
pub stored : (l : List Name) (n : ℕ) (x : Name) → n < length l → map content (take (n + 1) (set l n x)) ≡ map content (take n l) ++ (content x ∷ [])
stored l n x h = rw (add-one, take-suc-set l n x h) (map-append content (take n l) (x ∷ []))

-- ---- following depends on which names were seen, not on their order

or_swap : (a b c : Bool) → (a || (b || c)) ≡ (b || (a || c))
or_swap true true c = refl
or_swap true false c = refl
or_swap false true c = refl
or_swap false false c = refl

-- a name seen last counts as one seen first
pub among_snoc : (x y : Bytes) (l : List Bytes) → among x (l ++ (y ∷ [])) ≡ among x (y ∷ l)
unfolding among
among_snoc x y [] = refl
among_snoc x y (m ∷ l) = ap (λ (b : Bool). same m x || b) (among_snoc x y l) ∙ or_swap (same m x) (same y x) (among x l)

among_more : (n x : Bytes) (l m : List Bytes) → among x l ≡ among x m → among x (n ∷ l) ≡ among x (n ∷ m)
unfolding among
among_more n x l m h = ap (λ (b : Bool). same n x || b) h

module _ (width : ℕ) (e : Bytes) (s : Store) where
  abbrev Alike : ℕ → Type 0
  Alike k = (l m : List Bytes) → ((x : Bytes) → among x l ≡ among x m) → (r : Reference) → follow_from width e s k l r ≡ follow_from width e s k m r

  next_alike : (k : ℕ) → Alike k → (l m : List Bytes) → ((x : Bytes) → among x l ≡ among x m) → (r : Reference) (a : Answer)
      → on_answer l r a (λ x. follow_from width e s k (x.name ∷ l) x) ≡ on_answer m r a (λ x. follow_from width e s k (x.name ∷ m) x)
  next_alike k ih l m h r nothing = refl
  next_alike k ih l m h r (refused j) = refl
  next_alike k ih l m h r (found x) = rw (h x.name, ih (x.name ∷ l) (x.name ∷ m) (λ y. among_more x.name y l m (h y)) x)

  target_alike : (k : ℕ) → Alike k → (l m : List Bytes) → ((x : Bytes) → among x l ≡ among x m) → (r : Reference) (t : Target)
      → on_target r t (λ t. on_answer l r (search width e s t).answer (λ x. follow_from width e s k (x.name ∷ l) x)) ≡ on_target r t (λ t. on_answer m r (search width e s t).answer (λ x. follow_from width e s k (x.name ∷ m) x))
  target_alike k ih l m h r (object id) = refl
  target_alike k ih l m h r (symbolic t) = next_alike k ih l m h r (search width e s t).answer

  pub follow_alike : (k : ℕ) → Alike k
  unfolding follow_from
  follow_alike zero l m h r = refl
  follow_alike (suc k) l m h r = target_alike k (follow_alike k) l m h r r.target

-- ---- the turns of following

module _ (e : Bytes) (s : Snapshot) where
  -- following after n names
  abbrev pub after_names : ℕ → List Bytes → Reference → Followed
  after_names n seen r = follow_from id_width e (store id_width s) (max_ref_depth - n) seen r

  module _ (n : ℕ) (h : n < max_ref_depth) (seen : List Bytes) (r : Reference) where
    -- from the next reference on
    abbrev goes : Reference → Followed
    goes x = after_names (n + 1) (x.name ∷ seen) x

    turned : after_names n seen r ≡ on_target r r.target (λ t. on_answer seen r (search id_width e (store id_width s) t).answer goes)
    unfolding follow_from
    turned = let k : max_ref_depth - n ≡ suc (max_ref_depth - (n + 1)) = omega arith in rw k

    pub object_ends : (id : Bytes) → r.target ≡ object id → reached id r ≡ after_names n seen r
    object_ends id g = sym (turned ∙ rw g)

    module _ (t : Bytes) (g : r.target ≡ symbolic t) (a : Answer) (q : a ≡ (search id_width e (store id_width s) t).answer) where
      searched : after_names n seen r ≡ on_answer seen r a goes
      searched = turned ∙ rw (g, ← q)

      pub not_found_ends : a ≡ nothing → stopped 13 r ≡ after_names n seen r
      not_found_ends k = sym (searched ∙ rw k)

      pub refused_ends : (k : ℕ) → a ≡ refused k → barred k ≡ after_names n seen r
      refused_ends k f = sym (searched ∙ rw f)

      module _ (x : Reference) (k : a ≡ found x) where
        pub cycle_ends : among x.name seen ≡ true → stopped 14 r ≡ after_names n seen r
        cycle_ends m = sym (searched ∙ rw (k, m))

        -- the next name goes to the end of those seen
        pub goes_on : among x.name seen ≡ false → after_names n seen r ≡ after_names (n + 1) (seen ++ (x.name ∷ [])) x
        goes_on m =
            searched
            ∙ rw (k, m)
            (follow_alike id_width e (store id_width s) (max_ref_depth - (n + 1)) (x.name ∷ seen) (seen ++ (x.name ∷ []))
            (λ y. sym (among_snoc y x.name seen)) x)

  pub depth_reached : (n : ℕ) → max_ref_depth ≤ n → (seen : List Bytes) (r : Reference) → stopped 15 r ≡ after_names n seen r
  unfolding follow_from
  depth_reached n h seen r = let k : max_ref_depth - n ≡ 0 = omega arith in rw k

  -- ---- the first search

  module _ (x : Bytes) (a : Answer) (h : a ≡ (search id_width e (store id_width s) x).answer) where
    pub starts_nowhere : a ≡ nothing → not_there ≡ following id_width e (store id_width s) x
    unfolding following
    starts_nowhere k = rw (← h, k)

    pub starts_refused : (k : ℕ) → a ≡ refused k → barred k ≡ following id_width e (store id_width s) x
    unfolding following
    starts_refused j k = rw (← h, k)

    pub starts_found : (r : Reference) → a ≡ found r → follow_from id_width e (store id_width s) max_ref_depth [] r ≡ following id_width e (store id_width s) x
    unfolding following
    starts_found r k = rw (← h, k)
