-- Premises on a snapshot that is written out: each is a test over the names that its blocks bear.
use Rattle.std.specs.Prelude.{if◌then◌else◌}
use mathlib.Core.Path.{◌≡◌, refl, sym, subst, ◌∙◌}
use mathlib.Core.Logic.{◌⊎◌, inl}
use mathlib.Core.List.{List, [], ◌∷◌, ◌++◌}
use mathlib.Core.Bool.{Bool, true, false, ◌&&◌, ◌||◌, not}
use Rattle.std.specs.Prelude.{Option, None, Some}
use Rattle.std.proofs.lemmas.Bool.{or_parts}
use Rattle.names.specs.Bytes.{Bytes, same, starts_with}
use Rattle.names.specs.Name.{directory}
use Rattle.names.specs.Namespace.{expand}
use borrow.Author.Tests.{not-true}
use Rattle.names.proofs.Tests.{and_left, and_right, or_eq, not_both}
use Rattle.names.proofs.Orders.{same_eq}
use Rattle.blocks.specs.Block.{block_name}
use Rattle.blocks.specs.Entry.{blocks}
use Rattle.blocks.specs.Snapshot.{Snapshot, or_empty}
use Rattle.refs.specs.Follow.{among}
use Rattle.refs.proofs.Clauses.{among_none, among_next}
use Rattle.claims.specs.Demand3.{is_named, held_by, bearing, held_in, some_held, is_held, Flat, Once, Agree}

-- ---- lists of names

unfoldable pub all_of : (Bytes → Bool) → List Bytes → Bool
all_of f [] = true
all_of f (n ∷ l) = f n && all_of f l

abbrev pub AllOf : (Bytes → Type 0) → List Bytes → Type 0
AllOf P [] = Unit {0}
AllOf P (n ∷ l) = P n × AllOf P l

among_append : (n : Bytes) (l m : List Bytes) → among n (l ++ m) ≡ (among n l || among n m)
among_append n [] m = rw (among_none n)
among_append n (x ∷ l) m = rw (among_next n x (l ++ m), among_next n x l) (go (same x n) (among_append n l m))
  where
    go : (b : Bool) → among n (l ++ m) ≡ (among n l || among n m) → (b || among n (l ++ m)) ≡ (b || among n l || among n m)
    go true h = refl
    go false h = h

-- what passes for all of a list passes for each of it
pub of_all : (f : Bytes → Bool) (l : List Bytes) → all_of f l ≡ true → (n : Bytes) → among n l ≡ true → f n ≡ true
unfolding all_of
of_all f [] h n a = not_both a (among_none n)
of_all f (m ∷ l) h n a =
    or_eq (same m n) _ (sym (among_next n m l) ∙ a) (λ q. subst (λ (x : Bytes). f x ≡ true) (same_eq m n q) (and_left (f m) _ h)) (of_all f l (and_right (f m) _ h) n)

pub of_each : (P : Bytes → Type 0) (l : List Bytes) → AllOf P l → (n : Bytes) → among n l ≡ true → P n
of_each P [] h n a = not_both a (among_none n)
of_each P (m ∷ l) h n a = or_eq (same m n) _ (sym (among_next n m l) ∙ a) (λ q. subst P (same_eq m n q) h.0) (of_each P l h.1 n)

-- ---- the names that blocks bear

unfoldable pub names_in : List Bytes → List Bytes
names_in [] = []
names_in (b ∷ l) = if is_named b then block_name b ∷ names_in l else names_in l

unfoldable pub names_of : Snapshot → List Bytes
names_of s = names_in (blocks s.worktree) ++ (names_in (blocks (or_empty s.common)) ++ names_in (blocks s.packed))

bearing_none : (n : Bytes) (l : List Bytes) → among n (names_in l) ≡ false → bearing n l ≡ []
unfolding names_in bearing
bearing_none n [] h = refl
bearing_none n (b ∷ l) h = go (is_named b) h (bearing_none n l)
  where
    go : (k : Bool) → among n (if k then block_name b ∷ names_in l else names_in l) ≡ false → (among n (names_in l) ≡ false → bearing n l ≡ [])
        → (if k && same (block_name b) n then held_by b ∷ bearing n l else bearing n l) ≡ []
    go false h ih = ih h
    go true h ih = let f = or_parts (same (block_name b) n) _ (sym (among_next n (block_name b) (names_in l)) ∙ h) in rw f.0 (ih f.1)

pub among_bearing : (n : Bytes) (l : List Bytes) → some_held (bearing n l) ≡ true → among n (names_in l) ≡ true
among_bearing n l h = go (among n (names_in l)) refl
  where
    go : (b : Bool) → among n (names_in l) ≡ b → b ≡ true
    go true e = refl
    go false e = not_both h (rw (bearing_none n l e) refl)

-- a name that no block bears
record Absent (s : Snapshot) (n : Bytes) : Type 0 where
  in_worktree : held_in s.worktree n ≡ []
  in_common : held_in (or_empty s.common) n ≡ []
  in_packed : held_in s.packed n ≡ []

absent : (s : Snapshot) (n : Bytes) → among n (names_of s) ≡ false → Absent s n
unfolding names_of
absent s n h =
    let w = names_in (blocks s.worktree) in
    let c = names_in (blocks (or_empty s.common)) in
    let p = names_in (blocks s.packed) in
    let f = or_parts (among n w) _ (sym (among_append n w (c ++ p)) ∙ h) in
    let g = or_parts (among n c) _ (sym (among_append n c p) ∙ f.1) in
    record { in_worktree = bearing_none n _ f.0; in_common = bearing_none n _ g.0; in_packed = bearing_none n _ g.1 }

held_among : (s : Snapshot) (n : Bytes) → is_held s n ≡ true → among n (names_of s) ≡ true
unfolding is_held
held_among s n h = go (among n (names_of s)) refl
  where
    go : (b : Bool) → among n (names_of s) ≡ b → b ≡ true
    go true e = refl
    go false e = let a = absent s n e in not_both h (rw (a.in_worktree, a.in_common, a.in_packed))

-- ---- the tests

-- no name of a list is a directory of another
unfoldable pub flat_names : List Bytes → Bool
flat_names l = all_of (λ m. all_of (λ n. not (directory m n)) l) l

pub flat_by : (s : Snapshot) → flat_names (names_of s) ≡ true → Flat s
unfolding flat_names
flat_by s h m n p q =
    not-true (directory m n) (of_all (λ n. not (directory m n)) (names_of s) (of_all (λ m. all_of (λ n. not (directory m n)) (names_of s)) (names_of s) h m (held_among s m p)) n (held_among s n q))

-- no name of a list begins with the namespace's expansion twice over
unfoldable pub once_names : Option Bytes → List Bytes → Bool
once_names None l = true
once_names (Some m) l = all_of (λ n. not (starts_with (expand m ++ expand m) n)) l

pub once_by : (namespace : Option Bytes) (s : Snapshot) → once_names namespace (names_of s) ≡ true → Once namespace s
unfolding once_names
once_by None s h = tt
once_by (Some m) s h = λ n p. not-true (starts_with (expand m ++ expand m) n) (of_all (λ n. not (starts_with (expand m ++ expand m) n)) (names_of s) h n (held_among s n p))

-- a list has all names of both snapshots
unfoldable pub covers : List Bytes → Snapshot → Snapshot → Bool
covers l s t = all_of (λ n. among n l) (names_of s ++ names_of t)

-- what no block bears agrees, so it is enough to look at the names of a list
pub each_by : (s t : Snapshot) (P : Bytes → Type 0) (l : List Bytes) → covers l s t ≡ true → AllOf (λ n. Agree s t n ⊎ P n) l → (n : Bytes) → Agree s t n ⊎ P n
unfolding covers
each_by s t P l h each n = go (among n l) refl
  where
    out : (b : Bool) → among n (names_of s ++ names_of t) ≡ b → among n l ≡ false → b ≡ false
    out true e f = not_both (of_all (λ n. among n l) (names_of s ++ names_of t) h n e) f
    out false e f = refl

    go : (b : Bool) → among n l ≡ b → Agree s t n ⊎ P n
    go true e = of_each (λ n. Agree s t n ⊎ P n) l each n e
    go false e =
        let f = or_parts (among n (names_of s)) _ (sym (among_append n (names_of s) (names_of t)) ∙ out _ refl e) in
        let a = absent s n f.0 in
        let b = absent t n f.1 in
        inl (record { in_worktree = a.in_worktree ∙ sym b.in_worktree; in_common = a.in_common ∙ sym b.in_common; in_packed = a.in_packed ∙ sym b.in_packed })
