-- Where a name is read, loose and packed: the six ways, and what follows for shared names under refs/.
use Rattle.std.specs.Prelude.{if◌then◌else◌}
use mathlib.Core.Path.{◌≡◌, refl, ap}
use Prim.Native.Nat.{ℕ, ◌+◌}
use mathlib.Core.List.{[], ◌∷◌, ◌++◌}
use mathlib.Core.Bool.{Bool, true, false, false≢true}
use Rattle.std.specs.Prelude.{Option, None, Some}
use Rattle.std.specs.Option.{option_map}
use mathlib.Core.Logic.{◌⊎◌, inl, inr}
use lib.Dec.{eqb}
use lib.ListN.{drop}
use Rattle.std.proofs.lemmas.Bool.{false_from_ne_true}
use Rattle.names.specs.Bytes.{Bytes, bytes, starts_with, every}
use Rattle.names.specs.Name.{is_pseudo, under_refs}
use Rattle.names.specs.Category.{Category, Tag, LocalBranch, RemoteBranch, Note, Bisect, PseudoRef, MainPseudoRef, MainRef, LinkedRef, LinkedPseudoRef, WorktreePrivate, Rewritten, Class, first_slash, classify_below, classify_linked, classify, named, category_and_short_name, category_in, off_in, category, short_name, private_category, is_private}
use Rattle.names.specs.Namespace.{expand}
use Rattle.names.specs.Route.{own, shared, Place, at, route_as, route, packed_as, packed_name}
use Rattle.names.proofs.Tests.{if_case, not_both, and_left}
use Rattle.names.proofs.Prefix.{other_start}

-- the name begins with the byte r: it is not below main-worktree/ or worktrees/
abbrev pub begins_r : Bytes → Bool
begins_r n = starts_with (bytes "r") n

pub refs_begins_r : (n : Bytes) → under_refs n ≡ true → begins_r n ≡ true
unfolding starts_with
refs_begins_r [] h = absurd (false≢true h)
refs_begins_r (b ∷ n) h = rw (and_left (eqb 114 b) _ h)

-- ---- what a category says of the name and the short name

abbrev Facts : Option Category → Bytes → Bytes → Type 0
Facts None c sn = Unit {0}
Facts (Some Tag) c sn = Unit {0}
Facts (Some LocalBranch) c sn = Unit {0}
Facts (Some RemoteBranch) c sn = Unit {0}
Facts (Some Note) c sn = Unit {0}
Facts (Some Bisect) c sn = Unit {0}
Facts (Some WorktreePrivate) c sn = Unit {0}
Facts (Some Rewritten) c sn = Unit {0}
Facts (Some PseudoRef) c sn = Unit {0}
Facts (Some MainPseudoRef) c sn = (begins_r c ≡ false) × (under_refs sn ≡ false)
Facts (Some MainRef) c sn = begins_r c ≡ false
Facts (Some (LinkedPseudoRef w)) c sn = begins_r c ≡ false
Facts (Some (LinkedRef w)) c sn = begins_r c ≡ false

abbrev FactsOf : Bytes → Option Class → Type 0
FactsOf c o = Facts (category_in o) c (drop (off_in o) c)

facts_main : (c : Bytes) → begins_r c ≡ false → FactsOf c (classify_below MainRef MainPseudoRef 14 (drop 14 c))
unfolding classify_below
facts_main c h =
    if_case (FactsOf c) (under_refs (drop 14 c)) (λ _. h) (λ u. if_case (FactsOf c) (is_pseudo (drop 14 c)) (λ _. (h, u)) (λ _. tt))

facts_linked : (c : Bytes) → begins_r c ≡ false → (i : Option ℕ) → FactsOf c (classify_linked (drop 10 c) i)
unfolding classify_below classify_linked
facts_linked c h None = tt
facts_linked c h (Some i) =
    if_case (FactsOf c) (under_refs (drop (i + 1) (drop 10 c))) (λ _. h) (λ _. if_case (FactsOf c) (is_pseudo (drop (i + 1) (drop 10 c))) (λ _. h) (λ _. tt))

facts_class : (c : Bytes) → FactsOf c (classify c)
unfolding classify
facts_class c =
    if_case F (starts_with (bytes "refs/tags/") c) (λ _. tt) (λ _.
    if_case F (starts_with (bytes "refs/heads/") c) (λ _. tt) (λ _.
    if_case F (starts_with (bytes "refs/remotes/") c) (λ _. tt) (λ _.
    if_case F (starts_with (bytes "refs/notes/") c) (λ _. tt) (λ _.
    if_case F (starts_with (bytes "refs/bisect/") c) (λ _. tt) (λ _.
    if_case F (starts_with (bytes "refs/worktree/") c) (λ _. tt) (λ _.
    if_case F (starts_with (bytes "refs/rewritten/") c) (λ _. tt) (λ _.
    if_case F (is_pseudo c) (λ _. tt) (λ _.
    if_case F (starts_with (bytes "main-worktree/") c) (λ h. facts_main c (other_start 109 114 _ _ c refl h)) (λ _.
    if_case F (starts_with (bytes "worktrees/") c) (λ h. facts_linked c (other_start 119 114 _ _ c refl h) (first_slash (drop 10 c))) (λ _.
    tt))))))))))
  where
    F : Option Class → Type 0
    F o = FactsOf c o

facts : (c : Bytes) → Facts (category c) c (short_name c)
unfolding category short_name
facts c = facts_class c

-- ---- the six ways

pub data Placed (c : Bytes) : Place → Option Bytes → Type 0 where
  itself : Placed c (at shared c) (Some c)
  below : {n : Bytes} → begins_r c ≡ false → Placed c (at shared n) (Some n)
  own_packed : is_private c ≡ true → Placed c (at own c) (Some c)
  own_only : is_private c ≡ true → Placed c (at own c) None
  apart_packed : {q : Bytes} → begins_r c ≡ false → is_private q ≡ true → Placed c (at shared c) (Some q)
  apart : {p : Bytes} → begins_r c ≡ false → under_refs p ≡ false → Placed c (at shared p) None

not_r : (c : Bytes) → begins_r c ≡ false → under_refs c ≡ false
not_r c h = false_from_ne_true (under_refs c) (λ e. not_both (refs_begins_r c e) h)

placed_linked : (c sn : Bytes) → begins_r c ≡ false → (b : Bool) → is_private sn ≡ b → Placed c (at shared (if b then c else sn)) (Some sn)
placed_linked c sn h true e = apart_packed h e
placed_linked c sn h false e = below h

placed_as : (k : Option Category) (c sn : Bytes) → Facts k c sn → category c ≡ k → Placed c (route_as k c sn) (packed_as k c sn)
unfolding route_as packed_as is_private
placed_as None c sn f e = itself
placed_as (Some Tag) c sn f e = itself
placed_as (Some LocalBranch) c sn f e = itself
placed_as (Some RemoteBranch) c sn f e = itself
placed_as (Some Note) c sn f e = itself
placed_as (Some Bisect) c sn f e = own_packed (ap private_category e)
placed_as (Some WorktreePrivate) c sn f e = own_only (ap private_category e)
placed_as (Some Rewritten) c sn f e = own_packed (ap private_category e)
placed_as (Some PseudoRef) c sn f e = own_only (ap private_category e)
placed_as (Some MainPseudoRef) c sn f e = apart f.0 f.1
placed_as (Some MainRef) c sn f e = below f
placed_as (Some (LinkedPseudoRef w)) c sn f e = apart f (not_r c f)
placed_as (Some (LinkedRef w)) c sn f e = placed_linked c sn f (is_private sn) refl

pub placed : (c : Bytes) → Placed c (route c) (packed_name c)
unfolding route packed_name
placed c = placed_as (category c) c (short_name c) (facts c) refl

-- ---- what follows

module _ {c : Bytes} where
  -- a name that begins with r is its own path
  pub placed_own : {pl : Place} {q : Option Bytes} → Placed c pl q → begins_r c ≡ true → pl.path ≡ c
  placed_own itself u = refl
  placed_own (below h) u = not_both u h
  placed_own (own_packed h) u = refl
  placed_own (own_only h) u = refl
  placed_own (apart_packed h _) u = not_both u h
  placed_own (apart h _) u = not_both u h

  -- a name whose path is a shared name under refs/ is read in the shared region, and sought packed under that path
  pub placed_path : {pl : Place} {q : Option Bytes} → Placed c pl q → under_refs pl.path ≡ true → is_private pl.path ≡ false → (pl.base ≡ shared) × (q ≡ Some pl.path)
  placed_path itself u v = (refl, refl)
  placed_path (below h) u v = (refl, refl)
  placed_path (own_packed h) u v = not_both h v
  placed_path (own_only h) u v = not_both h v
  placed_path (apart_packed h _) u v = not_both (refs_begins_r c u) h
  placed_path (apart _ h) u v = not_both u h

  -- a name whose path is under refs/ is sought packed under that path, or not at all
  pub placed_under : {pl : Place} {q : Option Bytes} → Placed c pl q → under_refs pl.path ≡ true → (q ≡ Some pl.path) ⊎ (q ≡ None)
  placed_under itself u = inl refl
  placed_under (below h) u = inl refl
  placed_under (own_packed h) u = inl refl
  placed_under (own_only h) u = inr refl
  placed_under (apart_packed h _) u = not_both (refs_begins_r c u) h
  placed_under (apart _ h) u = not_both u h

  -- a name sought packed under a shared name has that name for its path
  pub placed_packed : {pl : Place} {q : Option Bytes} (n : Bytes) → Placed c pl q → q ≡ Some n → is_private n ≡ false → pl.path ≡ n
  placed_packed n itself e v = cc
  placed_packed n (below h) e v = cc
  placed_packed n (own_packed h) e v = cc
  placed_packed n (own_only h) e v = cc
  placed_packed n (apart_packed {q = q} _ h) e v = let d : q ≡ n = cc in not_both (rw d at h) v
  placed_packed n (apart _ h) e v = cc

-- ---- by the category and the short name together

-- the short name, which is the whole name where there is no category
abbrev short_in : Bytes → Option (Category × Bytes) → Bytes
short_in s None = s
short_in s (Some p) = p.1

module _ (s : Bytes) where
  category_in_class : (o : Option Class) → category_in o ≡ option_map (λ (p : Category × Bytes). p.0) (option_map (named s) o)
  category_in_class None = refl
  category_in_class (Some k) = refl

  short_in_class : (o : Option Class) → drop (off_in o) s ≡ short_in s (option_map (named s) o)
  short_in_class None = refl
  short_in_class (Some k) = refl

  pub category_is : category s ≡ option_map (λ (p : Category × Bytes). p.0) (category_and_short_name s)
  unfolding category category_and_short_name
  category_is = category_in_class (classify s)

  pub short_is : short_name s ≡ short_in s (category_and_short_name s)
  unfolding short_name category_and_short_name
  short_is = short_in_class (classify s)

  module _ (c : Category) (t : Bytes) (e : Some (c, t) ≡ category_and_short_name s) where
    pub private_class : is_private s ≡ private_category (Some c)
    unfolding is_private
    private_class = rw (category_is, ← e)

    pub short_class : short_name s ≡ t
    short_class = rw (short_is, ← e)

    pub route_class : route s ≡ route_as (Some c) s t
    unfolding route
    route_class = rw (category_is, short_is, ← e)

    pub packed_class : packed_name s ≡ packed_as (Some c) s t
    unfolding packed_name
    packed_class = rw (category_is, short_is, ← e)

  module _ (e : None ≡ category_and_short_name s) where
    pub private_none : is_private s ≡ false
    unfolding is_private
    private_none = rw (category_is, ← e)

    pub short_none : short_name s ≡ s
    short_none = rw (short_is, ← e)

    pub route_none : route s ≡ at shared s
    unfolding route route_as
    route_none = rw (category_is, short_is, ← e)

    pub packed_none : packed_name s ≡ Some s
    unfolding packed_name packed_as
    packed_none = rw (category_is, short_is, ← e)

-- ---- behind a namespace's expansion

-- every name is shared
pub expansion_shared : (m n : Bytes) → is_private (expand m ++ n) ≡ false
unfolding is_private category classify expand starts_with is_pseudo every
expansion_shared m n = refl

pub expansion_begins_r : (m : Bytes) → begins_r (expand m) ≡ true
unfolding expand starts_with
expansion_begins_r m = refl
