-- Rows 3 to 5 of the table: what is left of them after each check.
use mathlib.Core.Path.{◌≡◌, refl, sym}
use Prim.Native.Nat.{◌≤◌}
use mathlib.Core.Bool.{Bool, true, false, ◌&&◌}
use Rattle.std.specs.Prelude.{Option, None, Some}
use lib.ListN.{length, take}
use borrow.Author.Tests.{leb-true}
use Rattle.names.specs.Bytes.{Bytes}
use Rattle.names.specs.Check.{unless, ◌or_else◌, gives, checked}
use Rattle.names.specs.Name.{longest, fits}
use Rattle.names.specs.Category.{Category, full_of, to_full_name}
use Rattle.names.specs.Namespace.{expand, expansion, passes_if_given, names_check, expanded}
use Rattle.names.specs.WellFormed.{well_formed, complete}
use Rattle.names.specs.Means.{full_check, full_checked}
use Rattle.names.proofs.Tests.{none≢Some}
use Rattle.names.proofs.Held.{cut_fits}

-- the rows, in their order
pub rows : (name namespace : Option Bytes)
    → names_check name namespace
    ≡ (unless 3 (passes_if_given fits name && passes_if_given fits namespace)
    or_else unless 4 (passes_if_given well_formed name && passes_if_given well_formed namespace)
    or_else unless 5 (fits (expansion namespace)))
unfolding names_check
rows name namespace = refl

-- nothing is asked where nothing is given
pub names_none : names_check None None ≡ None
unfolding names_check
names_none = refl

pub expanded_is : (s : Bytes) → expanded s ≡ checked (names_check None (Some s)) (expand s)
unfolding expanded
expanded_is s = refl

pub full_checked_is : (s : Bytes) → full_checked s ≡ checked (full_check s) s
unfolding full_checked
full_checked_is s = refl

-- a namespace that passes has an expansion that is no longer than a name
pub expansion_fits : (namespace : Option Bytes) → names_check None namespace ≡ None → length (expansion namespace) ≤ longest
unfolding names_check
expansion_fits namespace h = go (passes_if_given fits namespace) (passes_if_given well_formed namespace) (fits (expansion namespace)) (leb-true _ _) h
  where
    go : (x y z : Bool) → (z ≡ true → length (expansion namespace) ≤ longest) → (unless 3 (true && x) or_else unless 4 (true && y) or_else unless 5 z) ≡ None → length (expansion namespace) ≤ longest
    go true true true f r = f refl
    go true true false f r = absurd (none≢Some (sym r))
    go true false z f r = absurd (none≢Some (sym r))
    go false y z f r = absurd (none≢Some (sym r))

-- a namespace is checked as a partial name is, and then for its expansion
pub namespace_rows : (s : Bytes) → names_check None (Some s) ≡ (names_check (Some s) None or_else unless 5 (fits (expand s)))
unfolding names_check
namespace_rows s = go (fits s) (well_formed s)
  where
    go : (f w : Bool)
        → (unless 3 (true && f) or_else unless 4 (true && w) or_else unless 5 (fits (expand s)))
        ≡ ((unless 3 (f && true) or_else unless 4 (w && true) or_else None) or_else unless 5 (fits (expand s)))
    go true true = refl
    go true false = refl
    go false w = refl

-- a short name that fits is refused as its full name is
pub to_full_checked : (c : Category) (s : Bytes) → fits s ≡ true → to_full_name c s ≡ full_checked (full_of c s)
unfolding to_full_name full_checked
to_full_checked c s h = rw h

-- what was not refused fits
pub partial_fits : (s : Bytes) → None ≡ names_check (Some s) None → fits s ≡ true
unfolding names_check
partial_fits s e = go (fits s) e
  where
    go : (f : Bool) → None ≡ (unless 3 (f && true) or_else unless 4 (well_formed s && true) or_else None) → f ≡ true
    go true h = refl
    go false h = none≢Some h

pub full_fits : (s : Bytes) → None ≡ full_check s → fits s ≡ true
full_fits s e = go (fits s) e
  where
    go : (f : Bool) → None ≡ (unless 3 f or_else unless 4 (complete s)) → f ≡ true
    go true h = refl
    go false h = none≢Some h

-- a name of what was not refused
pub cut_partial : (s t : Bytes) → None ≡ names_check (Some s) None → t ≡ take longest s → gives t ≡ checked (names_check (Some s) None) s
cut_partial s t e h = rw (← e, cut_fits s t (partial_fits s e) h)

pub cut_full : (s t : Bytes) → None ≡ full_check s → t ≡ take longest s → gives t ≡ full_checked s
unfolding full_checked
cut_full s t e h = rw (← e, cut_fits s t (full_fits s e) h)
