-- Demand 3, and the same in a namespace, proved: the claims of specs/Demand3.
use mathlib.Core.Path.{◌≡◌}
use Prim.Native.Nat.{ℕ}
use mathlib.Core.List.{[]}
use Rattle.std.specs.Prelude.{Option, None, Some}
use Rattle.names.specs.Bytes.{Bytes}
use Rattle.names.specs.Check.{Check, ◌or_else◌, gives, checked}
use Rattle.names.specs.Namespace.{expansion, names_check}
use Rattle.names.proofs.Rows.{names_none}
use Rattle.blocks.specs.Snapshot.{Snapshot, size_check, Fit}
use Rattle.refs.specs.Run.{start, open_listing, run_opened, answers_of}
use Rattle.refs.proofs.Clauses.{open_is, listing_is}
use Rattle.claims.specs.Compared.{Rising}
use Rattle.claims.specs.Demand3.{ListingCut, FollowingCut, NamesRise, Demand3, CutsInside}
use Rattle.claims.proofs.Runs.{names_rise}
use Rattle.claims.proofs.Views.{Without, without_rise, scope_honest}
use Rattle.claims.proofs.Namespaced.{listing_in, following_in}
use Rattle.claims.proofs.Premises.{store_cut}

-- the opening passes on a snapshot fit for search
pub opens : (width : ℕ) (s : Snapshot) → Fit width s → open_listing s None ≡ gives (start [])
opens width s h = rw (open_is s None, h.sizes, names_none)

pub listing_cut : (namespace : Option Bytes) → ListingCut namespace
listing_cut namespace width s t c = listing_in width s t c.fit c.fit' namespace (store_cut width namespace s t c)

pub following_cut : (namespace : Option Bytes) → FollowingCut namespace
following_cut namespace width s t c = following_in width s t c.fit c.fit' namespace (store_cut width namespace s t c)

pub names_rise_strictly : NamesRise
names_rise_strictly width s h namespace n = rw (listing_is s namespace width n) (go (size_check s or_else names_check None namespace))
  where
    go : (k : Check) → Rising None (answers_of (run_opened width s n (checked k (start (expansion namespace)))))
    go None = names_rise width (expansion namespace) (Without (expansion namespace)) (scope_honest width (expansion namespace)) (without_rise (expansion namespace)) s h n
    go (Some k) = tt

pub demand_3 : Demand3
demand_3 = record { listing = listing_cut None; following = following_cut None; rising = names_rise_strictly }

pub cuts_inside : CutsInside
cuts_inside = record { listing = λ m. listing_cut (Some m); following = λ m. following_cut (Some m) }
