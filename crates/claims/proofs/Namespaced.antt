-- The claims on listing and following, with or without a namespace, from the premises on entries.
use mathlib.Core.Path.{◌≡◌, refl, sym, ◌∙◌}
use Prim.Native.Nat.{ℕ}
use mathlib.Core.List.{[], ◌∷◌}
use Rattle.std.specs.Prelude.{Option, None, Some}
use Rattle.names.specs.Bytes.{Bytes}
use Rattle.names.specs.Check.{Check, checked}
use Rattle.names.proofs.Prefix.{starts_append}
use Rattle.names.specs.Namespace.{expansion, names_check}
use Rattle.blocks.specs.Snapshot.{Snapshot, store, Fit}
use Rattle.refs.specs.Search.{after_checks}
use Rattle.refs.specs.Follow.{following, follow}
use Rattle.refs.specs.View.{scope}
use Rattle.refs.specs.Run.{start, run, run_opened, listing}
use Rattle.refs.proofs.Clauses.{follow_is, listing_is}
use Rattle.claims.specs.Compared.{handed_out, outcome}
use Rattle.claims.proofs.Runs.{SameRuns, same_runs}
use Rattle.claims.proofs.Views.{Without, scope_honest}
use Rattle.claims.proofs.StoreCut.{StoreCut}
use Rattle.claims.proofs.ListingCut.{opens, same_opens}
use Rattle.claims.proofs.FollowingCut.{same_following}

module _ (width : ℕ) (s t : Snapshot) (fit : Fit width s) (fit' : Fit width t) where
  -- behind an expansion that is not empty, a name is shown loose where it is shown packed
  opens_in : (e : Bytes) → StoreCut width e (store width s) (store width t) → (n : Bytes) → opens width (scope e) (store width s) n ≡ opens width (scope e) (store width t) n
  opens_in [] c = same_opens width (scope []) [] (store width s) (store width t) c.same_common c.records c.records' (λ m d. d.under ∙ sym (starts_append [] m)) c.each
  opens_in (b ∷ e) c = same_opens width (scope (b ∷ e)) (b ∷ e) (store width s) (store width t) c.same_common c.records c.records' (λ m d. refl) c.each

  module _ (namespace : Option Bytes) (c : StoreCut width (expansion namespace) (store width s) (store width t)) where
    abbrev e : Bytes
    e = expansion namespace

    pub listing_in : (n : ℕ) → handed_out (listing width s namespace n) ≡ handed_out (listing width t namespace n)
    listing_in n = rw (listing_is s namespace width n, listing_is t namespace width n, fit.sizes, fit'.sizes) (go (names_check None namespace))
      where
        r : SameRuns width e (Without e) (scope_honest width e) (run width s n (start e)) (run width t n (start e))
        r = same_runs width e (Without e) (scope_honest width e) s t fit fit' n (start e) (start e) refl refl refl (opens_in e c)

        go : (k : Check) → handed_out (run_opened width s n (checked k (start e))) ≡ handed_out (run_opened width t n (checked k (start e)))
        go None = rw (r.answers, r.ended)
        go (Some k) = refl

    pub following_in : (x : Bytes) → outcome (follow width s x namespace) ≡ outcome (follow width t x namespace)
    following_in x = rw (follow_is width s x namespace, follow_is width t x namespace, fit.sizes, fit'.sizes, fit.flawless, fit'.flawless) (go (names_check (Some x) namespace))
      where
        go : (k : Check) → outcome (after_checks k None (following width e (store width s) x)) ≡ outcome (after_checks k None (following width e (store width t) x))
        go None = same_following width e (store width s) (store width t) c x
        go (Some k) = refl
