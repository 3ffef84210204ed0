-- The candidates of a name of each sort, by computation.
use mathlib.Core.Path.{◌≡◌, refl}
use Prim.Native.String.{String}
use mathlib.Core.List.{List, [], ◌∷◌}
use mathlib.Core.Bool.{true, false}
use Rattle.names.specs.Bytes.{bytes}
use Rattle.names.specs.Candidates.{Candidate, candidates}
use Rattle.names.proofs.Computing.{names_compute}

abbrev both : String → Candidate
both n = record { name = bytes n; packed = true }

abbrev loose_only : String → Candidate
loose_only n = record { name = bytes n; packed = false }

abbrev tries : String → List Candidate → Type 0
tries x l = candidates (bytes x) ≡ l

pub record Tried : Type 0 where
  -- "Seeking `refs/remotes/x/HEAD` packed for x" is a misreading
  partial : tries "x" (both "refs/x" ∷ both "refs/tags/x" ∷ both "refs/heads/x" ∷ both "refs/remotes/x" ∷ loose_only "refs/remotes/x/HEAD" ∷ [])
  full : tries "refs/a" (both "refs/a" ∷ both "tags/refs/a" ∷ both "heads/refs/a" ∷ both "remotes/refs/a" ∷ loose_only "remotes/refs/a/HEAD" ∷ [])
  -- `x/HEAD` is "itself the partial name that may look full"
  becomes_full : tries "refs" (both "refs/refs" ∷ both "refs/tags/refs" ∷ both "refs/heads/refs" ∷ both "refs/remotes/refs" ∷ loose_only "remotes/refs/HEAD" ∷ [])
  pseudo : tries "A" (both "A" ∷ both "refs/A" ∷ both "refs/tags/A" ∷ both "refs/heads/A" ∷ both "refs/remotes/A" ∷ loose_only "refs/remotes/A/HEAD" ∷ [])
  -- "Last, unless x is `HEAD`"
  head : tries "HEAD" (both "HEAD" ∷ both "refs/HEAD" ∷ both "refs/tags/HEAD" ∷ both "refs/heads/HEAD" ∷ both "refs/remotes/HEAD" ∷ [])

pub tried : Tried
unfolding names_compute
tried = record { partial = refl; full = refl; becomes_full = refl; pseudo = refl; head = refl }
