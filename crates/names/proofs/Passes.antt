-- The candidates of a name, pass by pass.
use Rattle.std.specs.Prelude.{if◌then◌else◌}
use mathlib.Core.Path.{◌≡◌, refl}
use mathlib.Core.List.{[], ◌∷◌, ◌++◌}
use mathlib.Core.Bool.{Bool, true, false}
use lib.ListN.{take}
use Rattle.names.specs.Bytes.{Bytes, bytes, same}
use Rattle.names.specs.Name.{is_pseudo}
use Rattle.names.specs.Candidates.{full_name, pass, passes, last_candidate, sought_packed, candidates}

module _ (x : Bytes) where
  pub candidates_are : candidates x ≡ sought_packed (passes x) (last_candidate x)
  unfolding candidates
  candidates_are = refl

  pub passes_are : (p : Bool) → p ≡ is_pseudo x → passes x ≡ (if p then take 1 (pass true x) ++ pass false x else pass true x)
  unfolding passes
  passes_are p q = rw q

  pub pass_is : (pseudo : Bool) → pass pseudo x ≡ full_name pseudo [] x ∷ full_name pseudo (bytes "tags/") x ∷ full_name pseudo (bytes "heads/") x ∷ full_name pseudo (bytes "remotes/") x ∷ []
  unfolding pass
  pass_is pseudo = refl

  pub last_of_head : same x (bytes "HEAD") ≡ true → last_candidate x ≡ []
  unfolding last_candidate
  last_of_head h = rw h

  pub last_of_other : same x (bytes "HEAD") ≡ false → last_candidate x ≡ record { name = full_name true (bytes "remotes/") (x ++ bytes "/HEAD"); packed = false } ∷ []
  unfolding last_candidate
  last_of_other h = rw h
