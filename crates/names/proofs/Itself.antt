-- A name under refs/ is sought as itself first: its first candidate, and where that is read, loose and packed.
use mathlib.Core.Path.{◌≡◌, refl, sym}
use mathlib.Core.List.{List, [], ◌∷◌}
use mathlib.Core.Bool.{true, false, false≢true}
use Rattle.std.specs.Prelude.{Option, Some}
use lib.Dec.{eqb}
use lib.ListN.{drop}
use borrow.Author.Tests.{eqb-true}
use Rattle.names.specs.Bytes.{Bytes, bytes, starts_with, every}
use Rattle.names.specs.Name.{is_pseudo, looks_full, under_refs}
use Rattle.names.specs.Category.{Class, classify, category_in, off_in, category, short_name, private_category, is_private}
use Rattle.names.specs.Candidates.{Candidate, full_name, last_candidate, sought_packed, candidates}
use Rattle.names.specs.Route.{own, shared, route_as, route, packed_as, packed_name}
use Rattle.names.proofs.Tests.{if_case, and_left, not_both}
use Rattle.names.proofs.Prefix.{other_start}
use Rattle.names.proofs.Placed.{refs_begins_r, placed, placed_own, placed_path}
use Rattle.names.proofs.Passes.{candidates_are, passes_are, pass_is}

module _ (x : Bytes) (u : under_refs x ≡ true) where
  not_pseudo : is_pseudo x ≡ false
  unfolding starts_with is_pseudo every
  not_pseudo = go x u
    where
      go : (n : Bytes) → under_refs n ≡ true → is_pseudo n ≡ false
      go [] h = absurd (false≢true h)
      go (b ∷ n) h = rw (← eqb-true 114 b (and_left (eqb 114 b) _ h))

  full_self : full_name true [] x ≡ x
  unfolding full_name looks_full
  full_self = rw u

  -- the candidates behind it
  abbrev others : List Candidate
  others = sought_packed (full_name true (bytes "tags/") x ∷ full_name true (bytes "heads/") x ∷ full_name true (bytes "remotes/") x ∷ []) (last_candidate x)

  pub first_candidate : candidates x ≡ record { name = x; packed = true } ∷ others
  first_candidate = rw (candidates_are x, passes_are x false (sym not_pseudo), pass_is x true, full_self)

  -- it is its own path; a shared name is read in the shared region
  pub own_path : (route x).path ≡ x
  own_path = placed_own (placed x) (refs_begins_r x u)

  pub shared_base : is_private x ≡ false → (route x).base ≡ shared
  shared_base v = (placed_path (placed x) (rw own_path u) (rw own_path v)).0

  -- a private name is read in the worktree, and only refs/worktree/ is never sought packed
  abbrev Way : Option Class → Type 0
  Way o = (private_category (category_in o) ≡ true → (route_as (category_in o) x (drop (off_in o) x)).base ≡ own)
      × (starts_with (bytes "refs/worktree/") x ≡ false → packed_as (category_in o) x (drop (off_in o) x) ≡ Some x)

  way : Way (classify x)
  unfolding classify route_as packed_as
  way =
      if_case Way (starts_with (bytes "refs/tags/") x) (λ _. (λ h. absurd (false≢true h), λ w. refl)) (λ _.
      if_case Way (starts_with (bytes "refs/heads/") x) (λ _. (λ h. absurd (false≢true h), λ w. refl)) (λ _.
      if_case Way (starts_with (bytes "refs/remotes/") x) (λ _. (λ h. absurd (false≢true h), λ w. refl)) (λ _.
      if_case Way (starts_with (bytes "refs/notes/") x) (λ _. (λ h. absurd (false≢true h), λ w. refl)) (λ _.
      if_case Way (starts_with (bytes "refs/bisect/") x) (λ _. (λ h. refl, λ w. refl)) (λ _.
      if_case Way (starts_with (bytes "refs/worktree/") x) (λ t. (λ h. refl, λ w. not_both t w)) (λ _.
      if_case Way (starts_with (bytes "refs/rewritten/") x) (λ _. (λ h. refl, λ w. refl)) (λ _.
      if_case Way (is_pseudo x) (λ t. not_both t not_pseudo) (λ _.
      if_case Way (starts_with (bytes "main-worktree/") x) (λ t. not_both u (other_start 109 114 _ _ x refl t)) (λ _.
      if_case Way (starts_with (bytes "worktrees/") x) (λ t. not_both u (other_start 119 114 _ _ x refl t)) (λ _.
      (λ h. absurd (false≢true h), λ w. refl)))))))))))

  pub private_own : is_private x ≡ true → (route x).base ≡ own
  unfolding is_private category route short_name
  private_own = way.0

  pub sought_itself : starts_with (bytes "refs/worktree/") x ≡ false → packed_name x ≡ Some x
  unfolding packed_name category short_name
  sought_itself = way.1
