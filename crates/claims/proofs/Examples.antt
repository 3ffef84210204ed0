-- Document 01's sample listing, its misreadings that the ● table leaves, and the calls that no table asks, by computation.
use mathlib.Core.Path.{◌≡◌, refl}
use mathlib.Core.List.{[], ◌∷◌, ◌++◌}
use Rattle.std.specs.Prelude.{None, Some}
use lib.ListN.{replicate, take}
use Rattle.names.specs.Bytes.{bytes}
use Rattle.names.specs.Check.{gives, refuses}
use Rattle.names.specs.Category.{Note, LocalBranch, Tag, PseudoRef, LinkedPseudoRef, to_full_name}
use Rattle.names.specs.Namespace.{expanded}
use Rattle.blocks.specs.Block.{Region}
use Rattle.blocks.proofs.Make.{make}
use Rattle.refs.specs.Answer.{nothing, refused}
use Rattle.refs.specs.Search.{find, answers, turned_away, unfit}
use Rattle.claims.specs.Compared.{number, an_id}
use Rattle.claims.proofs.Fixtures.{points, file, packed, snap, three, chain, pointing, ends, stops, lists, ref, ones}
use Rattle.claims.proofs.Computing.{refs_compute}

pub record Examples : Type 0 where
  sample : lists (three (file "refs/bisect/bad" 52) (file "refs/heads/main" 49) (packed "refs/heads/main" 50 ++ packed "refs/tags/v1" 51)) 5
      (ref "refs/bisect/bad" 52 ∷ ref "refs/heads/main" 49 ∷ ref "refs/tags/v1" 51 ∷ nothing ∷ nothing ∷ [])
  -- a packed error, then a common one (damaged, behind a private block), then a worktree one, then the entry
  errors : lists (three (make 3 [] [] ++ file "refs/heads/a" 49) (file "refs/bisect/x" 50 ++ replicate 512 0) (make 5 [] [])) 5
      (refused 7 ∷ refused 6 ∷ refused 7 ∷ ref "refs/heads/a" 49 ∷ nothing ∷ [])
  -- "Letting a worktree entry precede a common error."
  common_error : lists (three (file "refs/heads/a" 49) (make 3 [] []) []) 3 (refused 7 ∷ ref "refs/heads/a" 49 ∷ nothing ∷ [])
  -- a file that could not be read hides an equal packed name, and then is 9
  unread : lists (snap (make 2 (bytes "refs/heads/a") []) (packed "refs/heads/a" 49)) 2 (refused 9 ∷ nothing ∷ []) × ends (snap (make 2 (bytes "refs/heads/a") []) (packed "refs/heads/a" 49)) "a" (number 9)
  -- `ref: ` and nothing: 11
  no_target : ends (snap (points "HEAD" "") []) "HEAD" (number 11)
  -- 13: the last reference reached is the one whose target is not there
  target_not_found : stops (snap (points "HEAD" "refs/heads/a" ++ points "refs/heads/a" "refs/heads/b") []) "HEAD" 13 (pointing "refs/heads/a" "refs/heads/b")
  -- 3 of a name and of a namespace; 5
  too_long : (find 40 (snap [] []) (replicate 251 97) None ≡ turned_away 3) × (find 40 (snap [] []) (bytes "a") (Some (replicate 251 97)) ≡ turned_away 3)
  expansion_too_long : expanded (replicate 240 97) ≡ refuses 5
  -- "Counting the starting reference as seen.": the fourth step reaches an object
  fourth_step : ends (snap (chain ++ file "E" 49) []) "A" ones
  -- to_full_name: a word kept or not, a prefix kept, a worktree's name as it stands, 4, 3
  full_note : (to_full_name Note (bytes "notes/a") ≡ gives (bytes "refs/notes/a")) × (to_full_name Note (bytes "a") ≡ gives (bytes "refs/notes/a"))
  full_kept : to_full_name LocalBranch (bytes "refs/heads/a") ≡ gives (bytes "refs/heads/a")
  full_linked : to_full_name (LinkedPseudoRef (bytes "a/b")) (bytes "HEAD") ≡ gives (bytes "worktrees/a/b/HEAD")
  full_refused : (to_full_name PseudoRef (bytes "a") ≡ refuses 4) × (to_full_name Tag (replicate 251 97) ≡ refuses 3)
  -- search: the third candidate; each name its own id; 1 before 4; 7 and 8 with region and block; at a block that is damaged, its name not above the one before, 6
  third : find 40 (snap (file "refs/heads/a" 49) []) (bytes "a") None ≡ answers (record { tried = 3; answer = ref "refs/heads/a" 49 })
  own_id : (ends (snap (file "refs/heads/a" 49 ++ file "refs/heads/b" 50) []) "a" ones) × (ends (snap (file "refs/heads/a" 49 ++ file "refs/heads/b" 50) []) "b" (an_id (replicate 40 50)))
  size_first : find 40 (snap (0 ∷ []) []) (bytes "a..b") None ≡ turned_away 1
  walk_error : find 40 (three [] (make 3 [] []) (make 5 [] [])) (bytes "a") None ≡ unfit (record { number = 7; region = Region.common; block = 0 })
  unfit_block : find 40 (snap (file "refs/heads/b" 49 ++ file "refs/heads/a" 49) (replicate 512 0)) (bytes "a") None ≡ unfit (record { number = 8; region = Region.worktree; block = 1 })
  lowest_number : find 40 (snap (file "refs/heads/b" 49 ++ (take 511 (file "refs/heads/a" 49) ++ (1 ∷ []))) []) (bytes "a") None ≡ unfit (record { number = 6; region = Region.worktree; block = 1 })

pub examples : Examples
unfolding refs_compute
examples = record { sample = refl; errors = refl; common_error = refl; unread = (refl, refl); no_target = refl; target_not_found = refl; too_long = (refl, refl); expansion_too_long = refl; fourth_step = refl; full_note = (refl, refl); full_kept = refl; full_linked = refl; full_refused = (refl, refl); third = refl; own_id = (refl, refl); size_first = refl; walk_error = refl; unfit_block = refl; lowest_number = refl }
