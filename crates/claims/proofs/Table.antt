-- The ● cases of document 01 as one table, by computation.
use mathlib.Core.Path.{◌≡◌, refl}
use Prim.Native.String.{String}
use mathlib.Core.List.{[], ◌∷◌, ◌++◌}
use mathlib.Core.Bool.{true}
use Rattle.std.specs.Prelude.{Option, None, Some}
use lib.ListN.{replicate}
use Rattle.names.specs.Bytes.{Bytes, bytes}
use Rattle.names.specs.Check.{gives}
use Rattle.names.specs.Name.{is_pseudo}
use Rattle.names.specs.Category.{Category, Note, Bisect, WorktreePrivate, Rewritten, PseudoRef, MainPseudoRef, LinkedPseudoRef, LinkedRef, category, short_name}
use Rattle.names.specs.Namespace.{expanded}
use Rattle.names.specs.Route.{packed_name}
use Rattle.blocks.specs.Content.{object, symbolic, reads, unreadable, read}
use Rattle.names.proofs.Words.{KeepsWord, keeps_note, keeps_bisect, keeps_private, keeps_rewritten, never_main_pseudo, never_pseudo, never_linked_pseudo, never_private}
use Rattle.claims.proofs.Fixtures.{points, file, snap, chain, holding, pointing, stops}
use Rattle.claims.proofs.Computing.{refs_compute}

-- a name's category and short name
abbrev pub Is : String → Option Category → String → Type 0
Is n c short = (category (bytes n) ≡ c) × (short_name (bytes n) ≡ bytes short)

pub record Cases : Type 0 where
  -- name.rs
  pub pseudo_empty : is_pseudo (bytes "") ≡ true
  -- fullname.rs
  pub empty : Is "" (Some PseudoRef) ""
  pub main : Is "main-worktree/" (Some MainPseudoRef) ""
  pub no_category : category (bytes "worktrees/w") ≡ None
  pub linked : Is "worktrees/w/refs/heads/a" (Some (LinkedRef (bytes "w"))) "refs/heads/a"
  pub note : Is "refs/notes/a" (Some Note) "notes/a"
  pub bisect : Is "refs/bisect/a" (Some Bisect) "bisect/a"
  pub private : Is "refs/worktree/a" (Some WorktreePrivate) "worktree/a"
  pub rewritten : Is "refs/rewritten/a" (Some Rewritten) "rewritten/a"
  -- the same of every name of these categories
  pub note_keeps : (n : Bytes) → category n ≡ Some Note → KeepsWord Note n (short_name n)
  pub bisect_keeps : (n : Bytes) → category n ≡ Some Bisect → KeepsWord Bisect n (short_name n)
  pub private_keeps : (n : Bytes) → category n ≡ Some WorktreePrivate → KeepsWord WorktreePrivate n (short_name n)
  pub rewritten_keeps : (n : Bytes) → category n ≡ Some Rewritten → KeepsWord Rewritten n (short_name n)
  -- namespace.rs
  pub namespace : expanded (bytes "a/b") ≡ gives (bytes "refs/namespaces/a/refs/namespaces/b/")
  -- decode.rs
  pub spaces : read 40 (bytes "ref:  HEAD" ++ (13 ∷ 10 ∷ [])) ≡ reads (symbolic (bytes "HEAD"))
  pub no_space : read 40 (bytes "ref:HEAD") ≡ unreadable 10
  pub then_z : read 40 (replicate 40 49 ++ bytes "z") ≡ reads (object (replicate 40 49))
  pub then_a : read 40 (replicate 40 49 ++ bytes "a") ≡ unreadable 10
  pub invalid : read 40 (bytes "ref: refs/heads/.invalid") ≡ unreadable 12
  -- packed/find.rs
  pub packed_main : packed_name (bytes "main-worktree/refs/heads/a") ≡ Some (bytes "refs/heads/a")
  pub not_main : packed_name (bytes "main-worktree/HEAD") ≡ None
  pub not_pseudo : packed_name (bytes "HEAD") ≡ None
  pub not_linked : packed_name (bytes "worktrees/w/HEAD") ≡ None
  pub not_private : packed_name (bytes "refs/worktree/a") ≡ None
  -- the same of every name of these categories
  pub main_pseudo_never : (n : Bytes) → category n ≡ Some MainPseudoRef → packed_name n ≡ None
  pub pseudo_never : (n : Bytes) → category n ≡ Some PseudoRef → packed_name n ≡ None
  pub linked_pseudo_never : (n w : Bytes) → category n ≡ Some (LinkedPseudoRef w) → packed_name n ≡ None
  pub private_never : (n : Bytes) → category n ≡ Some WorktreePrivate → packed_name n ≡ None
  -- raw_ext.rs, with the last reference reached: at 14 the one before the name seen already, at 15 the fifth
  pub cycle_of_four : stops (snap (points "A" "B" ++ (points "B" "C" ++ (points "C" "D" ++ points "D" "A"))) []) "A" 14 (pointing "A" "B")
  pub cycle_of_five : stops (snap (chain ++ points "E" "A") []) "A" 15 (pointing "A" "B")
  pub fifth_step : stops (snap (chain ++ (points "E" "F" ++ file "F" 49)) []) "A" 15 (holding "F" 49)

pub cases : Cases
unfolding refs_compute
cases =
    record {
      pseudo_empty = refl;
      empty = (refl, refl);
      main = (refl, refl);
      no_category = refl;
      linked = (refl, refl);
      note = (refl, refl);
      bisect = (refl, refl);
      private = (refl, refl);
      rewritten = (refl, refl);
      note_keeps = keeps_note;
      bisect_keeps = keeps_bisect;
      private_keeps = keeps_private;
      rewritten_keeps = keeps_rewritten;
      namespace = refl;
      spaces = refl;
      no_space = refl;
      then_z = refl;
      then_a = refl;
      invalid = refl;
      packed_main = refl;
      not_main = refl;
      not_pseudo = refl;
      not_linked = refl;
      not_private = refl;
      main_pseudo_never = never_main_pseudo;
      pseudo_never = never_pseudo;
      linked_pseudo_never = never_linked_pseudo;
      private_never = never_private;
      cycle_of_four = refl;
      cycle_of_five = refl;
      fifth_step = refl;
    }
