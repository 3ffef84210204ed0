-- Answers that surprise and are the crate's own (docs/DIFFERENCES.md), by computation.
use mathlib.Core.Path.{◌≡◌, refl}
use Prim.Native.Nat.{ℕ}
use Prim.Native.String.{String}
use mathlib.Core.List.{List, [], ◌∷◌, ◌++◌}
use mathlib.Core.Bool.{true}
use Rattle.std.specs.Prelude.{None}
use lib.ListN.{replicate}
use Rattle.names.specs.Bytes.{Bytes, bytes}
use Rattle.names.specs.Check.{gives}
use Rattle.blocks.proofs.Make.{make}
use Rattle.blocks.specs.Snapshot.{Snapshot}
use Rattle.refs.specs.Answer.{Answer, nothing, refused}
use Rattle.refs.specs.Follow.{follow}
use Rattle.refs.specs.Run.{listing}
use Rattle.refs.specs.Search.{Searched, find, Result, answers, turned_away, unfit}
use Rattle.claims.specs.Compared.{Outcome, number, outcome, handed_out}
use Rattle.claims.proofs.Computing.{refs_compute}
use Rattle.claims.proofs.Fixtures.{points, file, packed, namespace_n, snap, three, ends, lists, ref, ones}

-- what a search answers; a call that is refused, by its number
abbrev answer_in : Result Searched → Answer
answer_in (answers a) = a.answer
answer_in (turned_away k) = refused k
answer_in (unfit f) = refused f.number

abbrev finds : Snapshot → String → Answer → Type 0
finds s x a = answer_in (find 40 s (bytes x) None) ≡ a

-- in the namespace n
abbrev ends_in : Snapshot → String → Outcome → Type 0
ends_in s x o = outcome (follow 40 s (bytes x) namespace_n) ≡ o

abbrev finds_in : Snapshot → String → Answer → Type 0
finds_in s x a = answer_in (find 40 s (bytes x) namespace_n) ≡ a

abbrev lists_in : Snapshot → ℕ → List Answer → Type 0
lists_in s n l = handed_out (listing 40 s namespace_n n) ≡ gives (l, true)

-- HEAD leads to a branch, and that to a name that begins with the expansion twice over
abbrev down : Bytes
down = points "refs/namespaces/n/HEAD" "refs/namespaces/n/refs/heads/m" ++ points "refs/namespaces/n/refs/heads/m" "refs/namespaces/n/refs/namespaces/n/refs/heads/m"

pub record Surprises : Type 0 where
  malformed_directory : finds (snap (file "refs/heads/a." 49) (packed "refs/heads/a./b" 50)) "a./b" nothing
      × lists (snap (file "refs/heads/a." 49) (packed "refs/heads/a./b" 50)) 2 (ref "refs/heads/a./b" 50 ∷ nothing ∷ [])
  full_name_in_tags : finds (snap (file "tags/refs/heads/a" 49) []) "refs/heads/a" (ref "tags/refs/heads/a" 49)
  packed_heads : finds (snap [] (packed "heads/refs/x" 49)) "refs/x" (ref "heads/refs/x" 49) × finds (snap [] (packed "heads/refs/x" 49)) "heads/refs/x" nothing
  packed_private : finds (snap [] (packed "refs/worktree/x" 49)) "refs/worktree/x" nothing
      × finds (snap [] (packed "refs/worktree/x" 49)) "main-worktree/refs/worktree/x" (ref "refs/worktree/x" 49)
      × finds (snap [] (packed "refs/worktree/x" 49)) "worktrees/w/refs/worktree/x" (ref "refs/worktree/x" 49)
  no_such_worktree : finds (snap (file "refs/heads/m" 49) []) "worktrees/nobody/refs/heads/m" (ref "worktrees/nobody/refs/heads/m" 49)
      × finds (snap (file "worktrees/v/refs/heads/m" 49) []) "worktrees/v/refs/heads/m" nothing
  no_cycle : ends_in (snap (file "refs/namespaces/n/refs/c" 49 ++ (points "refs/namespaces/n/refs/namespaces/n/refs/c" "refs/c" ++ points "refs/namespaces/n/refs/s" "refs/namespaces/n/refs/namespaces/n/refs/c")) []) "s" (number 14)
  object_seen : ends (snap (points "HEAD" "refs/bisect/x" ++ points "refs/bisect/x" "worktrees/w/refs/bisect/x") (packed "refs/bisect/x" 49)) "HEAD" (number 14)
      × ends (snap (points "HEAD" "refs/bisect/x" ++ points "refs/bisect/x" "worktrees/w/refs/bisect/x") (packed "refs/bisect/x" 49)) "refs/bisect/x" ones
  private_in_namespace : finds_in (three [] (file "refs/namespaces/n/refs/bisect/y" 49) []) "refs/bisect/y" nothing
      × lists_in (three [] (file "refs/namespaces/n/refs/bisect/y" 49) []) 2 (ref "refs/bisect/y" 49 ∷ nothing ∷ [])
  twice_over : ends_in (snap (down ++ file "refs/namespaces/n/refs/namespaces/n/refs/heads/m" 49) []) "HEAD" (number 14)
      × ends_in (snap down (packed "refs/namespaces/n/refs/namespaces/n/refs/heads/m" 49)) "HEAD" ones
  packed_inside : finds_in (snap (file "refs/namespaces/n/HEAD" 49) []) "HEAD" (ref "HEAD" 49)
      × finds_in (snap [] (packed "refs/namespaces/n/HEAD" 49)) "HEAD" nothing
      × lists_in (snap (file "refs/namespaces/n/HEAD" 49) []) 2 (ref "HEAD" 49 ∷ nothing ∷ [])
      × lists_in (snap [] (packed "refs/namespaces/n/HEAD" 49)) 2 (ref "HEAD" 49 ∷ nothing ∷ [])
      × finds_in (snap (file "refs/namespaces/n/refs/remotes/o/HEAD" 49) []) "o" (ref "refs/remotes/o/HEAD" 49)
      × finds_in (snap [] (packed "refs/namespaces/n/refs/remotes/o/HEAD" 49)) "o" nothing
  stripped_unchecked : ends_in (snap (points "refs/namespaces/n/refs/a" "refs/namespaces/n/@" ++ file "refs/namespaces/n/refs/heads/@" 49) []) "a" ones × ends_in (snap [] []) "@" (number 4)
  packed_head : finds (snap [] (packed "HEAD" 49)) "HEAD" nothing × lists (snap [] (packed "HEAD" 49)) 2 (ref "HEAD" 49 ∷ nothing ∷ [])
  junk_hides : finds (snap (make 1 (bytes "refs/tags/x") (replicate 40 49) ++ make 1 (bytes "refs/x") (bytes "junk")) []) "x" (refused 10)
  peeled : ends (snap (points "HEAD" "refs/tags/v") (make 4 (bytes "refs/tags/v") (replicate 40 49 ++ replicate 40 50))) "HEAD" ones

pub surprises : Surprises
unfolding refs_compute
surprises =
    record {
      malformed_directory = (refl, refl);
      full_name_in_tags = refl;
      packed_heads = (refl, refl);
      packed_private = (refl, refl, refl);
      no_such_worktree = (refl, refl);
      no_cycle = refl;
      object_seen = (refl, refl);
      private_in_namespace = (refl, refl);
      twice_over = (refl, refl);
      packed_inside = (refl, refl, refl, refl, refl, refl);
      stripped_unchecked = (refl, refl);
      packed_head = (refl, refl);
      junk_hides = refl;
      peeled = refl;
    }
