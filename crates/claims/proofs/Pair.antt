-- The premises of demand 3 can be met by snapshots that differ, without a namespace and in one: a branch loose over a stale
-- record, and the same branch packed, its digits in the other case, below a symbolic HEAD.
use mathlib.Core.Path.{◌≡◌, refl, ap}
use Prim.Native.Nat.{ℕ}
use native.Mathlib.Omega.{arith}
use mathlib.Core.Bool.{true}
use mathlib.Core.List.{List, [], ◌∷◌, ◌++◌}
use Rattle.std.specs.Prelude.{Option, None}
use lib.ListN.{length, replicate}
use Rattle.names.specs.Bytes.{Bytes, bytes}
use Rattle.names.specs.Namespace.{expansion}
use Rattle.names.specs.Route.{shared}
use Rattle.blocks.specs.Layout.{block_size}
use Rattle.blocks.specs.Snapshot.{Snapshot, or_empty}
use Rattle.refs.specs.Follow.{follow}
use Rattle.refs.specs.Run.{listing}
use Rattle.claims.specs.Compared.{handed_out, outcome}
use Rattle.claims.specs.Demand3.{Cut}
use Rattle.claims.proofs.Claims.{listing_cut, following_cut}
use Rattle.claims.proofs.Fixtures.{points_in, file_in, packed_in, three, namespace_n}
use Rattle.claims.proofs.LeftOut.{cut_of}
use Rattle.claims.proofs.Tested.{all_true}
use Rattle.claims.proofs.Decide.{How, Line, cut_tests, cut_by, tests_compute}

module _ (namespace : Option Bytes) where
  abbrev e : Bytes
  e = expansion namespace

  -- loose a.., over the record 2..
  abbrev pub loose_over : Snapshot
  loose_over = three (points_in e "HEAD" "refs/heads/a") (file_in e "refs/heads/a" 97) (packed_in e "refs/heads/a" 50)

  -- packed A..
  abbrev pub all_packed : Snapshot
  all_packed = three (points_in e "HEAD" "refs/heads/a") [] (packed_in e "refs/heads/a" 65)

  abbrev agreed : List Bytes
  agreed = (e ++ bytes "HEAD") ∷ []

  abbrev differing : List Line
  differing = record { name = e ++ bytes "refs/heads/a"; id = replicate 40 97; id' = replicate 40 97; how = How.over_stale shared (replicate 40 50); how' = How.packed } ∷ []

  -- they differ, meet the premises, and so list and follow alike
  pub record Met : Type 0 where
    pub differ : loose_over ≡ all_packed → ⊥
    pub cut : Cut 40 namespace loose_over all_packed
    pub lists : (n : ℕ) → handed_out (listing 40 loose_over namespace n) ≡ handed_out (listing 40 all_packed namespace n)
    pub follows : (x : Bytes) → outcome (follow 40 loose_over x namespace) ≡ outcome (follow 40 all_packed x namespace)

  met : length (file_in e "refs/heads/a" 97) ≡ block_size → all_true (cut_tests None 40 namespace loose_over all_packed agreed differing) ≡ true → Met
  met l h =
      let c = cut_of 40 namespace loose_over all_packed (cut_by None 40 namespace loose_over all_packed agreed differing h) in
      record {
        differ = λ q. let z : length (file_in e "refs/heads/a" 97) ≡ 0 = ap (λ (s : Snapshot). length (or_empty s.common)) q in omega arith;
        cut = c;
        lists = listing_cut namespace 40 loose_over all_packed c;
        follows = following_cut namespace 40 loose_over all_packed c;
      }

pub pair : Met None
unfolding tests_compute
pair = met None refl refl

pub pair_inside : Met namespace_n
unfolding tests_compute
pair_inside = met namespace_n refl refl
