-- Snapshots of made blocks, and short ways to say what they answer.
use Prim.Native.Nat.{ℕ}
use Prim.Native.String.{String}
use Rattle.blocks.proofs.Make.{make}
use Rattle.blocks.specs.Content.{object, symbolic}
use Rattle.names.specs.Bytes.{Bytes, bytes}
use Rattle.names.specs.Check.{gives}
use Rattle.refs.specs.Answer.{Reference, Answer, found}
use Rattle.claims.specs.Compared.{Outcome, an_id, outcome, handed_out}
use Rattle.refs.specs.Follow.{follow, stopped}
use Rattle.refs.specs.Run.{listing}
use Rattle.refs.specs.Search.{answers}
use Rattle.blocks.specs.Snapshot.{Snapshot}
use lib.ListN.{replicate}
use mathlib.Core.Bool.{true}
use mathlib.Core.List.{List, [], ◌++◌}
use Rattle.std.specs.Prelude.{Option, None, Some}
use mathlib.Core.Path.{◌≡◌}

-- a symbolic reference, a loose file and a packed record, with ids of one digit, behind the expansion e, the target too
module _ (e : Bytes) where
  abbrev pub points_in : String → String → Bytes
  points_in n t = make 1 (e ++ bytes n) (bytes "ref: " ++ (e ++ bytes t))

  abbrev pub file_in : String → ℕ → Bytes
  file_in n d = make 1 (e ++ bytes n) (replicate 40 d)

  abbrev pub packed_in : String → ℕ → Bytes
  packed_in n d = make 4 (e ++ bytes n) (replicate 40 d)

-- and without a namespace
abbrev pub points : String → String → Bytes
points = points_in []

abbrev pub file : String → ℕ → Bytes
file = file_in []

abbrev pub packed : String → ℕ → Bytes
packed = packed_in []

-- the namespace n
abbrev pub namespace_n : Option Bytes
namespace_n = Some (bytes "n")

-- a snapshot of one loose region and a packed one
abbrev pub snap : Bytes → Bytes → Snapshot
snap w p = record { worktree = w; common = None; packed = p }

abbrev pub ends : Snapshot → String → Outcome → Type 0
ends s x o = outcome (follow 40 s (bytes x) None) ≡ o

-- following x stops with the number k, and r is the last reference reached
abbrev pub stops : Snapshot → String → ℕ → Reference → Type 0
stops s x k r = follow 40 s (bytes x) None ≡ answers (stopped k r)

abbrev pub chain : Bytes
chain = points "A" "B" ++ (points "B" "C" ++ (points "C" "D" ++ points "D" "E"))

-- references as they are answered: one that holds an id of one digit, and a symbolic one
abbrev pub holding : String → ℕ → Reference
holding n d = record { name = bytes n; target = object (replicate 40 d); peeled = None }

abbrev pub pointing : String → String → Reference
pointing n t = record { name = bytes n; target = symbolic (bytes t); peeled = None }

abbrev pub ref : String → ℕ → Answer
ref n d = found (holding n d)

-- the id all 1
abbrev pub ones : Outcome
ones = an_id (replicate 40 49)

-- with a common region
abbrev pub three : Bytes → Bytes → Bytes → Snapshot
three w c p = record { worktree = w; common = Some c; packed = p }

-- n steps hand out l and end the listing
abbrev pub lists : Snapshot → ℕ → List Answer → Type 0
lists s n l = handed_out (listing 40 s None n) ≡ gives (l, true)
