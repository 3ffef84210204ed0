-- Demand 3: two snapshots compared, in the words of document 01's section of that name; and the same in a namespace (document
-- 02, §13). All is said once, of a namespace that is given or not: where none is, nothing stands in front of a name.
use Rattle.std.specs.Prelude.{◌≡◌, ◌⊎◌, ℕ, List, [], ◌∷◌, ◌++◌, Bool, true, false, ◌&&◌, ◌||◌, eqb, take, if◌then◌else◌}
use Rattle.std.specs.Prelude.{Option, None, Some}
use Rattle.names.specs.Bytes.{Bytes, same, starts_with, after}
use Rattle.names.specs.Name.{under_refs, directory, remote_head}
use Rattle.names.specs.WellFormed.{well_formed}
use Rattle.names.specs.Category.{is_private}
use Rattle.names.specs.Namespace.{expand, expansion}
use Rattle.names.specs.Route.{route}
use Rattle.blocks.specs.Content.{object, reads, lower_case, read}
use Rattle.blocks.specs.Block.{block_kind, block_name, block_content}
use Rattle.blocks.specs.Entry.{blocks}
use Rattle.blocks.specs.Snapshot.{Snapshot, or_empty, is_there, region_at, Fit}
use Rattle.refs.specs.Follow.{follow}
use Rattle.refs.specs.Run.{listing, answers_of}
use Rattle.claims.specs.Compared.{handed_out, outcome, Rising}

-- ---- named blocks

-- "Named blocks are those of kinds 1, 2 and 4"
abbrev pub is_named : Bytes → Bool
is_named b = eqb (block_kind b) 1 || eqb (block_kind b) 2 || eqb (block_kind b) 4

-- "they agree if region, kind, name and content do": what is left where region and name are given
pub record Held : Type 0 where
  pub kind : ℕ
  pub content : Bytes

-- kind and content of a block
abbrev pub held_by : Bytes → Held
held_by b = record { kind = block_kind b; content = block_content b }

-- the named blocks of a list that bear the name n
unfoldable pub bearing : Bytes → List Bytes → List Held
bearing n [] = []
bearing n (b ∷ l) = if is_named b && same (block_name b) n then held_by b ∷ bearing n l else bearing n l

-- the named blocks of a region that bear the name n
abbrev pub held_in : Bytes → Bytes → List Held
held_in r n = bearing n (blocks r)

-- there is one
abbrev pub some_held : List Held → Bool
some_held [] = false
some_held (h ∷ l) = true

-- "Held names are those of all blocks of kinds 1, 2 and 4, the regions of a snapshot taken together."
unfoldable pub is_held : Snapshot → Bytes → Bool
is_held s n = some_held (held_in s.worktree n) || some_held (held_in (or_empty s.common) n) || some_held (held_in s.packed n)

-- "no held name is a directory of another"
abbrev pub Flat : Snapshot → Type 0
Flat s = (m n : Bytes) → is_held s m ≡ true → is_held s n ≡ true → directory m n ≡ false

-- "no held name begins with the expansion twice over"; nothing is asked where there is no namespace
abbrev pub Once : Option Bytes → Snapshot → Type 0
Once None s = Unit {0}
Once (Some m) s = (n : Bytes) → is_held s n ≡ true → starts_with (expand m ++ expand m) n ≡ false

-- ---- names that agree, and names that differ

-- "all other named blocks agree"
pub record Agree (s t : Snapshot) (n : Bytes) : Type 0 where
  pub in_worktree : held_in s.worktree n ≡ held_in t.worktree n
  pub in_common : held_in (or_empty s.common) n ≡ held_in (or_empty t.common) n
  pub in_packed : held_in s.packed n ≡ held_in t.packed n

-- "the remainder" of a name, behind the expansion with which it begins: what is sought in the namespace; without one, all of it
abbrev pub remainder : Option Bytes → Bytes → Bytes
remainder namespace n = after (expansion namespace) n

-- "the region that routing gives the name sought whole", in the namespace
abbrev pub read_in : Option Bytes → Snapshot → Bytes → Bytes
read_in namespace s n = region_at (route (remainder namespace n)).base s

-- "a packed record with that target", "ids taken in lower case"
pub record PackedId (width : ℕ) (s : Snapshot) (n id : Bytes) : Type 0 where
  pub content : Bytes
  pub there : held_in s.packed n ≡ record { kind = 4; content = content } ∷ []
  pub target : lower_case (take width content) ≡ id

module _ (width : ℕ) (namespace : Option Bytes) where
  -- "a block of kind 1 that decodes to the id, in the region that routing gives the name sought whole"
  pub record LooseId (s : Snapshot) (n id : Bytes) : Type 0 where
    pub content : Bytes
    pub there : held_in (read_in namespace s n) n ≡ record { kind = 1; content = content } ∷ []
    pub decodes : read width content ≡ reads (object id)

  -- "In each snapshot a differing name has one of these .. No other block bears the name"
  pub data Has (s : Snapshot) (n id : Bytes) : Type 0 where
    loose : LooseId s n id → held_in s.packed n ≡ [] → Has s n id
    packed : PackedId width s n id → held_in (read_in namespace s n) n ≡ [] → Has s n id
    over_stale : LooseId s n id → (stale : Bytes) → PackedId width s n stale → Has s n id

  -- "they differ only in well-formed shared names under refs/, not refs/remotes/../HEAD, each holding the same object id"; for a
  -- namespace "the differing names begin with its expansion, the remainder is as without one"
  pub record Differ (s t : Snapshot) (n : Bytes) : Type 0 where
    pub inside : starts_with (expansion namespace) n ≡ true
    pub good : well_formed (remainder namespace n) ≡ true
    pub is_shared : is_private (remainder namespace n) ≡ false
    pub under : under_refs (remainder namespace n) ≡ true
    pub not_remote_head : remote_head (remainder namespace n) ≡ false
    pub id : Bytes
    pub has : Has s n id
    pub has' : Has t n id
    -- "save a worktree one, alike in both, where search reads common"
    pub worktree_alike : is_there s.common ≡ true → held_in s.worktree n ≡ held_in t.worktree n

  -- the premises; that the calls are given this namespace is in the claims
  pub record Cut (s t : Snapshot) : Type 0 where
    pub fit : Fit width s
    pub fit' : Fit width t
    pub flat : Flat s
    pub flat' : Flat t
    pub once : Once namespace s
    pub once' : Once namespace t
    pub each : (n : Bytes) → Agree s t n ⊎ Differ s t n
    pub same_common : is_there s.common ≡ is_there t.common

-- ---- the claims

-- "after the opening and every number of listing steps, those past the end included, both have handed out the same list of
-- names with their targets, or refusal numbers, in the same order, and are both ended or neither"; "Listings are compared after
-- stripping", as steps hand them out
abbrev pub ListingCut : Option Bytes → Type 0
ListingCut namespace =
    (width : ℕ) (s t : Snapshot) → Cut width namespace s t → (n : ℕ) → handed_out (listing width s namespace n) ≡ handed_out (listing width t namespace n)

-- "whichever well-formed name following is given, it ends in the same id, refusal number or "not there" on both"; and a
-- malformed name, which both refuse
abbrev pub FollowingCut : Option Bytes → Type 0
FollowingCut namespace =
    (width : ℕ) (s t : Snapshot) → Cut width namespace s t → (x : Bytes) → outcome (follow width s x namespace) ≡ outcome (follow width t x namespace)

-- "On any one snapshot fit for search, listed names rise strictly", in any namespace
abbrev pub NamesRise : Type 0
NamesRise =
    (width : ℕ) (s : Snapshot) → Fit width s → (namespace : Option Bytes) (n : ℕ) → Rising None (answers_of (listing width s namespace n))

-- demand 3: "no namespace"
pub record Demand3 : Type 0 where
  pub listing : ListingCut None
  pub following : FollowingCut None
  pub rising : NamesRise

-- document 02, §13: "The statement is to hold for a namespace", whichever it is, refused ones too
pub record CutsInside : Type 0 where
  pub listing : (m : Bytes) → ListingCut (Some m)
  pub following : (m : Bytes) → FollowingCut (Some m)
