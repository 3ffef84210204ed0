-- Categories and short names (fullname.rs, name.rs).
use Rattle.std.specs.Prelude.{ℕ, suc, ◌+◌, [], ◌∷◌, ◌++◌, Bool, true, false, ◌&&◌, eqb, length, take, drop, if◌then◌else◌}
use Rattle.std.specs.Prelude.{Option, None, Some}
use Rattle.std.specs.Option.{option_map}
use Rattle.names.specs.Bytes.{Bytes, bytes, slash, starts_with, after, strip}
use Rattle.names.specs.Check.{unless, ◌or_else◌, Checked, checked}
use Rattle.names.specs.Name.{fits, is_pseudo}
use Rattle.names.specs.WellFormed.{complete}

-- `Category`; the linked ones hold their worktree's name
pub data Category : Type 0 where
  Tag LocalBranch RemoteBranch Note Bisect WorktreePrivate Rewritten : Category
  PseudoRef MainPseudoRef MainRef : Category
  LinkedPseudoRef LinkedRef : Bytes → Category

-- `prefix`
abbrev pub prefix : Category → Bytes
prefix Tag = bytes "refs/tags/"
prefix LocalBranch = bytes "refs/heads/"
prefix RemoteBranch = bytes "refs/remotes/"
prefix Note = bytes "refs/notes/"
prefix Bisect = bytes "refs/bisect/"
prefix WorktreePrivate = bytes "refs/worktree/"
prefix Rewritten = bytes "refs/rewritten/"
prefix PseudoRef = []
prefix MainPseudoRef = bytes "main-worktree/"
prefix MainRef = bytes "main-worktree/refs/"
prefix (LinkedPseudoRef w) = bytes "worktrees/"
prefix (LinkedRef w) = bytes "worktrees/"

-- ---- from a name to its category

-- a category, and how many bytes it takes off the name to give the short name
pub record Class : Type 0 where
  pub category : Category
  pub off : ℕ

-- a category that takes off so many bytes
abbrev pub class : Category → ℕ → Option Class
class c off = Some (record { category = c; off = off })

-- what stands behind `main-worktree/` or a worktree's name, from byte `off` of the name on
unfoldable pub classify_below : Category → Category → ℕ → Bytes → Option Class
classify_below ref pseudo off rest =
    if starts_with (bytes "refs/") rest then class ref off
    else if is_pseudo rest then class pseudo off
    else None

-- where the first slash is
unfoldable pub first_slash : Bytes → Option ℕ
first_slash [] = None
first_slash (b ∷ s) = if eqb b slash then Some 0 else option_map (λ i. suc i) (first_slash s)

-- what stands behind `worktrees/`: the worktree's name up to the first slash, and what stands behind that
unfoldable pub classify_linked : Bytes → Option ℕ → Option Class
classify_linked rest None = None
classify_linked rest (Some i) =
    classify_below (LinkedRef (take i rest)) (LinkedPseudoRef (take i rest)) (length (bytes "worktrees/") + (i + 1)) (drop (i + 1) rest)

-- the category c of a name that begins with its prefix, which is taken off
abbrev pub without_prefix : Category → Option Class
without_prefix c = class c (length (prefix c))

-- "Note, short `notes/a`; Bisect, WorktreePrivate and Rewritten keep their word too": only `refs/` is taken off
abbrev pub without_refs : Category → Option Class
without_refs c = class c (length (bytes "refs/"))

-- `category_and_short_name`, "in the file's order"
unfoldable pub classify : Bytes → Option Class
classify s =
    if starts_with (prefix Tag) s then without_prefix Tag
    else if starts_with (prefix LocalBranch) s then without_prefix LocalBranch
    else if starts_with (prefix RemoteBranch) s then without_prefix RemoteBranch
    else if starts_with (prefix Note) s then without_refs Note
    else if starts_with (prefix Bisect) s then without_refs Bisect
    else if starts_with (prefix WorktreePrivate) s then without_refs WorktreePrivate
    else if starts_with (prefix Rewritten) s then without_refs Rewritten
    else if is_pseudo s then without_prefix PseudoRef
    else if starts_with (bytes "main-worktree/") s then
    classify_below MainRef MainPseudoRef (length (bytes "main-worktree/")) (after (bytes "main-worktree/") s)
    else if starts_with (bytes "worktrees/") s then
    (let rest = after (bytes "worktrees/") s in classify_linked rest (first_slash rest))
    else None

-- ---- what is read off it

-- no category where the name has no class
abbrev pub category_in : Option Class → Option Category
category_in None = None
category_in (Some k) = Some k.category

-- nothing is taken off where there is no category
abbrev pub off_in : Option Class → ℕ
off_in None = 0
off_in (Some k) = k.off

-- the category, and what is left of the name s behind what it takes off
abbrev pub named : Bytes → Class → Category × Bytes
named s k = (k.category, drop k.off s)

-- the category and the short name, where there is a category
unfoldable pub category_and_short_name : Bytes → Option (Category × Bytes)
category_and_short_name s = option_map (named s) (classify s)

-- `category`
unfoldable pub category : Bytes → Option Category
category s = category_in (classify s)

-- the short name: the whole name where there is no category
unfoldable pub short_name : Bytes → Bytes
short_name s = drop (off_in (classify s)) s

-- `is_worktree_private`
abbrev pub private_category : Option Category → Bool
private_category None = false
private_category (Some Tag) = false
private_category (Some LocalBranch) = false
private_category (Some RemoteBranch) = false
private_category (Some Note) = false
private_category (Some Bisect) = true
private_category (Some WorktreePrivate) = true
private_category (Some Rewritten) = true
private_category (Some PseudoRef) = true
private_category (Some MainPseudoRef) = true
private_category (Some MainRef) = false
private_category (Some (LinkedPseudoRef w)) = true
private_category (Some (LinkedRef w)) = false

-- "Private is as `is_worktree_private` says, shared is every other name."
unfoldable pub is_private : Bytes → Bool
is_private s = private_category (category s)

-- ---- from a short name to the full name

-- p behind a prefix, unless it already begins with it
abbrev pub behind : Bytes → Bytes → Bytes
behind front p = if starts_with front p then p else front ++ p

-- `to_full_name` "keeps a short name that already begins with the prefix"; some categories keep their word in the short name
abbrev pub full_of : Category → Bytes → Bytes
full_of Tag s = behind (prefix Tag) s
full_of LocalBranch s = behind (prefix LocalBranch) s
full_of RemoteBranch s = behind (prefix RemoteBranch) s
full_of Note s = behind (prefix Note) (strip (bytes "notes/") s)
full_of Bisect s = behind (prefix Bisect) (strip (bytes "bisect/") s)
full_of WorktreePrivate s = behind (prefix WorktreePrivate) (strip (bytes "worktree/") s)
full_of Rewritten s = behind (prefix Rewritten) (strip (bytes "rewritten/") s)
full_of PseudoRef s = s
full_of MainPseudoRef s = behind (prefix MainPseudoRef) s
full_of MainRef s = behind (prefix MainRef) (strip (bytes "refs/") s)
full_of (LinkedPseudoRef w) s = behind (bytes "worktrees/" ++ w ++ bytes "/") s
full_of (LinkedRef w) s = behind (bytes "worktrees/" ++ w ++ bytes "/") s

-- "A short name or a result over 250 bytes is refused 3, then an incomplete result 4."
unfoldable pub to_full_name : Category → Bytes → Checked Bytes
to_full_name c s = checked (unless 3 (fits s && fits (full_of c s)) or_else unless 4 (complete (full_of c s))) (full_of c s)
