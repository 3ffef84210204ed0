-- Names (name.rs).
use Rattle.std.specs.Prelude.{◌≡◌, ℕ, ◌++◌, Bool, ◌&&◌, ◌||◌, leb, eqb, length}
use Prim.Native.Nat.{Ordering}
use Rattle.std.specs.Prelude.{Option, None, Some}
use Rattle.names.specs.Bytes.{Bytes, bytes, order, starts_with, ends_with, every, after}

-- the longest name: "name length, at most 250"
abbrev pub longest : ℕ
longest = 250

-- not "over 250 bytes"
abbrev pub fits : Bytes → Bool
fits s = leb (length s) longest

-- "A to Z or underscore"
abbrev pub pseudo_byte : ℕ → Bool
pseudo_byte b = leb 65 b && leb b 90 || eqb b 95

-- `is_pseudo_ref`: "all bytes are A to Z or underscore", so the empty name is pseudo
unfoldable pub is_pseudo : Bytes → Bool
is_pseudo s = every pseudo_byte s

-- "A partial name "looks full" if it begins `refs/`, `main-worktree/` or `worktrees/`, or is pseudo while pseudo names are considered."
unfoldable pub looks_full : Bool → Bytes → Bool
looks_full pseudo s =
    starts_with (bytes "refs/") s
    || starts_with (bytes "main-worktree/") s
    || starts_with (bytes "worktrees/") s
    || (pseudo && is_pseudo s)

-- "A name is a directory of another if, with a slash added, it begins the other."
unfoldable pub directory : Bytes → Bytes → Bool
directory s t = starts_with (s ++ bytes "/") t

-- "`refs/remotes/../HEAD` stands for any name with one or more components between `refs/remotes/` and `/HEAD`."
unfoldable pub remote_head : Bytes → Bool
remote_head s = starts_with (bytes "refs/remotes/") s && ends_with (bytes "/HEAD") (after (bytes "refs/remotes/") s)

-- "under refs/"
abbrev pub under_refs : Bytes → Bool
under_refs s = starts_with (bytes "refs/") s

-- n is above the name before, if there is one
abbrev pub Above : Option Bytes → Bytes → Type 0
Above None n = Unit {0}
Above (Some before) n = order before n ≡ Ordering.lt
