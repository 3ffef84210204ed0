-- Namespaces (namespace.rs).
use Rattle.std.specs.Prelude.{[], ◌∷◌, ◌++◌, Bool, true, ◌&&◌, eqb, if◌then◌else◌}
use Rattle.std.specs.Prelude.{Option, None, Some}
use Rattle.names.specs.Bytes.{Bytes, bytes, slash}
use Rattle.names.specs.Check.{Check, unless, ◌or_else◌, Checked, checked}
use Rattle.names.specs.Name.{fits}
use Rattle.names.specs.WellFormed.{well_formed}

-- "`a/b` expands to `refs/namespaces/a/refs/namespaces/b/`": what a slash and the end become
unfoldable pub expand_rest : Bytes → Bytes
expand_rest [] = bytes "/"
expand_rest (b ∷ s) = if eqb b slash then bytes "/refs/namespaces/" ++ expand_rest s else b ∷ expand_rest s

-- the namespace's expansion
unfoldable pub expand : Bytes → Bytes
expand s = bytes "refs/namespaces/" ++ expand_rest s

-- what goes before every name: nothing, where there is no namespace
abbrev pub expansion : Option Bytes → Bytes
expansion None = []
expansion (Some s) = expand s

-- ---- rows 3, 4 and 5 of the table: "name, then namespace"

-- a name that is not given passes
abbrev pub passes_if_given : (Bytes → Bool) → Option Bytes → Bool
passes_if_given f None = true
passes_if_given f (Some s) = f s

-- 3 "over 250 bytes", 4 "malformed", 5 "expansion over 250": for a partial name and a namespace, each given or not
unfoldable pub names_check : Option Bytes → Option Bytes → Check
names_check name namespace =
    unless 3 (passes_if_given fits name && passes_if_given fits namespace)
    or_else unless 4 (passes_if_given well_formed name && passes_if_given well_formed namespace)
    or_else unless 5 (fits (expansion namespace))

-- `expand`
unfoldable pub expanded : Bytes → Checked Bytes
expanded s = checked (names_check None (Some s)) (expand s)
