-- A name and a namespace: rows 3 and 4.
use mathlib.Core.Path.{◌≡◌}
use mathlib.Core.Bool.{Bool, true}
use denote.Ref.{Bor}
use Rattle.std.specs.Prelude.{Option, None, Some, MatchOption, option_copied}
use Rattle.names.specs.Bytes.{Bytes}
use Rattle.names.specs.Namespace.{passes_if_given}

-- what is asked of a namespace that is given
pub given : (f : Bytes → Bool) (o : Option (Bor Bytes)) (r : Bool) → MatchOption o (r ≡ true) (λ n. r ≡ f n.now) → r ≡ passes_if_given f (option_copied o)
given f None r h = h
given f (Some n) r h = h
