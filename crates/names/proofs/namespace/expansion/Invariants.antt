use mathlib.Core.Path.{◌≡◌}
use mathlib.Core.Bool.{true}
use mathlib.Core.List.{map}
use Rattle.names.specs.Name.{fits}
use Rattle.names.specs.Means.{content}
use Rattle.names.proofs.Expansions.{joined}
use Rattle.names.proofs.namespace.expansion.Given as goal

-- The invariant: the name holds the components so far, which fit.
abbrev pub invariant-loop-part : goal.invariant-loop-part
invariant-loop-part l = (content l.name ≡ joined (map (λ p. p.now) l.yielded)) × (fits (content l.name) ≡ true)
