use mathlib.Core.Path.{refl}
use Rattle.names.specs.Means.{held}
use Rattle.names.proofs.name.Name.empty.Goals as goal

-- No bytes are held.
pub returns : goal.returns
unfolding held
returns c = refl
