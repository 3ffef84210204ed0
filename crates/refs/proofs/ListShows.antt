-- Which names a listing shows: what the scope of an expansion takes off them.
use mathlib.Core.Path.{◌≡◌, refl}
use mathlib.Core.List.{[], ◌∷◌}
use Rattle.names.specs.Bytes.{Bytes}
use Rattle.refs.specs.View.{scope}

pub stripped_is : (e : Bytes) → (scope e).stripped ≡ e
stripped_is [] = refl
stripped_is (b ∷ e) = refl
