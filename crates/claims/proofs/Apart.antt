-- What is compared, as bytes: where these differ, so do the answers.
use mathlib.Core.Path.{◌≡◌}
use mathlib.Core.List.{List, [], ◌∷◌, ◌++◌}
use mathlib.Core.Bool.{Bool, false}
use Rattle.names.specs.Bytes.{Bytes, same}
use Rattle.names.specs.Check.{Checked, gives, refuses}
use Rattle.names.proofs.Tests.{not_both}
use Rattle.names.proofs.Orders.{same_refl}
use Rattle.blocks.specs.Content.{Target, object, symbolic}
use Rattle.refs.specs.Answer.{Answer, nothing, found, refused}
use Rattle.refs.specs.Search.{Result, answers, turned_away, unfit}
use Rattle.claims.specs.Compared.{Outcome, no_reference, an_id, number}

abbrev target_bytes : Target → Bytes
target_bytes (object id) = 0 ∷ id
target_bytes (symbolic t) = 1 ∷ t

abbrev answer_bytes : Answer → Bytes
answer_bytes nothing = 0 ∷ []
answer_bytes (found r) = 1 ∷ (r.name ++ target_bytes r.target)
answer_bytes (refused k) = 2 ∷ k ∷ []

unfoldable pub answers_bytes : List Answer → Bytes
answers_bytes [] = []
answers_bytes (a ∷ l) = answer_bytes a ++ answers_bytes l

-- of a listing
abbrev pub handed_bytes : Checked (List Answer × Bool) → Bytes
handed_bytes (gives h) = 0 ∷ answers_bytes h.0
handed_bytes (refuses k) = 1 ∷ k ∷ []

-- of a following
abbrev pub outcome_bytes : Outcome → Bytes
outcome_bytes no_reference = 0 ∷ []
outcome_bytes (an_id id) = 1 ∷ id
outcome_bytes (number k) = 2 ∷ k ∷ []

-- of a search
abbrev pub result_bytes : Result Answer → Bytes
result_bytes (answers a) = 0 ∷ answer_bytes a
result_bytes (turned_away k) = 1 ∷ k ∷ []
result_bytes (unfit f) = 2 ∷ f.number ∷ []

pub apart : {A : Type 0} (f : A → Bytes) (x y : A) → same (f x) (f y) ≡ false → x ≡ y → ⊥
apart f x y h e = not_both (same_refl (f y)) (rw e at h)
