use mathlib.Core.Logic.{⊎_elim}
use Rattle.names.specs.Route.{packed_as}
use Rattle.names.proofs.Placed.{packed_class, packed_none}
use Rattle.names.proofs.find.transform_full_name_for_lookup.Goals as goal

pub returns-in_default : goal.returns-in_default
returns-in_default c = rw (packed_none c.args.s.now c.in_default.ensures)

pub returns-in-Tag : goal.returns-in-Tag
unfolding packed_as
returns-in-Tag c = rw (packed_class c.args.s.now _ _ c.in-Some.ensures) (⊎_elim (λ e. rw e) (⊎_elim (λ e. rw e) (λ e. rw e)) c.in-Tag.is)

pub returns-in-Note : goal.returns-in-Note
unfolding packed_as
returns-in-Note c = rw (packed_class c.args.s.now _ _ c.in-Some.ensures) (⊎_elim (λ e. rw e) (⊎_elim (λ e. rw e) (λ e. rw e)) c.in-Note.is)

pub returns-in-MainRef : goal.returns-in-MainRef
unfolding packed_as
returns-in-MainRef c = rw (packed_class c.args.s.now _ _ c.in-Some.ensures) (⊎_elim (λ e. rw e) (λ e. rw e.1) c.in-MainRef.is)

pub returns-in-PseudoRef : goal.returns-in-PseudoRef
unfolding packed_as
returns-in-PseudoRef c = rw (packed_class c.args.s.now _ _ c.in-Some.ensures) (⊎_elim (λ e. rw e) (λ e. rw e) c.in-PseudoRef.is)

pub returns-in-LinkedPseudoRef : goal.returns-in-LinkedPseudoRef
unfolding packed_as
returns-in-LinkedPseudoRef c = rw (packed_class c.args.s.now _ _ c.in-Some.ensures) (⊎_elim (λ e. rw e.1) (λ e. rw e) c.in-LinkedPseudoRef.is)
