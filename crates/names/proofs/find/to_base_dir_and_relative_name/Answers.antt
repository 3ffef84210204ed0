use mathlib.Core.Logic.{⊎_elim}
use Rattle.names.specs.Route.{route_as}
use Rattle.names.proofs.Placed.{route_class, route_none}
use Rattle.names.proofs.find.to_base_dir_and_relative_name.Goals as goal

pub returns-in_default : goal.returns-in_default
returns-in_default c = rw (route_none c.args.s.now c.in_default.ensures)

pub returns-in-Tag : goal.returns-in-Tag
unfolding route_as
returns-in-Tag c = rw (route_class c.args.s.now _ _ c.in-Some.ensures) (⊎_elim (λ e. rw e) (λ e. rw e) c.in-Tag.is)

pub returns-in-RemoteBranch : goal.returns-in-RemoteBranch
unfolding route_as
returns-in-RemoteBranch c = rw (route_class c.args.s.now _ _ c.in-Some.ensures) (⊎_elim (λ e. rw e) (λ e. rw e) c.in-RemoteBranch.is)

pub returns-in-LinkedPseudoRef : goal.returns-in-LinkedPseudoRef
unfolding route_as
returns-in-LinkedPseudoRef c = rw (route_class c.args.s.now _ _ c.in-Some.ensures, c.in-LinkedPseudoRef.is)

pub returns-in-PseudoRef : goal.returns-in-PseudoRef
unfolding route_as
returns-in-PseudoRef c = rw (route_class c.args.s.now _ _ c.in-Some.ensures) (⊎_elim (λ e. rw e) (λ e. rw e) c.in-PseudoRef.is)

pub returns-in-Rewritten : goal.returns-in-Rewritten
unfolding route_as
returns-in-Rewritten c = rw (route_class c.args.s.now _ _ c.in-Some.ensures) (⊎_elim (λ e. rw e) (λ e. rw e) c.in-Rewritten.is)

pub returns-in-MainPseudoRef : goal.returns-in-MainPseudoRef
unfolding route_as
returns-in-MainPseudoRef c = rw (route_class c.args.s.now _ _ c.in-Some.ensures) (⊎_elim (λ e. rw e) (λ e. rw e) c.in-MainPseudoRef.is)

pub returns-then-is_private : goal.returns-then-is_private
unfolding route_as
returns-then-is_private c = rw (route_class c.args.s.now _ _ c.in-Some.ensures, c.in-LinkedRef.is, ← c.is_private.ensures, c.if-is_private.true)

pub returns-else-is_private : goal.returns-else-is_private
unfolding route_as
returns-else-is_private c = rw (route_class c.args.s.now _ _ c.in-Some.ensures, c.in-LinkedRef.is, ← c.is_private.ensures, c.if-is_private.false)
