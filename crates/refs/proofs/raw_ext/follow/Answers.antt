use mathlib.Core.Path.{refl, ◌∙◌}
use Rattle.std.specs.Prelude.{option_copied}
use Rattle.std.proofs.lemmas.Result.{err_from_is_err_and}
use Rattle.names.specs.Means.{content}
use Rattle.blocks.specs.Means.{snapshot_of}
use Rattle.refs.proofs.Calls.{follow_turned, follow_answers}
use Rattle.refs.proofs.Seen.{starts_nowhere, starts_refused, starts_found}
use Rattle.refs.proofs.raw_ext.follow.Goals as goal

pub returns-in_err-call : goal.returns-in_err-call
returns-in_err-call c =
    let p = err_from_is_err_and c.from_residual.result c.from_residual.ensures.1 in
    rw (p.1, p.2) (follow_turned (snapshot_of c.args.snapshot) c.args.name.now (option_copied c.args.namespace) _ c.in_err-call.ensures.call)

pub returns-in_default : goal.returns-in_default
returns-in_default c =
    let found = rw c.in_ok-call.ensures.same at (rw c.in_default.is at c.find_one_with_verified_input.ensures) in
    (follow_answers (snapshot_of c.args.snapshot) c.args.name.now (option_copied c.args.namespace) (content c.in_ok-call.call.expansion) c.in_ok-call.ensures.call _
    (starts_nowhere (content c.in_ok-call.call.expansion) (snapshot_of c.args.snapshot) c.args.name.now _ found refl))

pub returns-in_err-first : goal.returns-in_err-first
returns-in_err-first c =
    let found = rw c.in_ok-call.ensures.same at c.in-Some.ensures in
    let said = c.in_err-first.ensures in
    let p = err_from_is_err_and c.from_residual-in_err-first.result c.from_residual-in_err-first.ensures.1 in
    rw (p.1, p.2) (follow_answers (snapshot_of c.args.snapshot) c.args.name.now (option_copied c.args.namespace) (content c.in_ok-call.call.expansion) c.in_ok-call.ensures.call _
    (starts_refused (content c.in_ok-call.call.expansion) (snapshot_of c.args.snapshot) c.args.name.now _ (said ∙ found) _ refl))

pub returns-in_err-follow_from : goal.returns-in_err-follow_from
returns-in_err-follow_from c =
    let found = rw c.in_ok-call.ensures.same at c.in-Some.ensures in
    let said = c.in_ok-first.ensures in
    let trail = rw c.in_ok-call.ensures.same at c.in_err-follow_from.ensures in
    let p = err_from_is_err_and c.from_residual-in_err-follow_from.result c.from_residual-in_err-follow_from.ensures.1 in
    rw (p.1, p.2) (follow_answers (snapshot_of c.args.snapshot) c.args.name.now (option_copied c.args.namespace) (content c.in_ok-call.call.expansion) c.in_ok-call.ensures.call _
    (trail ∙ starts_found (content c.in_ok-call.call.expansion) (snapshot_of c.args.snapshot) c.args.name.now _ (said ∙ found) _ refl))

pub returns : goal.returns
returns c =
    let found = rw c.in_ok-call.ensures.same at c.in-Some.ensures in
    let said = c.in_ok-first.ensures in
    let trail = rw c.in_ok-call.ensures.same at c.in_ok-follow_from.ensures in
    (follow_answers (snapshot_of c.args.snapshot) c.args.name.now (option_copied c.args.namespace) (content c.in_ok-call.call.expansion) c.in_ok-call.ensures.call _
    (trail ∙ starts_found (content c.in_ok-call.call.expansion) (snapshot_of c.args.snapshot) c.args.name.now _ (said ∙ found) _ refl))
