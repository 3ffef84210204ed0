use mathlib.Core.Path.{◌∙◌}
use Rattle.std.specs.Prelude.{option_copied}
use Rattle.std.proofs.lemmas.Result.{err_from_is_err_and}
use Rattle.names.specs.Means.{content}
use Rattle.blocks.specs.Means.{snapshot_of}
use Rattle.refs.proofs.Calls.{find_turned, find_answers}
use Rattle.refs.proofs.find.find.Goals as goal

pub returns-in_err-call : goal.returns-in_err-call
returns-in_err-call c =
    let p = err_from_is_err_and c.from_residual.result c.from_residual.ensures.1 in
    rw (p.1, p.2) (find_turned (snapshot_of c.args.snapshot) c.args.name.now (option_copied c.args.namespace) _ c.in_err-call.ensures.call)

pub returns-in_default : goal.returns-in_default
returns-in_default c =
    let found = rw c.in_ok-call.ensures.same at (rw c.in_default.is at c.find_one_with_verified_input.ensures) in
    find_answers (snapshot_of c.args.snapshot) c.args.name.now (option_copied c.args.namespace) (content c.in_ok-call.call.expansion) c.in_ok-call.ensures.call _ found

pub returns-in_err-reference : goal.returns-in_err-reference
returns-in_err-reference c =
    let p = err_from_is_err_and c.from_residual-in_err-reference.result c.from_residual-in_err-reference.ensures.1 in
    let found = rw c.in_ok-call.ensures.same at c.in-Some.ensures in
    let said = c.in_err-reference.ensures in
    rw (p.1, p.2) (find_answers (snapshot_of c.args.snapshot) c.args.name.now (option_copied c.args.namespace) (content c.in_ok-call.call.expansion) c.in_ok-call.ensures.call _ (said ∙ found))

pub returns : goal.returns
returns c =
    let found = rw c.in_ok-call.ensures.same at c.in-Some.ensures in
    let said = c.in_ok-reference.ensures in
    find_answers (snapshot_of c.args.snapshot) c.args.name.now (option_copied c.args.namespace) (content c.in_ok-call.call.expansion) c.in_ok-call.ensures.call _ (said ∙ found)
