use mathlib.Core.Path.{◌∙◌, sym}
use Rattle.std.specs.Prelude.{true, false}
use Rattle.names.proofs.Passes.{pass_is}
use Rattle.names.specs.Means.{content}
use Rattle.blocks.specs.Means.{snapshot_of}
use Rattle.refs.proofs.Searching.{pseudo_first, pseudo_second, pseudo_last, found_first, found_last}
use Rattle.refs.proofs.check.CheckedCall.find_one_with_verified_input.Goals as goal

pub returns-then-is_some : goal.returns-then-is_some
returns-then-is_some c =
    let x = c.args.x.now in
    pseudo_first (content c.args.self.now.expansion) (snapshot_of c.args.self.now.snapshot.snapshot) x c.one_pass-itself.result (sym c.if-is_pseudo_ref.true ∙ c.is_pseudo_ref.ensures)
    (λ rest. rw (pass_is x true) (c.one_pass-itself.ensures rest)) (sym c.is_some.ensures ∙ c.if-is_some.true)

pub returns-then-is_some-2 : goal.returns-then-is_some-2
returns-then-is_some-2 c =
    let x = c.args.x.now in
    pseudo_second (content c.args.self.now.expansion) (snapshot_of c.args.self.now.snapshot.snapshot) x c.one_pass-itself.result (sym c.if-is_pseudo_ref.true ∙ c.is_pseudo_ref.ensures)
    (λ rest. rw (pass_is x true) (c.one_pass-itself.ensures rest)) (sym c.is_some.ensures ∙ c.if-is_some.false)
    c.one_pass-hit.result (λ rest. rw (pass_is x false) (c.one_pass-hit.ensures rest)) (sym c.is_some-then-is_pseudo_ref.ensures ∙ c.if-is_some-2.true)

pub returns-then-is_pseudo_ref : goal.returns-then-is_pseudo_ref
returns-then-is_pseudo_ref c =
    let x = c.args.x.now in
    c.try_remote_head.ensures
    ∙ pseudo_last (content c.args.self.now.expansion) (snapshot_of c.args.self.now.snapshot.snapshot) x c.one_pass-itself.result (sym c.if-is_pseudo_ref.true ∙ c.is_pseudo_ref.ensures)
    (λ rest. rw (pass_is x true) (c.one_pass-itself.ensures rest)) (sym c.is_some.ensures ∙ c.if-is_some.false)
    c.one_pass-hit.result (λ rest. rw (pass_is x false) (c.one_pass-hit.ensures rest)) (sym c.is_some-then-is_pseudo_ref.ensures ∙ c.if-is_some-2.false)

pub returns-then-is_some-3 : goal.returns-then-is_some-3
returns-then-is_some-3 c =
    let x = c.args.x.now in
    found_first (content c.args.self.now.expansion) (snapshot_of c.args.self.now.snapshot.snapshot) x c.one_pass-hit-2.result (sym c.if-is_pseudo_ref.false ∙ c.is_pseudo_ref.ensures)
    (λ rest. rw (pass_is x true) (c.one_pass-hit-2.ensures rest)) (sym c.is_some-2.ensures ∙ c.if-is_some-3.true)

pub returns : goal.returns
returns c =
    let x = c.args.x.now in
    c.try_remote_head-2.ensures
    ∙ found_last (content c.args.self.now.expansion) (snapshot_of c.args.self.now.snapshot.snapshot) x c.one_pass-hit-2.result (sym c.if-is_pseudo_ref.false ∙ c.is_pseudo_ref.ensures)
    (λ rest. rw (pass_is x true) (c.one_pass-hit-2.ensures rest)) (sym c.is_some-2.ensures ∙ c.if-is_some-3.false)
