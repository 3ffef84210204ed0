use mathlib.Core.Path.{◌≡◌, ap, ◌∙◌}
use native.Mathlib.Omega.{arith}
use Rattle.blocks.specs.Means.{id_width, snapshot_of}
use Rattle.refs.specs.Run.{State, Step, step}
use Rattle.capi.specs.Layout.{state_from}
use Rattle.refs.specs.Means.{advanced}
use Rattle.capi.proofs.States.{step_short, step_given}
use Rattle.capi.proofs.listing.cosvint_list_step.Goals as goal

pub returns-then-state-lt-STATE_SIZE : goal.returns-then-state-lt-STATE_SIZE
returns-then-state-lt-STATE_SIZE c =
    let args = c.args in
    step_short (step id_width (snapshot_of args.s) (state_from args.state.now)) args.state.now args.out.now c.then-state-lt-STATE_SIZE.either

pub returns : goal.returns
returns c =
    let args = c.args in
    let d = step id_width (snapshot_of args.s) (state_from args.state.now) in
    let now = c.read-now in
    let a = c.advance-step in
    let kept : now.result.expansion.now ≡ (state_from args.state.now).expansion = ap (λ (s : State). s.expansion) now.ensures in
    let made : advanced now.result.expansion.now a.result a.new.self ≡ d = a.ensures ∙ ap (step id_width (snapshot_of args.s)) now.ensures in
    step_given d (omega (arith, c.if-state-lt-STATE_SIZE.false)) (omega (arith, c.if-out-lt-REPORT_SIZE.false)) kept (ap (λ (s : Step). s.next) made)
    (rw (c.listed.ensures, ap (λ (s : Step). s.answer) made) at c.put-number.ensures) c.put_next.ensures
