use Rattle.blocks.specs.Means.{snapshot_of}
use Rattle.refs.specs.Means.{state_of, step_of}
use Rattle.text.proofs.Runs.{none_yet, one_more}
use Rattle.text.proofs.reflist.put_lines.Goals as goal

pub loop-init : goal.loop-init
loop-init c = none_yet (snapshot_of c.args.s) 98304 (state_of c.args.listing) c.args.out.now

pub loop-preserved : goal.loop-preserved
loop-preserved c =
    let loop = c.loop in
    one_more (snapshot_of c.args.s) 98304 (state_of c.args.listing) c.args.out.now loop.counter (state_of loop.listing) loop.out c.put_answer.new.out loop.count c.weight-count.result (step_of c.step-answer.result c.step-answer.new.self) c.step-answer.ensures c.weight-count.ensures c.put_answer.ensures loop.invariant
