use Rattle.blocks.specs.Means.{snapshot_of}
use Rattle.refs.specs.Means.{state_of}
use Rattle.text.proofs.Runs.{SoFar}
use Rattle.text.proofs.reflist.put_lines.Given as goal

abbrev pub invariant-loop : goal.invariant-loop
invariant-loop l = SoFar (snapshot_of l.s) 98304 l.counter (state_of l.initial.listing) (state_of l.listing) l.initial.out l.out l.count
