use Rattle.names.proofs.Tests.{and_right}
use Rattle.refs.proofs.Says.{loose_fits, record_says}
use Rattle.refs.proofs.fit.BlockEntry.says.Goals as goal

pub invariant_of-result : goal.invariant_of-result
invariant_of-result c =
    let within = rw c.in-Loose.is at c.args.self.within in
    record { name_fits = c.requires; target_fits = loose_fits c.in-Loose.content.now _ (and_right _ _ within) c.in_ok-read-in-Loose.ensures }

pub returns-in-Record : goal.returns-in-Record
returns-in-Record c =
    let within = rw c.in-Record.is at c.args.self.within in
    rw c.in-Record.is (record_says _ _ c.in-Record.peeled (and_right _ _ within))
