use lib.ListN.{drop}
use Rattle.names.specs.Means.{content}
use Rattle.blocks.specs.Means.{snapshot_of}
use Rattle.refs.specs.Promises.{full_names}
use Rattle.refs.proofs.Searching.{Left}
use Rattle.refs.proofs.check.CheckedCall.one_pass.Given as goal

abbrev pub invariant-loop-between : goal.invariant-loop-between
invariant-loop-between l =
    Left (content l.self.expansion) (snapshot_of l.self.snapshot.snapshot) (full_names l.pseudo l.x l.directories) (full_names l.pseudo l.x (drop l.between-index l.directories))
