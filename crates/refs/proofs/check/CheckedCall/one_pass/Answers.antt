use mathlib.Core.Path.{◌∙◌, sym}
use Rattle.names.specs.Means.{content}
use Rattle.blocks.specs.Means.{snapshot_of}
use Rattle.refs.proofs.Searching.{left_found, left_next, left_end}
use Rattle.refs.proofs.check.CheckedCall.one_pass.Goals as goal

pub returns-then-is_some : goal.returns-then-is_some
returns-then-is_some c rest =
    left_found (content c.args.self.now.expansion) (snapshot_of c.args.self.now.snapshot.snapshot) c.args.pseudo c.args.x.now _ c.args.directories.now _ c.loop-between.invariant c.loop-between-test.true _ c.try_directory-hit.result c.try_directory-hit.ensures (sym c.is_some.ensures ∙ c.if-is_some.true) rest

pub loop-between-preserved : goal.loop-between-preserved
loop-between-preserved c =
    left_next (content c.args.self.now.expansion) (snapshot_of c.args.self.now.snapshot.snapshot) c.args.pseudo c.args.x.now _ c.args.directories.now _ c.loop-between.invariant c.loop-between-test.true _ c.try_directory-hit.result c.try_directory-hit.ensures (sym c.is_some.ensures ∙ c.if-is_some.false)

pub returns : goal.returns
returns c rest = left_end (content c.args.self.now.expansion) (snapshot_of c.args.self.now.snapshot.snapshot) c.args.pseudo c.args.x.now _ c.args.directories.now _ c.loop-between.invariant c.loop-between-test.false rest
