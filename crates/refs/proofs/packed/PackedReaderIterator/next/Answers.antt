use Prim.Native.Nat.{◌<◌}
use native.Mathlib.Omega.{arith}
use Rattle.blocks.specs.Block.{Region}
use Rattle.blocks.specs.Means.{id_width, block_count}
use Rattle.blocks.specs.Means.{entry_as}
use Rattle.refs.proofs.Records.{record_within, record_first}
use Rattle.refs.proofs.packed.PackedReaderIterator.next.Goals as goal

pub overflow_add-self : goal.overflow_add-self
overflow_add-self c =
    let z : c.args.self.now.at < block_count c.args.self.now.region.now = record_within id_width Region.packed c.args.self.now.region.now c.args.self.now.at (entry_as c.in_ok-found.found) c.in_ok-found.ensures in
    omega arith

pub returns-clause-steps : goal.returns-clause-steps
returns-clause-steps c = record_first id_width Region.packed c.args.self.now.region.now c.args.self.now.at (entry_as c.in_ok-found.found) c.in_ok-found.ensures
