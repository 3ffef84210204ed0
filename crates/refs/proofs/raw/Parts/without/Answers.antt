use Rattle.refs.proofs.Says.{strip_fits, ids_of}
use Rattle.refs.proofs.raw.Parts.without.Goals as goal

pub returns : goal.returns
returns c =
    rw (c.cut.ensures, c.without.ensures, strip_fits c.args.e.now c.args.self.name.now c.args.self.name_fits, c.target_without.ensures, ids_of c.args.self.peeled c.map.result c.map.ensures.cases)
