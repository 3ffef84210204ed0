use Rattle.capi.proofs.Fields.{over}
use Rattle.capi.proofs.layout.put_padded.Goals as goal

pub returns : goal.returns
returns c =
    let args = c.args in
    let clear = c.clear in
    let lend = c.lend in
    over args.out.now args.at args.width clear.new.out args.s.now lend.result.now c.put.new.out clear.ensures lend.ensures c.put.ensures
