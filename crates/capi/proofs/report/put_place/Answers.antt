use Rattle.capi.proofs.Records.{wrote_place}
use Rattle.capi.proofs.report.put_place.Goals as goal

pub returns : goal.returns
returns c =
    let args = c.args in
    wrote_place args.number args.region args.block (rw c.from.ensures at c.put_word.ensures) c.put_word-2.ensures c.put_word-3.ensures
