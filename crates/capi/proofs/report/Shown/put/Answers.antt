use Rattle.capi.proofs.Records.{wrote_reference}
use Rattle.capi.proofs.report.Shown.put.Goals as goal

pub returns : goal.returns
returns c =
    let target = c.target_name-target.ensures in
    wrote_reference c.args.self.now
    (rw c.kind.ensures at c.put_word.ensures)
    (rw (c.from.ensures, c.is_some.ensures) at c.put_word-2.ensures)
    c.put_word-3.ensures
    (rw target at c.put_word-4.ensures)
    (rw c.id.ensures at c.put_padded.ensures)
    (rw c.peeled_id.ensures at c.put_padded-2.ensures)
    c.put_padded-3.ensures
    (rw target at c.put_padded-4.ensures)
