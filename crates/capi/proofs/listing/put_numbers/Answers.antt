use Rattle.refs.specs.Means.{positions_of}
use Rattle.capi.proofs.States.{bit_is, wrote_numbers}
use Rattle.capi.proofs.listing.put_numbers.Goals as goal

pub returns : goal.returns
returns c =
    let cursor = c.args.cursor in
    wrote_numbers (positions_of cursor.at) cursor.ended c.args.length
    c.put_word.ensures
    c.put_word-2.ensures
    c.put_word-3.ensures
    (rw (c.from.ensures, bit_is cursor.ended) at c.put_word-4.ensures)
    c.put_word-5.ensures
