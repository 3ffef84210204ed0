use Rattle.text.specs.Refshow.{refused_line}
use Rattle.text.proofs.Puts.{◌then◌, wider}
use Rattle.text.proofs.refshow.put_refused.Goals as goal

pub returns : goal.returns
unfolding refused_line
returns c = rw (← c.words.ensures.text, ← c.from.ensures) (c.put.ensures then c.put_number.ensures then c.put-2.ensures then wider c.put-3.ensures c.words.ensures.short then c.put-4.ensures)
