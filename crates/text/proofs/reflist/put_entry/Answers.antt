use Rattle.text.specs.Reflist.{entry_line}
use Rattle.text.proofs.Puts.{◌then◌}
use Rattle.text.proofs.reflist.put_entry.Goals as goal

pub returns : goal.returns
unfolding entry_line
returns c = c.put_name.ensures then c.put.ensures then c.put_short.ensures then c.put-2.ensures then c.put_target.ensures then c.put-3.ensures
