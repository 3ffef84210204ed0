use Rattle.names.specs.Candidates.{full_name}
use Rattle.names.proofs.partial.put_full_name_ref.Goals as goal
use Rattle.names.proofs.partial.put_full_name_ref.Goals.{then-looks_like_full_name, else-looks_like_full_name}

pub returns : goal.returns
unfolding full_name
returns c =
    elim c.if-looks_like_full_name.branch [
      | then-looks_like_full_name w ↦ rw (← c.looks_like_full_name.ensures, w.if-looks_like_full_name.true) (rw (c.clear.ensures, w.front-is) at c.push_parts.ensures)
      | else-looks_like_full_name w ↦ rw (← c.looks_like_full_name.ensures, w.if-looks_like_full_name.false) (rw (c.clear.ensures, w.front-is) at c.push_parts.ensures)
    ]
