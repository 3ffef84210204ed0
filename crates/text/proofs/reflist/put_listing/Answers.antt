use Rattle.std.specs.Prelude.{None}
use Rattle.blocks.specs.Means.{id_width, snapshot_of}
use Rattle.refs.specs.Means.{open_number, state_of}
use Rattle.refs.proofs.ListOpens.{not_opened_answers, opened_answers}
use Rattle.text.specs.Reflist.{block_total}
use Rattle.text.proofs.Puts.{wider}
use Rattle.text.proofs.Runs.{then_end, none_listed, total_is}
use native.Mathlib.Omega.{arith}
use Rattle.text.proofs.reflist.put_listing.Goals as goal

pub returns-in-Ok : goal.returns-in-Ok
returns-in-Ok c =
    let s = snapshot_of c.args.s in
    let all = total_is s c.common_or_empty-common.result.now c.common_or_empty-common.ensures in
    rw (opened_answers id_width s None (block_total s) (state_of c.in-Ok.listing) c.in-Ok.ensures, ← all) (then_end _ c.put_lines-count.ensures.text c.put_lines-count.ensures.counted c.put_numbered.ensures)

pub returns-in-Err : goal.returns-in-Err
returns-in-Err c =
    let s = snapshot_of c.args.s in
    rw (not_opened_answers id_width s None (block_total s) (open_number c.in-Err.field-0) c.in-Err.ensures, none_listed) (wider c.put_numbered-in-Err.ensures (omega arith))
