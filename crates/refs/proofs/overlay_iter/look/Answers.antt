use Rattle.blocks.specs.Means.{region_of, entry_as}
use Rattle.refs.proofs.Whole.{entry_whole}
use Rattle.refs.proofs.ListWaits.{look_none, look_error, look_name, look_past}
use Rattle.refs.proofs.overlay_iter.look.Goals as goal
use Rattle.refs.proofs.overlay_iter.look.Goals.{in_default-via-in-Some+else-not-shows, in_default-via-in_default}

pub returns-in_err-entry-clause-waits : goal.returns-in_err-entry-clause-waits
returns-in_err-entry-clause-waits c = look_none (region_of c.args.region) c.args.s.now c.args.e.now c.args.k c.requires c.in_err-entry.ensures

pub returns-in-Some-clause-waits : goal.returns-in-Some-clause-waits
returns-in-Some-clause-waits c =
    let args = c.args in
    look_past (region_of args.region) args.s.now args.e.now args.k c.requires c.in_ok-entry.entry c.in_ok-entry.ensures
    c.in-Some.n.now c.in-Some.ensures c.shows.result c.shows.ensures c.if-not-shows.true

pub returns-in_default-clause-waits : goal.returns-in_default-clause-waits
returns-in_default-clause-waits c =
    let args = c.args in
    elim c.in_default.branch [
      | in_default-via-in-Some+else-not-shows w ↦ look_name (region_of args.region) args.s.now args.e.now args.k c.requires c.in_ok-entry.entry c.in_ok-entry.ensures
          w.in-Some.n.now w.in-Some.ensures w.shows.result w.shows.ensures w.if-not-shows.false
      | in_default-via-in_default w ↦ look_error (region_of args.region) args.s.now args.e.now args.k c.requires c.in_ok-entry.entry c.in_ok-entry.ensures w.in_default.ensures
    ]

pub invariant_of-found : goal.invariant_of-found
invariant_of-found c = record {
  within = entry_whole (region_of c.args.region) c.args.s.now c.args.k (entry_as c.in_ok-entry.entry) c.in_ok-entry.ensures;
}
