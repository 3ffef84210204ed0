use Rattle.blocks.specs.Means.{snapshot_of}
use Rattle.refs.proofs.FitRegions.{own_is, shared_is, no_common}
use Rattle.refs.proofs.fit.FitSnapshot.loose.Goals as goal
use Rattle.refs.proofs.fit.FitSnapshot.loose.Goals.{in_default-via-in-Shared+in_default, in_default-via-in_default}

pub returns-in-Shared-Some-clause-entries : goal.returns-in-Shared-Some-clause-entries
returns-in-Shared-Some-clause-entries c =
    rw (c.region.ensures.0, c.region.ensures.1, c.in-Shared-Some.is-0)
    (shared_is (snapshot_of c.args.self.snapshot) c.in-Shared-Some.field-0-1.now (rw c.in-Shared-Some.is-1))

pub returns-in_default-clause-entries : goal.returns-in_default-clause-entries
returns-in_default-clause-entries c =
    let e = c.region-in_default.ensures in
    elim c.in_default.branch [
      | in_default-via-in-Shared+in_default w ↦ rw (e.0, e.1, w.in_default.is-0) (no_common (snapshot_of c.args.self.snapshot) (rw w.in_default.is-1))
      | in_default-via-in_default w ↦ rw (e.0, e.1, w.in_default.is-0) (own_is (snapshot_of c.args.self.snapshot))
    ]
