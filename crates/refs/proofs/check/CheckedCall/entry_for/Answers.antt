use mathlib.Core.Path.{◌∙◌, sym}
use Rattle.names.specs.Means.{base_of, content}
use Rattle.blocks.specs.Snapshot.{store}
use Rattle.blocks.specs.Means.{id_width, snapshot_of}
use Rattle.refs.proofs.FitRegions.{packed_is}
use Rattle.refs.proofs.Lookups.{clash_decides, file_decides, unsought, never_sought, record_decides}
use Rattle.refs.proofs.check.CheckedCall.entry_for.Goals as goal

pub returns-then-has_clash : goal.returns-then-has_clash
returns-then-has_clash c =
    let args = c.args in
    let route = c.to_base_dir_and_relative_name-base in
    clash_decides (content args.self.now.expansion) args.name.now (store id_width (snapshot_of args.self.now.snapshot.snapshot)) (base_of route.result.0) route.result.1.now route.ensures args.sought_packed
    (sym (rw (c.loose-loose.ensures.entries, c.as_bytes-e.ensures.bytes) at c.has_clash.ensures) ∙ c.if-has_clash.true)

pub returns-then-is_some : goal.returns-then-is_some
returns-then-is_some c =
    let args = c.args in
    let route = c.to_base_dir_and_relative_name-base in
    file_decides (content args.self.now.expansion) args.name.now (store id_width (snapshot_of args.self.now.snapshot.snapshot)) (base_of route.result.0) route.result.1.now route.ensures args.sought_packed
    (sym (rw (c.loose-loose.ensures.entries, c.as_bytes-e.ensures.bytes) at c.has_clash.ensures) ∙ c.if-has_clash.false)
    c.entry_of-file.result (rw (c.loose-loose.ensures.entries, c.as_bytes-e.ensures.bytes) at c.entry_of-file.ensures) (sym c.is_some.ensures ∙ c.if-is_some.true)

pub returns-then-not-sought_packed : goal.returns-then-not-sought_packed
returns-then-not-sought_packed c =
    let args = c.args in
    let route = c.to_base_dir_and_relative_name-base in
    unsought (content args.self.now.expansion) args.name.now (store id_width (snapshot_of args.self.now.snapshot.snapshot)) (base_of route.result.0) route.result.1.now route.ensures args.sought_packed
    (sym (rw (c.loose-loose.ensures.entries, c.as_bytes-e.ensures.bytes) at c.has_clash.ensures) ∙ c.if-has_clash.false)
    c.entry_of-file.result (rw (c.loose-loose.ensures.entries, c.as_bytes-e.ensures.bytes) at c.entry_of-file.ensures) (sym c.is_some.ensures ∙ c.if-is_some.false) c.if-not-sought_packed.true

pub returns-in_err-packed : goal.returns-in_err-packed
returns-in_err-packed c =
    let args = c.args in
    let route = c.to_base_dir_and_relative_name-base in
    rw c.from_residual.ensures
    (never_sought (content args.self.now.expansion) args.name.now (store id_width (snapshot_of args.self.now.snapshot.snapshot)) (base_of route.result.0) route.result.1.now route.ensures args.sought_packed
    (sym (rw (c.loose-loose.ensures.entries, c.as_bytes-e.ensures.bytes) at c.has_clash.ensures) ∙ c.if-has_clash.false)
    c.entry_of-file.result (rw (c.loose-loose.ensures.entries, c.as_bytes-e.ensures.bytes) at c.entry_of-file.ensures) (sym c.is_some.ensures ∙ c.if-is_some.false) c.if-not-sought_packed.false c.in_err-packed.ensures)

pub returns : goal.returns
returns c =
    let args = c.args in
    let route = c.to_base_dir_and_relative_name-base in
    rw (c.region.ensures.0, c.region.ensures.1, c.as_bytes-e.ensures.bytes, packed_is (snapshot_of args.self.now.snapshot.snapshot)) at c.entry_of.ensures
    ∙ record_decides (content args.self.now.expansion) args.name.now (store id_width (snapshot_of args.self.now.snapshot.snapshot)) (base_of route.result.0) route.result.1.now route.ensures args.sought_packed
    (sym (rw (c.loose-loose.ensures.entries, c.as_bytes-e.ensures.bytes) at c.has_clash.ensures) ∙ c.if-has_clash.false)
    c.entry_of-file.result (rw (c.loose-loose.ensures.entries, c.as_bytes-e.ensures.bytes) at c.entry_of-file.ensures) (sym c.is_some.ensures ∙ c.if-is_some.false) c.if-not-sought_packed.false _ c.in_ok-packed.ensures
