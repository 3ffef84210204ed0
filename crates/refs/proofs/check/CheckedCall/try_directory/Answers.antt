use mathlib.Core.Path.{sym, ◌∙◌}
use Rattle.std.specs.Prelude.{None, Some, true}
use Rattle.names.specs.Means.{content}
use Rattle.names.proofs.Held.{pushed_there, pushed_not}
use Rattle.blocks.specs.Means.{snapshot_of}
use Rattle.blocks.specs.Means.{entry_as}
use Rattle.refs.proofs.Lookups.{absent_looked_up, held_looked_up}
use Rattle.refs.proofs.check.CheckedCall.try_directory.Goals as goal

pub returns-in_err-ok : goal.returns-in_err-ok
returns-in_err-ok c =
    let p = c.put_full_name_ref in
    let none = sym (pushed_not p.new.out p.result (sym c.ok.ensures.value ∙ c.in_err-ok.was)) in
    rw c.from_residual.ensures (absent_looked_up (content c.args.self.now.expansion) (snapshot_of c.args.self.now.snapshot.snapshot) _ true (none ∙ p.ensures))

pub returns-in_err-entry : goal.returns-in_err-entry
returns-in_err-entry c =
    let p = c.put_full_name_ref in
    let there = sym (pushed_there p.new.out p.result _ (sym c.ok.ensures.value ∙ c.in_ok-ok.was)) in
    rw c.from_residual-in_err-entry.ensures
    (held_looked_up (content c.args.self.now.expansion) (snapshot_of c.args.self.now.snapshot.snapshot) _ true _ (there ∙ p.ensures) None (rw c.as_bytes.ensures.bytes at c.in_err-entry.ensures))

pub returns : goal.returns
returns c =
    let p = c.put_full_name_ref in
    let there = sym (pushed_there p.new.out p.result _ (sym c.ok.ensures.value ∙ c.in_ok-ok.was)) in
    held_looked_up (content c.args.self.now.expansion) (snapshot_of c.args.self.now.snapshot.snapshot) _ true _ (there ∙ p.ensures) (Some (entry_as c.in_ok-entry.entry.entry)) (rw c.as_bytes.ensures.bytes at c.in_ok-entry.ensures)
