use mathlib.Core.Path.{sym, ◌∙◌}
use Rattle.blocks.specs.Means.{id_width, region_of}
use Rattle.blocks.proofs.Entries.{entry_is, entry_unsound}
use Rattle.blocks.proofs.block.Block.entry.Goals.{in_default-via-in-Some+else-is_sound, in_default-via-in_default}
use Rattle.blocks.proofs.block.Block.entry.Goals as goal

pub returns-in-Some : goal.returns-in-Some
returns-in-Some c =
    let p = c.in-Some.p in
    rw (c.new.ensures, p.kind_is, p.name_is, p.content_is, ← c.in-Some.ensures) (entry_is id_width (region_of c.args.region) p.block.bytes.now (sym c.is_sound.ensures ∙ c.if-is_sound.true))

pub returns-in_default : goal.returns-in_default
returns-in_default c =
    elim c.in_default.branch [
      | in_default-via-in-Some+else-is_sound w ↦ rw (← w.in-Some.ensures) (entry_unsound id_width (region_of c.args.region) w.in-Some.p.block.bytes.now (sym w.is_sound.ensures ∙ w.if-is_sound.false))
      | in_default-via-in_default w ↦ entry_unsound id_width (region_of c.args.region) c.args.self.bytes.now (w.in_default.ensures (region_of c.args.region))
    ]
