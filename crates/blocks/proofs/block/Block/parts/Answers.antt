use mathlib.Core.Path.{◌≡◌, sym, ap, ◌∙◌}
use Rattle.std.specs.Option.{option_map}
use Rattle.blocks.specs.Block.{block_kind, block_name, block_content}
use Rattle.blocks.specs.Means.{id_width, kind_number, Within}
use Rattle.blocks.proofs.Parts.{name_held, content_held}
use Rattle.blocks.proofs.Clauses.{within, kind_at, never_sound_kind, never_sound_lengths}
use Rattle.blocks.proofs.block.Block.parts.Goals as goal

pub returns-in_err-kind : goal.returns-in_err-kind
unfolding block_kind
returns-in_err-kind c =
    rw c.from_residual.ensures (never_sound_kind id_width c.args.self.bytes.now (ap (option_map kind_number) c.in_err-kind.ensures.value ∙ c.try_from.ensures))

pub returns-then-not-lengths_right : goal.returns-then-not-lengths_right
returns-then-not-lengths_right c = never_sound_lengths id_width c.args.self.bytes.now (sym c.lengths_right.ensures ∙ c.if-not-lengths_right.true)

pub invariant_of-result : goal.invariant_of-result
unfolding block_kind
invariant_of-result c =
    let b = c.args.self.bytes.now in
    let w : Within b = within b (sym c.lengths_right.ensures ∙ c.if-not-lengths_right.false) in
    let name : c.name.result.now ≡ block_name b = c.name.ensures.value ∙ name_held b w.name in
    let content : c.content.result.now ≡ block_content b = c.content.ensures.value ∙ content_held b w.content in
    record {
      within = w;
      kind_is = kind_at b _ (ap (option_map kind_number) c.in_ok-kind.ensures.value ∙ c.try_from.ensures);
      name_is = name;
      content_is = content;
      name_long = c.name.ensures.long w.name;
      content_long = c.content.ensures.long w.content;
    }
