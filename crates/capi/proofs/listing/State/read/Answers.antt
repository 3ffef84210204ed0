use mathlib.Core.Path.{refl}
use lib.ListN.{take, drop}
use Rattle.names.specs.Name.{longest}
use Rattle.names.proofs.Parts.{held_is}
use Rattle.capi.specs.Layout.{expansion_at, field, state_from}
use Rattle.capi.proofs.listing.State.read.Goals as goal

pub returns : goal.returns
unfolding state_from
returns c =
    let b = c.args.bytes.now in
    rw (c.word_at.ensures, c.word_at-2.ensures, c.word_at-3.ensures, c.word_at-ended.ensures, c.lend.ensures, c.word_at-length.ensures, held_is (take longest (drop expansion_at b)) (field 4 b)) refl
