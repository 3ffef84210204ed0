use mathlib.Core.Path.{◌≡◌, sym, ap, ◌∙◌}
use mathlib.Core.List.{[]}
use native.Mathlib.Omega.{arith}
use Rattle.std.specs.Prelude.{option_copied}
use Rattle.blocks.specs.Entry.{entry}
use Rattle.blocks.specs.Means.{id_width, region_of, block_at, entry_as}
use Rattle.blocks.proofs.Chunks.{count, place, nth}
use Rattle.blocks.proofs.Flaws.{scan_start, scan_stop, scan_more, scan_end}
use Rattle.blocks.proofs.fitness.region_fitness.Goals as goal

pub loop-k-init : goal.loop-k-init
loop-k-init c = scan_start id_width _ _

pub returns-in-Err : goal.returns-in-Err
returns-in-Err c =
    let region = region_of c.args.region in
    let front = c.blocks-bytes-items.ensures.value in
    let k = c.loop-k.k in
    let e : entry_as c.entry-entry.result ≡ entry id_width region (block_at c.args.s.now k) = c.entry-entry.ensures ∙ ap (entry id_width region) (nth c.args.s.now _ front k c.loop-k-test.true []) in
    rw c.loop-k.invariant (scan_stop id_width _ _ (option_copied c.loop-k.before) _ (place _ _ front k c.loop-k-test.true) _ (rw (← e) c.in-Err.ensures))

pub loop-k-preserved : goal.loop-k-preserved
loop-k-preserved c =
    let region = region_of c.args.region in
    let front = c.blocks-bytes-items.ensures.value in
    let k = c.loop-k.k in
    let e : entry_as c.entry-entry.result ≡ entry id_width region (block_at c.args.s.now k) = c.entry-entry.ensures ∙ ap (entry id_width region) (nth c.args.s.now _ front k c.loop-k-test.true []) in
    rw (c.loop-k.invariant, c.name-before.ensures, e) (scan_more id_width _ _ (option_copied c.loop-k.before) _ (place _ _ front k c.loop-k-test.true) (rw (← e) c.in_default.ensures))

pub returns : goal.returns
returns c =
    rw c.loop-k.invariant (sym (scan_end id_width _ _ (option_copied c.loop-k.before) _ (omega (arith, count c.args.s.now _ c.blocks-bytes-items.ensures.value, c.loop-k-test.false))))
