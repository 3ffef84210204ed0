use native.Mathlib.Omega.{arith}
use Rattle.std.proofs.Common.{rules}
use Rattle.std.proofs.lemmas.Iterator.{YieldsList-from_slice, YieldsList-from_map}
use Rattle.std.proofs.lemmas.Iterator.Consumers.{sum_by_from_yields_List}
use borrow.Author.Tests.{tests}
use Rattle.names.specs.Promises.{width_in}
use Rattle.names.proofs.Expansions.{short_fits, widths, widths_most}
use Rattle.names.proofs.namespace.expansion_fits.Goals as goal

pub returns-then-s-le-SHORT : goal.returns-then-s-le-SHORT
returns-then-s-le-SHORT c = rw (short_fits c.args.s.now c.if-s-le-SHORT.true)

pub overflow_add-result : goal.overflow_add-result
overflow_add-result c =
    let s = c.args.s.now in
    let total = sum_by_from_yields_List width_in s c.map.result _ c.sum.ensures.ran (YieldsList-from_map _ width_in (YieldsList-from_slice s (cc)) c.map.ensures.closure (λ x r q k. search (rules, tests))) in
    omega (arith, total, widths_most s, c.requires)

pub returns : goal.returns
returns c =
    let s = c.args.s.now in
    let total = sum_by_from_yields_List width_in s c.map.result _ c.sum.ensures.ran (YieldsList-from_map _ width_in (YieldsList-from_slice s (cc)) c.map.ensures.closure (λ x r q k. search (rules, tests))) in
    rw (total, widths s)
