use Rattle.std.proofs.Common.{rules}
use borrow.Author.Tests.{leb-true}
use lib.ListN.{length}
use Rattle.names.specs.Name.{longest}
use Rattle.names.proofs.Rows.{namespace_rows, partial_fits}
use Rattle.names.proofs.namespace.check_namespace.Goals as goal

-- As a partial name, and then 5.
pub returns-in_err-check_partial : goal.returns-in_err-check_partial
returns-in_err-check_partial c =
    let k = c.in_err-check_partial.ensures in
    rw (namespace_rows c.args.s.now, ← k) (search rules)

pub expansion_fits-requires : goal.expansion_fits-requires
expansion_fits-requires c =
    let s = c.args.s.now in
    leb-true (length s) longest (partial_fits s c.in_ok-check_partial.ensures)

pub returns-then-expansion_fits : goal.returns-then-expansion_fits
returns-then-expansion_fits c = rw (namespace_rows c.args.s.now, ← c.in_ok-check_partial.ensures, ← c.expansion_fits.ensures, c.if-expansion_fits.true)

pub returns-else-expansion_fits : goal.returns-else-expansion_fits
returns-else-expansion_fits c = rw (namespace_rows c.args.s.now, ← c.in_ok-check_partial.ensures, ← c.expansion_fits.ensures, c.if-expansion_fits.false)
