use mathlib.Core.Path.{◌∙◌}
use mathlib.Core.Bool.{and-false}
use Rattle.std.proofs.Common.{rules}
use lib.ListN.{length}
use borrow.Author.Tests.{le-leb, lt-leb}
use Rattle.names.specs.Category.{to_full_name, full_of}
use Rattle.names.specs.Means.{content, category_of, full_checked}
use Rattle.names.specs.Name.{longest}
use Rattle.names.proofs.Held.{fits_is, fits_not}
use Rattle.names.proofs.Rows.{to_full_checked}
use Rattle.names.proofs.fullname.Category.to_full_name.Goals as goal

pub returns-in-Some : goal.returns-in-Some
returns-in-Some c =
    let short = c.args.short.now in
    let whole = full_of (category_of c.args.self) short in
    let e = c.as_bytes.ensures.bytes ∙ fits_is whole (content c.in-Some.name) c.in-Some.ensures in
    let k = rw e at c.try_from.ensures in
    rw (to_full_checked (category_of c.args.self) short (le-leb (length short) longest c.if-short-le-LONGEST.true)) k

pub returns-in_default : goal.returns-in_default
unfolding to_full_name
returns-in_default c = rw (lt-leb (length c.args.short.now) longest c.if-short-le-LONGEST.false)

pub returns-in_default-2 : goal.returns-in_default-2
unfolding to_full_name
returns-in_default-2 c =
    let whole = full_of (category_of c.args.self) c.args.short.now in
    rw (fits_not whole c.in_default.ensures, and-false)
