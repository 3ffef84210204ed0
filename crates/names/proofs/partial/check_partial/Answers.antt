use lib.ListN.{length}
use borrow.Author.Tests.{le-leb, lt-leb}
use Rattle.names.specs.Name.{longest}
use Rattle.names.specs.Namespace.{names_check}
use Rattle.names.proofs.partial.check_partial.Goals as goal

-- 3 where the bytes do not fit, then 4.
pub returns-then-s-gt-LONGEST : goal.returns-then-s-gt-LONGEST
unfolding names_check
returns-then-s-gt-LONGEST c = rw (lt-leb (length c.args.s.now) longest c.if-s-gt-LONGEST.true)

pub returns-then-not-well_formed : goal.returns-then-not-well_formed
unfolding names_check
returns-then-not-well_formed c =
    rw (
      le-leb (length c.args.s.now) longest c.if-s-gt-LONGEST.false,
      ← c.well_formed-2.ensures,
      c.if-not-well_formed.true,
    )

pub returns : goal.returns
unfolding names_check
returns c =
    rw (
      le-leb (length c.args.s.now) longest c.if-s-gt-LONGEST.false,
      ← c.well_formed-2.ensures,
      c.if-not-well_formed.false,
    )
