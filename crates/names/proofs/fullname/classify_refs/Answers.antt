use Rattle.names.specs.Bytes.{bytes}
use Rattle.names.proofs.Classes.{below_refs}
use Rattle.names.proofs.Slices.{stripped}
use Rattle.names.proofs.fullname.classify_refs.Goals as goal

-- The tests are those of `below_refs`, in its order.
pub returns-in-Some : goal.returns-in-Some
returns-in-Some c =
    let r = c.args.rest.now in
    rw (
      below_refs r,
      stripped (bytes "tags/") r c.in-Some.ensures.cases.0,
      c.in-Some.ensures.cases.1,
    )

pub returns-in-Some-strip_prefix : goal.returns-in-Some-strip_prefix
returns-in-Some-strip_prefix c =
    let r = c.args.rest.now in
    rw (
      below_refs r,
      stripped (bytes "tags/") r c.in_default.ensures.cases,
      stripped (bytes "heads/") r c.in-Some-strip_prefix.ensures.cases.0,
      c.in-Some-strip_prefix.ensures.cases.1,
    )

pub returns-in-Some-strip_prefix-2 : goal.returns-in-Some-strip_prefix-2
returns-in-Some-strip_prefix-2 c =
    let r = c.args.rest.now in
    rw (
      below_refs r,
      stripped (bytes "tags/") r c.in_default.ensures.cases,
      stripped (bytes "heads/") r c.in_default-strip_prefix.ensures.cases,
      stripped (bytes "remotes/") r c.in-Some-strip_prefix-2.ensures.cases.0,
      c.in-Some-strip_prefix-2.ensures.cases.1,
    )

pub returns-then-starts_with : goal.returns-then-starts_with
returns-then-starts_with c =
    let r = c.args.rest.now in
    rw (
      below_refs r,
      stripped (bytes "tags/") r c.in_default.ensures.cases,
      stripped (bytes "heads/") r c.in_default-strip_prefix.ensures.cases,
      stripped (bytes "remotes/") r c.in_default-strip_prefix-2.ensures.cases,
      ← c.starts_with.ensures,
      c.if-starts_with.true,
    )

pub returns-then-starts_with-2 : goal.returns-then-starts_with-2
returns-then-starts_with-2 c =
    let r = c.args.rest.now in
    rw (
      below_refs r,
      stripped (bytes "tags/") r c.in_default.ensures.cases,
      stripped (bytes "heads/") r c.in_default-strip_prefix.ensures.cases,
      stripped (bytes "remotes/") r c.in_default-strip_prefix-2.ensures.cases,
      ← c.starts_with.ensures,
      c.if-starts_with.false,
      ← c.starts_with-2.ensures,
      c.if-starts_with-2.true,
    )

pub returns-then-starts_with-3 : goal.returns-then-starts_with-3
returns-then-starts_with-3 c =
    let r = c.args.rest.now in
    rw (
      below_refs r,
      stripped (bytes "tags/") r c.in_default.ensures.cases,
      stripped (bytes "heads/") r c.in_default-strip_prefix.ensures.cases,
      stripped (bytes "remotes/") r c.in_default-strip_prefix-2.ensures.cases,
      ← c.starts_with.ensures,
      c.if-starts_with.false,
      ← c.starts_with-2.ensures,
      c.if-starts_with-2.false,
      ← c.starts_with-3.ensures,
      c.if-starts_with-3.true,
    )

pub returns-then-starts_with-4 : goal.returns-then-starts_with-4
returns-then-starts_with-4 c =
    let r = c.args.rest.now in
    rw (
      below_refs r,
      stripped (bytes "tags/") r c.in_default.ensures.cases,
      stripped (bytes "heads/") r c.in_default-strip_prefix.ensures.cases,
      stripped (bytes "remotes/") r c.in_default-strip_prefix-2.ensures.cases,
      ← c.starts_with.ensures,
      c.if-starts_with.false,
      ← c.starts_with-2.ensures,
      c.if-starts_with-2.false,
      ← c.starts_with-3.ensures,
      c.if-starts_with-3.false,
      ← c.starts_with-4.ensures,
      c.if-starts_with-4.true,
    )

pub returns : goal.returns
returns c =
    let r = c.args.rest.now in
    rw (
      below_refs r,
      stripped (bytes "tags/") r c.in_default.ensures.cases,
      stripped (bytes "heads/") r c.in_default-strip_prefix.ensures.cases,
      stripped (bytes "remotes/") r c.in_default-strip_prefix-2.ensures.cases,
      ← c.starts_with.ensures,
      c.if-starts_with.false,
      ← c.starts_with-2.ensures,
      c.if-starts_with-2.false,
      ← c.starts_with-3.ensures,
      c.if-starts_with-3.false,
      ← c.starts_with-4.ensures,
      c.if-starts_with-4.false,
    )
