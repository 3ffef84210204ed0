use mathlib.Core.Path.{refl, sym, ◌∙◌}
use mathlib.Core.List.{map}
use native.Mathlib.Omega.{arith}
use lib.ListN.{take, length-set}
use Rattle.std.proofs.lemmas.Result.{err_from_is_err_and}
use Rattle.names.specs.Means.{content}
use Rattle.blocks.specs.Means.{snapshot_of}
use Rattle.refs.specs.Answer.{nothing, found, refused}
use Rattle.refs.specs.Reasons.{reason_number}
use Rattle.refs.specs.Means.{reference_of}
use Rattle.refs.proofs.Seen.{contains_among, stored, object_ends, not_found_ends, refused_ends, cycle_ends, goes_on, depth_reached}
use Rattle.refs.proofs.check.CheckedCall.follow_from.Goals as goal

pub returns-in-Object : goal.returns-in-Object
returns-in-Object c =
    let loop = c.loop-n in
    object_ends (content c.args.self.now.expansion) (snapshot_of c.args.self.now.snapshot.snapshot) loop.n (omega arith) (map content (take loop.n loop.seen)) (reference_of loop.last) c.in-Object.id.digits (rw c.in-Object.is)
    ∙ sym loop.invariant.same

pub returns-in_default : goal.returns-in_default
returns-in_default c =
    let loop = c.loop-n in
    let search = rw (c.as_bytes-target.ensures.bytes, c.in_default.is) at c.find_one_with_verified_input.ensures in
    not_found_ends (content c.args.self.now.expansion) (snapshot_of c.args.self.now.snapshot.snapshot) loop.n (omega arith) (map content (take loop.n loop.seen)) (reference_of loop.last) (content c.in-Symbolic.name) (rw c.in-Symbolic.is) nothing search refl
    ∙ sym loop.invariant.same

pub returns-in_err-next : goal.returns-in_err-next
returns-in_err-next c =
    let loop = c.loop-n in
    let search = rw c.as_bytes-target.ensures.bytes at c.in-Some.ensures in
    let p = err_from_is_err_and c.from_residual.result c.from_residual.ensures.1 in
    rw (p.1, p.2)
    (refused_ends (content c.args.self.now.expansion) (snapshot_of c.args.self.now.snapshot.snapshot) loop.n (omega arith) (map content (take loop.n loop.seen)) (reference_of loop.last) (content c.in-Symbolic.name) (rw c.in-Symbolic.is) (refused (reason_number c.in_err-next.field-0.0)) (c.in_err-next.ensures ∙ search) (reason_number c.in_err-next.field-0.0) refl
    ∙ sym loop.invariant.same)

pub returns-then-contains : goal.returns-then-contains
returns-then-contains c =
    let loop = c.loop-n in
    let search = rw c.as_bytes-target.ensures.bytes at c.in-Some.ensures in
    let next = reference_of c.in_ok-next.next in
    cycle_ends (content c.args.self.now.expansion) (snapshot_of c.args.self.now.snapshot.snapshot) loop.n (omega arith) (map content (take loop.n loop.seen)) (reference_of loop.last) (content c.in-Symbolic.name) (rw c.in-Symbolic.is) (found next) (c.in_ok-next.ensures ∙ search) next refl
    (sym (contains_among c.in_ok-next.next.name (take loop.n loop.seen)) ∙ sym c.contains.ensures.value ∙ c.if-contains.true)
    ∙ sym loop.invariant.same

pub loop-n-preserved : goal.loop-n-preserved
loop-n-preserved c =
    let loop = c.loop-n in
    let search = rw c.as_bytes-target.ensures.bytes at c.in-Some.ensures in
    let next = reference_of c.in_ok-next.next in
    record {
      size = simp length-set loop.invariant.size;
      same = loop.invariant.same
          ∙ goes_on (content c.args.self.now.expansion) (snapshot_of c.args.self.now.snapshot.snapshot) loop.n (omega arith) (map content (take loop.n loop.seen)) (reference_of loop.last) (content c.in-Symbolic.name) (rw c.in-Symbolic.is) (found next) (c.in_ok-next.ensures ∙ search) next refl
          (sym (contains_among c.in_ok-next.next.name (take loop.n loop.seen)) ∙ sym c.contains.ensures.value ∙ c.if-contains.false)
          ∙ rw (stored loop.seen loop.n c.in_ok-next.next.name (omega (arith, loop.invariant.size)));
    }

pub returns : goal.returns
returns c =
    let loop = c.loop-n in
    depth_reached (content c.args.self.now.expansion) (snapshot_of c.args.self.now.snapshot.snapshot) loop.n c.loop-n-test.false (map content (take loop.n loop.seen)) (reference_of loop.last)
    ∙ sym loop.invariant.same
