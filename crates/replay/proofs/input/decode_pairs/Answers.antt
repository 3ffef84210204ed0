use Rattle.std.proofs.Common.{arith, ◌+◌, ◌*◌, ◌/◌, length, refl}
use Rattle.replay.proofs.Digits.{in_chunks, pair_more, pairs_end}
use Rattle.replay.proofs.input.decode_pairs.Goals as goal

pub loop-high-init : goal.loop-high-init
loop-high-init c =
    let s = c.args.s.now in
    record { count = rw c.clear.ensures; so_far = rw (c.clear.ensures, c.as_chunks.ensures.front) (in_chunks (length s / 2) s refl) }

pub loop-high-preserved : goal.loop-high-preserved
loop-high-preserved c =
    let l = c.loop-high in
    let x = c.digit_value.result in
    let y = c.digit_value-in-loop-high.result in
    let p = c.digit_value.ensures.0 in
    let q = c.digit_value-in-loop-high.ensures.0 in
    record {
      count = omega (arith, c.push.ensures.len, l.invariant.count);
      so_far = rw c.push.ensures.items (pair_more c.as_chunks.result.0.now l.to.items _ l.high-index (x * 16 + y) (omega arith) (cc) l.invariant.so_far);
    }

pub returns : goal.returns
returns c = pairs_end c.as_chunks.result.0.now c.loop-high.to.items _ c.loop-high.high-index (omega arith) c.loop-high.invariant.so_far
