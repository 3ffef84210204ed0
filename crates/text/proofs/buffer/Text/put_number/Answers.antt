use Prim.Native.Nat.{◌<◌, ◌≤◌, ◌^◌}
use lib.ListN.{length}
use Rattle.std.specs.Fmt.{decimal}
use native.Mathlib.Omega.{arith}
use Rattle.std.proofs.lemmas.Fmt.{length-decimal-le}
use Rattle.text.proofs.Decimal.{decimal_is}
use Rattle.text.proofs.Puts.{wider}
use Rattle.text.proofs.buffer.Text.put_number.Goals as goal

pub returns : goal.returns
returns g c =
    let n = c.args.n in
    let small : n < 2 ^ 64 = omega (arith, c.ranges.n) in
    let short : length (decimal n) ≤ 20 = length-decimal-le 20 n (omega arith) (omega (arith, small)) small in
    rw (← decimal_is n small, ← c.format.ensures.text, ← c.as_bytes.ensures.value) (wider c.put.ensures (rw (c.as_bytes.ensures.value, c.format.ensures.text) short))
