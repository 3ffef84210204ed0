use Prim.Native.Nat.{◌≤◌}
use lib.ListN.{length}
use Rattle.names.specs.Name.{longest}
use Rattle.names.proofs.Classes.{short_length}
use native.Mathlib.Omega.{arith}
use Rattle.text.proofs.Puts.{wider}
use Rattle.text.proofs.reflist.put_short.Goals as goal

pub returns : goal.returns
returns c =
    let short : length c.short_name.result.now ≤ longest = rw c.short_name.ensures (omega (arith, short_length c.as_bytes.result.now, c.as_bytes.ensures.within)) in
    rw (← c.as_bytes.ensures.bytes, ← c.short_name.ensures) (wider c.put.ensures short)
