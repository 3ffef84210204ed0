use Rattle.std.proofs.Common.{arith, refl, sym, ◌∙◌}
use Rattle.replay.specs.Input.{byte_string}
use Rattle.replay.proofs.Digits.{not_too_long}
use Rattle.replay.proofs.input.read_bytes.Goals as goal

pub returns-then-equal : goal.returns-then-equal
unfolding byte_string
returns-then-equal c =
    record { gives = rw (c.clear.ensures, ← c.equal.ensures, c.if-equal.true); stays = λ h. (cc) }

pub returns-then-not-is_pairs : goal.returns-then-not-is_pairs
unfolding byte_string
returns-then-not-is_pairs c =
    record { gives = rw (← c.equal.ensures, c.if-equal.false, ← c.is_pairs.ensures, c.if-not-is_pairs.true); stays = λ h. refl }

pub decode_pairs-requires : goal.decode_pairs-requires
decode_pairs-requires c =
    let h = not_too_long c.args.s.now (sym c.is_pairs.ensures ∙ c.if-not-is_pairs.false) in
    omega arith

pub returns : goal.returns
unfolding byte_string
returns c =
    record { gives = rw (c.decode_pairs.ensures, ← c.equal.ensures, c.if-equal.false, ← c.is_pairs.ensures, c.if-not-is_pairs.false); stays = λ h. (cc) }
