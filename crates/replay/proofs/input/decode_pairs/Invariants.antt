use Rattle.std.proofs.Common.{◌≡◌, ◌++◌, length, drop}
use Rattle.replay.specs.Input.{pairs}
use Rattle.replay.proofs.Digits.{decoded}
use Rattle.replay.proofs.input.decode_pairs.Given as goal

-- The invariant: what was decoded, and what is left to decode.
abbrev pub invariant-loop-high : goal.invariant-loop-high
invariant-loop-high l = record { count : length l.to.items ≡ l.high-index; so_far : pairs l.s ≡ l.to.items ++ decoded (drop l.high-index l.pairs) }
