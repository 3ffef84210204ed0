use Rattle.std.proofs.Common.{◌≡◌, ◌≤◌, drop}
use Rattle.replay.specs.Input.{largest, number_behind}
use Rattle.replay.proofs.input.read_number.Given as goal

-- The invariant: the number is the one that the digits left give, behind the value so far.
abbrev pub invariant-loop-b : goal.invariant-loop-b
invariant-loop-b l = record { so_far : number_behind 0 l.s ≡ number_behind l.value (drop l.b-index l.s); fits : l.value ≤ largest }
