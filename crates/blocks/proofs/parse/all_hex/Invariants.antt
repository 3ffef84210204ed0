use mathlib.Core.Path.{◌≡◌}
use mathlib.Core.Bool.{◌&&◌}
use lib.ListN.{drop}
use Rattle.names.specs.Bytes.{every}
use Rattle.blocks.specs.Content.{is_hex}
use Rattle.blocks.proofs.parse.all_hex.Given as goal

-- The invariant: whether every byte passed is a digit, and the rest is still to be seen.
abbrev pub invariant-loop-b : goal.invariant-loop-b
invariant-loop-b l = every is_hex l.s ≡ (l.hex && every is_hex (drop l.b-index l.s))
