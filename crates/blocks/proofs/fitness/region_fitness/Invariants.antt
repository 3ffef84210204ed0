use mathlib.Core.Path.{◌≡◌}
use lib.ListN.{drop}
use Rattle.std.specs.Prelude.{option_copied}
use Rattle.blocks.specs.Entry.{entries}
use Rattle.blocks.specs.Fitness.{first_flaw, flaw_from}
use Rattle.blocks.specs.Means.{id_width, region_of}
use Rattle.blocks.proofs.fitness.region_fitness.Given as goal

-- The invariant: the region's first flaw is that of the blocks from k on, after the name of the block before.
abbrev pub invariant-loop-k : goal.invariant-loop-k
invariant-loop-k l = first_flaw (region_of l.region) (entries id_width (region_of l.region) l.s) ≡ flaw_from (region_of l.region) (option_copied l.before) l.k (drop l.k (entries id_width (region_of l.region) l.s))
