use Rattle.std.proofs.lemmas.Result.{err_from_is_err_and}
use Rattle.blocks.specs.Means.{id_width, snapshot_of}
use Rattle.blocks.proofs.Flaws.{three_regions}
use Rattle.blocks.proofs.fitness.fitness.Goals as goal

pub returns-in_err-region_fitness : goal.returns-in_err-region_fitness
returns-in_err-region_fitness c =
    let p = err_from_is_err_and c.from_residual.result c.from_residual.ensures.1 in
    rw (p.1, p.2, three_regions id_width (snapshot_of c.args.s), ← c.in_err-region_fitness.ensures)

pub returns-in_err-region_fitness-2 : goal.returns-in_err-region_fitness-2
returns-in_err-region_fitness-2 c =
    let r = c.from_residual-in_err-region_fitness-2 in
    let p = err_from_is_err_and r.result r.ensures.1 in
    rw (p.1, p.2, three_regions id_width (snapshot_of c.args.s), ← c.in_ok-region_fitness.ensures, ← c.common_or_empty.ensures, ← c.in_err-region_fitness-2.ensures)

pub returns : goal.returns
returns c =
    rw (three_regions id_width (snapshot_of c.args.s), ← c.in_ok-region_fitness.ensures, ← c.common_or_empty.ensures, ← c.in_ok-region_fitness-2.ensures) c.region_fitness-3.ensures
