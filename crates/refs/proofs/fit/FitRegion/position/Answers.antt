use Rattle.std.proofs.Common.{rules}
use Rattle.std.proofs.lemmas.Fn.{always_returns_same}
use Rattle.names.specs.Means.{path}
use Rattle.blocks.specs.Means.{region_of}
use Rattle.refs.proofs.Halves.{told_is, lies, halves_find}
use Rattle.refs.proofs.fit.FitRegion.position.Goals as goal

pub returns-clause-block : goal.returns-clause-block
returns-clause-block c =
    let self = c.args.self in
    let p = path c.args.name in
    let facts = c.binary_search_by-found.ensures in
    let found = facts.position (lies p) (always_returns_same _ _ _ (λ a r f k. (told_is r _ (search rules), search rules))) in
    rw c.ok.ensures.value
    (halves_find (region_of self.region) p self.blocks.now self.flawless _ (rw c.as_chunks.ensures.front at facts.bound) (rw c.as_chunks.ensures.front at found))
