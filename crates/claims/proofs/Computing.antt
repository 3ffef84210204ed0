-- Where `refs_compute` is unfolded, every definition computes: for tables and examples.
use Rattle.blocks.proofs.Computing.{blocks_compute}
use Rattle.refs.specs.Answer.{block_of}
use Rattle.refs.specs.Search.{clashes, file_of, entry_for, lookup, first_answer, search, find}
use Rattle.refs.specs.Follow.{among, follow_from, following, follow}
use Rattle.refs.specs.Listing.{first_waiting, move}
use Rattle.refs.specs.Run.{open_listing, step, run, listing}
use Rattle.claims.specs.Demand3.{bearing, is_held}

unfoldable pub refs_compute : Unit {0}
unfolding blocks_compute block_of clashes file_of entry_for lookup first_answer search find among follow_from following follow
    first_waiting move open_listing step run listing bearing is_held
refs_compute = tt
