use Rattle.capi.specs.Promises.{state_of}
use Rattle.capi.proofs.States.{wrote_state}
use Rattle.capi.proofs.listing.State.put.Goals as goal

pub returns : goal.returns
returns c = wrote_state (state_of c.args.self) c.put_numbers.ensures c.put_padded.ensures
