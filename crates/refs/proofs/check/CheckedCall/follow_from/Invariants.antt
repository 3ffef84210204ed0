use mathlib.Core.Path.{◌≡◌}
use mathlib.Core.List.{map, []}
use lib.ListN.{length, take}
use Rattle.names.specs.Means.{content}
use Rattle.blocks.specs.Means.{snapshot_of}
use Rattle.refs.specs.Follow.{max_ref_depth}
use Rattle.refs.specs.Means.{reference_of}
use Rattle.refs.proofs.Seen.{after_names}
use Rattle.refs.proofs.check.CheckedCall.follow_from.Given as goal

abbrev pub invariant-loop-n : goal.invariant-loop-n
invariant-loop-n l =
    record {
      size : length l.seen ≡ max_ref_depth;
      same : after_names (content l.self.expansion) (snapshot_of l.self.snapshot.snapshot) 0 [] (reference_of l.fn.first) ≡ after_names (content l.self.expansion) (snapshot_of l.self.snapshot.snapshot) l.n (map content (take l.n l.seen)) (reference_of l.last);
    }
