-- How a report and a listing's state lie in a lent output.
use Rattle.std.specs.Prelude.{ℕ, zero, suc, ◌+◌, ◌*◌, ◌/◌, ◌%◌, [], ◌∷◌, ◌++◌, Bool, true, false, not, eqb, length, take, drop, replicate}
use Rattle.std.specs.Prelude.{Option, None, Some}
use Rattle.names.specs.Bytes.{Bytes}
use Rattle.names.specs.Name.{longest}
use Rattle.blocks.specs.Content.{Target, object, symbolic}
use Rattle.blocks.specs.Means.{id_width}
-- a text in a field of so many bytes, zeros behind it
unfoldable pub use Rattle.blocks.specs.Means.{padded}
use Rattle.refs.specs.Answer.{Reference}
use Rattle.refs.specs.Listing.{Positions}
use Rattle.refs.specs.Run.{State}
use Rattle.capi.specs.Report.{Report}

-- ---- numbers and texts

-- so many bytes of a number, low first
unfoldable pub low_first : ℕ → ℕ → Bytes
low_first zero n = []
low_first (suc k) n = n % 256 ∷ low_first k (n / 256)

-- the number that bytes hold, low first
unfoldable pub from_low_first : Bytes → ℕ
from_low_first [] = 0
from_low_first (b ∷ s) = b + 256 * from_low_first s

-- every number has 8 bytes
abbrev pub word_size : ℕ
word_size = 8

abbrev pub word : ℕ → Bytes
word n = low_first word_size n

-- 1 or 0
abbrev pub bit : Bool → ℕ
bit true = 1
bit false = 0

-- ---- a reference

-- 1 for an object, 2 for a symbolic target; 0 stands where there is no reference
abbrev pub kind_number : Target → ℕ
kind_number (object id) = 1
kind_number (symbolic n) = 2

-- the id of an object
abbrev pub object_id : Target → Bytes
object_id (object id) = id
object_id (symbolic n) = []

-- the name of a symbolic target
abbrev pub target_name : Target → Bytes
target_name (object id) = []
target_name (symbolic n) = n

-- the peeled id, and whether it is there
abbrev pub peeled_id : Option Bytes → Bytes
peeled_id None = []
peeled_id (Some p) = p

abbrev pub peeled_bit : Option Bytes → ℕ
peeled_bit None = 0
peeled_bit (Some p) = 1

-- four numbers, two ids and two names
abbrev pub reference_size : ℕ
reference_size = 4 * word_size + 2 * id_width + 2 * longest

-- kind, whether peeled, both names' lengths; the id, the peeled id, the name, the target's name
unfoldable pub reference_bytes : Reference → Bytes
reference_bytes r =
    word (kind_number r.target)
    ++ word (peeled_bit r.peeled)
    ++ word (length r.name)
    ++ word (length (target_name r.target))
    ++ padded id_width (object_id r.target)
    ++ padded id_width (peeled_id r.peeled)
    ++ padded longest r.name
    ++ padded longest (target_name r.target)

-- zeros, where there is no reference
abbrev pub reference_field : Option Reference → Bytes
reference_field None = replicate reference_size 0
reference_field (Some r) = reference_bytes r

-- ---- a report

-- the reference stands behind three numbers
abbrev pub reference_at : ℕ
reference_at = 3 * word_size

-- the numbers and the reference
abbrev pub report_size : ℕ
report_size = reference_at + reference_size

-- the number, region and block, the reference
unfoldable pub report_bytes : Report → Bytes
report_bytes r = word r.number ++ word r.region ++ word r.block ++ reference_field r.reference

-- ---- a listing's state

-- the expansion stands behind five numbers
abbrev pub expansion_at : ℕ
expansion_at = 5 * word_size

-- the numbers and a name
abbrev pub state_size : ℕ
state_size = expansion_at + longest

-- three positions, whether ended, the expansion's length
abbrev pub number_bytes : Positions → Bool → ℕ → Bytes
number_bytes at ended length = word at.worktree ++ word at.common ++ word at.packed ++ word (bit ended) ++ word length

-- the numbers, and the expansion
unfoldable pub state_bytes : State → Bytes
state_bytes s = number_bytes s.at s.ended (length s.expansion) ++ padded longest s.expansion

-- the number in field k of a state
abbrev pub field : ℕ → Bytes → ℕ
field k b = from_low_first (take word_size (drop (k * word_size) b))

-- the name in a state's last field, of so many bytes, all of them where that is more
abbrev pub name_field : ℕ → Bytes → Bytes
name_field n b = take n (take longest (drop expansion_at b))

-- the state that any bytes stand for
unfoldable pub state_from : Bytes → State
state_from b =
    record {
      at = record { worktree = field 0 b; common = field 1 b; packed = field 2 b };
      ended = not (eqb (field 3 b) 0);
      expansion = name_field (field 4 b) b;
    }
