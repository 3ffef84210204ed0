-- Where each field of a record begins: the numbers of the C header.
use mathlib.Core.Path.{◌≡◌, refl, ap, ◌∙◌}
use Prim.Native.Nat.{ℕ, ◌+◌}
use native.Mathlib.Omega.{arith}
use mathlib.Core.List.{◌++◌, append_assoc}
use Rattle.std.specs.Prelude.{Some}
use lib.ListN.{length, take, drop, length-append}
use lib.Seq.{take_at, take_all, drop_at}
use Rattle.names.specs.Bytes.{Bytes}
use Rattle.names.specs.Name.{longest}
use Rattle.blocks.specs.Means.{id_width}
use Rattle.refs.specs.Answer.{Reference}
use Rattle.refs.specs.Run.{State}
use Rattle.capi.specs.Report.{Report}
use Rattle.capi.specs.Layout.{low_first, word, bit, padded, kind_number, object_id, target_name, peeled_id, peeled_bit, reference_bytes, report_size, report_bytes, state_size, state_bytes}
use Rattle.capi.proofs.Fields.{padded_length}

-- so many bytes from a position on
abbrev pub part : ℕ → ℕ → Bytes → Bytes
part at n b = take n (drop at b)

-- the sizes
pub sizes : (report_size ≡ 636) × (state_size ≡ 290)
sizes = (refl, refl)

-- a report's numbers
pub record ReportNumbers (r : Report) : Type 0 where
  pub number : part 0 8 (report_bytes r) ≡ word r.number
  pub region : part 8 8 (report_bytes r) ≡ word r.region
  pub block : part 16 8 (report_bytes r) ≡ word r.block

pub report_numbers : (r : Report) → ReportNumbers r
unfolding report_bytes low_first
report_numbers r = record { number = refl; region = refl; block = refl }

-- what a report has of a reference
pub record ReferenceFields (b : Bytes) (q : Reference) : Type 0 where
  pub kind : part 24 8 b ≡ word (kind_number q.target)
  pub has_peeled : part 32 8 b ≡ word (peeled_bit q.peeled)
  pub name_length : part 40 8 b ≡ word (length q.name)
  pub target_length : part 48 8 b ≡ word (length (target_name q.target))
  pub id : part 56 40 b ≡ padded id_width (object_id q.target)
  pub peeled : part 96 40 b ≡ padded id_width (peeled_id q.peeled)
  pub name : part 136 250 b ≡ padded longest q.name
  pub target : part 386 250 b ≡ padded longest (target_name q.target)

-- the middle one of three
middle : (a b c : Bytes) (k n : ℕ) → length a ≡ k → length b ≡ n → part k n (a ++ b ++ c) ≡ b
middle a b c k n ha hb = ap (part k n) (append_assoc a b c) ∙ ap (take n) (drop_at a (b ++ c) k ha) ∙ take_at b c n hb

-- four texts one behind the other
module _ (i j k l : ℕ) (w x y z : Bytes) (hw : length w ≡ i) (hx : length x ≡ j) (hy : length y ≡ k) (hz : length z ≡ l) where
  first : take i (w ++ x ++ y ++ z) ≡ w
  first = ap (take i) (append_assoc (w ++ x) y z ∙ append_assoc w x (y ++ z)) ∙ take_at w (x ++ (y ++ z)) i hw

  second : part i j (w ++ x ++ y ++ z) ≡ x
  second = ap (part i j) (append_assoc (w ++ x) y z) ∙ middle w x (y ++ z) i j hw hx

  third : part (i + j) k (w ++ x ++ y ++ z) ≡ y
  third = middle (w ++ x) y z (i + j) k (simp length-append (omega (arith, hw, hx))) hy

  fourth : part (i + j + k) l (w ++ x ++ y ++ z) ≡ z
  fourth = ap (take l) (drop_at (w ++ x ++ y) z (i + j + k) (simp length-append (omega (arith, hw, hx, hy)))) ∙ take_all l z (omega (arith, hz))

pub reference_fields : (number region block : ℕ) (q : Reference)
    → ReferenceFields (report_bytes (record { number = number; region = region; block = block; reference = Some q })) q
unfolding report_bytes reference_bytes low_first
reference_fields number region block q =
    let w = padded id_width (object_id q.target) in
    let x = padded id_width (peeled_id q.peeled) in
    let y = padded longest q.name in
    let z = padded longest (target_name q.target) in
    let hw = padded_length id_width (object_id q.target) in
    let hx = padded_length id_width (peeled_id q.peeled) in
    let hy = padded_length longest q.name in
    let hz = padded_length longest (target_name q.target) in
    record {
      kind = refl;
      has_peeled = refl;
      name_length = refl;
      target_length = refl;
      id = first id_width id_width longest longest w x y z hw hx hy hz;
      peeled = second id_width id_width longest longest w x y z hw hx hy hz;
      name = third id_width id_width longest longest w x y z hw hx hy hz;
      target = fourth id_width id_width longest longest w x y z hw hx hy hz;
    }

-- a state's fields
pub record StateFields (s : State) : Type 0 where
  pub worktree : part 0 8 (state_bytes s) ≡ word s.at.worktree
  pub common : part 8 8 (state_bytes s) ≡ word s.at.common
  pub packed : part 16 8 (state_bytes s) ≡ word s.at.packed
  pub ended : part 24 8 (state_bytes s) ≡ word (bit s.ended)
  pub expansion_length : part 32 8 (state_bytes s) ≡ word (length s.expansion)
  pub expansion : part 40 250 (state_bytes s) ≡ padded longest s.expansion

pub state_fields : (s : State) → StateFields s
unfolding state_bytes low_first
state_fields s = record { worktree = refl; common = refl; packed = refl; ended = refl; expansion_length = refl; expansion = take_all longest (padded longest s.expansion) (omega (arith, padded_length longest s.expansion)) }
