-- Records, field by field.
use Rattle.std.specs.Prelude.{Option, None, Some, is_some}
use Rattle.std.specs.Option.{option_map}
use Rattle.std.specs.Int.{from_bool}
use mathlib.Core.Path.{◌≡◌, refl}
use Prim.Native.Nat.{ℕ, ◌+◌, ◌*◌}
use native.Mathlib.Omega.{arith}
use mathlib.Core.List.{◌++◌}
use lib.ListN.{length, length-append}
use Rattle.names.specs.Bytes.{Bytes}
use Rattle.names.specs.Name.{longest}
use Rattle.blocks.specs.Means.{id_width}
use Rattle.blocks.specs.declared.parse.Id.{Id}
use Rattle.capi.specs.declared.report.Shown.{Shown}
use Rattle.capi.specs.Report.{Report}
use Rattle.capi.specs.Layout.{word_size, word, padded, kind_number, object_id, target_name, peeled_id, peeled_bit, reference_at, reference_bytes, reference_field, report_bytes}
use Rattle.capi.specs.Promises.{Wrote, Reported, shown}
use Rattle.capi.proofs.Fields.{low_first_length, padded_length, wrote_both}

-- three numbers at the front
pub wrote_place : (i j k : ℕ) {b m n a : Bytes} → Wrote b 0 (word i) m → Wrote m word_size (word j) n → Wrote n (2 * word_size) (word k) a → Wrote b 0 (word i ++ word j ++ word k) a
wrote_place i j k p q r =
    wrote_both (wrote_both p q (simp low_first_length (omega arith))) r (simp (length-append, low_first_length) (omega arith))

-- four numbers behind them
wrote_lengths : (i j k l : ℕ) {b m n o a : Bytes} → Wrote b reference_at (word i) m → Wrote m (reference_at + word_size) (word j) n
    → Wrote n (reference_at + 2 * word_size) (word k) o → Wrote o (reference_at + 3 * word_size) (word l) a → Wrote b reference_at (word i ++ word j ++ word k ++ word l) a
wrote_lengths i j k l p q r s =
    let two = wrote_both p q (simp low_first_length (omega arith)) in
    let three = wrote_both two r (simp (length-append, low_first_length) (omega arith)) in
    wrote_both three s (simp (length-append, low_first_length) (omega arith))

-- where the ids begin, and the names
abbrev ids_at : ℕ
ids_at = reference_at + 4 * word_size

abbrev names_at : ℕ
names_at = ids_at + 2 * id_width

-- the ids and names of a reference behind those
wrote_texts : (i j k l : ℕ) (x y n t : Bytes) {b m d e f a : Bytes} → Wrote b reference_at (word i ++ word j ++ word k ++ word l) m
    → Wrote m ids_at (padded id_width x) d → Wrote d (ids_at + id_width) (padded id_width y) e → Wrote e names_at (padded longest n) f
    → Wrote f (names_at + longest) (padded longest t) a
    → Wrote b reference_at (word i ++ word j ++ word k ++ word l ++ padded id_width x ++ padded id_width y ++ padded longest n ++ padded longest t) a
wrote_texts i j k l x y n t p q r s u =
    let one = wrote_both p q (simp (length-append, low_first_length) (omega arith)) in
    let two = wrote_both one r (simp (length-append, low_first_length, padded_length) (omega arith)) in
    let three = wrote_both two s (simp (length-append, low_first_length, padded_length) (omega arith)) in
    wrote_both three u (simp (length-append, low_first_length, padded_length) (omega arith))

-- whether there is a peeled id
peeled_there : (p : Option Id) → from_bool (is_some p) ≡ peeled_bit (option_map (λ i. i.digits) p)
peeled_there None = refl
peeled_there (Some i) = refl

-- a reference, by its parts
pub wrote_reference : (r : Shown) {b m n o p d e f a : Bytes}
    → Wrote b reference_at (word (kind_number (shown r).target)) m → Wrote m (reference_at + word_size) (word (from_bool (is_some r.peeled))) n
    → Wrote n (reference_at + 2 * word_size) (word (length r.name.now)) o → Wrote o (reference_at + 3 * word_size) (word (length (target_name (shown r).target))) p
    → Wrote p ids_at (padded id_width (object_id (shown r).target)) d
    → Wrote d (ids_at + id_width) (padded id_width (peeled_id (shown r).peeled)) e
    → Wrote e names_at (padded longest r.name.now) f
    → Wrote f (names_at + longest) (padded longest (target_name (shown r).target)) a
    → Wrote b reference_at (reference_bytes (shown r)) a
unfolding reference_bytes
wrote_reference r s t u v w x y z =
    let q = shown r in
    let numbers = wrote_lengths (kind_number q.target) (peeled_bit q.peeled) (length q.name) (length (target_name q.target)) s (rw (← peeled_there r.peeled) t) u v in
    wrote_texts (kind_number q.target) (peeled_bit q.peeled) (length q.name) (length (target_name q.target))
    (object_id q.target) (peeled_id q.peeled) q.name (target_name q.target) numbers w x y z

-- a report: its numbers, then the reference or zeros
pub reported : (r : Report) (number : ℕ) {b m a : Bytes} → number ≡ r.number → Wrote b 0 (word number ++ word r.region ++ word r.block) m
    → Wrote m reference_at (reference_field r.reference) a → Reported b r a number
unfolding report_bytes
reported r number h p q = record { bytes = rw (← h) (wrote_both p q (simp (length-append, low_first_length) (omega arith))); number = h }
