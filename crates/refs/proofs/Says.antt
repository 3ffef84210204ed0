-- What an entry says, and that its parts fit.
use mathlib.Core.Path.{◌≡◌, refl, ◌∙◌, ap}
use denote.Ref.{Bor}
use mathlib.Core.List.{List}
use mathlib.Core.Bool.{Bool, true, false, ◌&&◌}
use Rattle.refs.specs.Answer.{found}
use Prim.Native.Nat.{ℕ, ◌≤◌}
use native.Mathlib.Omega.{arith}
use borrow.Author.Tests.{le-leb, leb-true, eqb-true}
use lib.Dec.{leb}
use lib.ListN.{length, take}
use lib.Seq.{take_all}
use Rattle.std.specs.Prelude.{Option, None, Some, Ok, if◌then◌else◌, MatchOption, IsSomeAnd}
use Rattle.std.specs.Option.{option_map}
use Rattle.names.specs.Bytes.{Bytes, bytes, same, starts_with, strip}
use Rattle.names.specs.Name.{longest, fits}
use Rattle.names.specs.WellFormed.{complete}
use Rattle.names.proofs.Prefix.{strip_length}
use Rattle.names.proofs.Tests.{and_left, and_right}
use Rattle.blocks.specs.Layout.{longest_content}
use Rattle.blocks.specs.Content.{Target, object, symbolic, Reading, reads, unreadable, lower_case, target_name_in, read_target, read_id, read}
use Rattle.blocks.specs.Means.{id_width, id_in, read_as}
use Rattle.blocks.specs.declared.parse.Id.{Id}
use Rattle.blocks.specs.declared.decode.TargetRef.{TargetRef}
use Rattle.blocks.specs.declared.decode.TargetRef.TheVariants as ref
use Rattle.blocks.proofs.Contents.{target_le}
use Rattle.blocks.proofs.Ids.{id_whole}
use Rattle.refs.specs.Whole.{whole_id, whole_if_given, target_in, target_fits}

-- ---- loose

pub reads_target : (t : TargetRef) (r : Reading) → read_as (Ok t) ≡ r → reads (target_in t) ≡ r
reads_target (ref.Object d) r h = h
reads_target (ref.Symbolic n) r h = h

target_read : (c : Bytes) (x : Target) → length c ≤ longest → reads x ≡ read id_width c → target_fits x ≡ true
unfolding read read_target read_id
target_read c (object d) l h = refl
target_read c (symbolic t) l h = go (starts_with (bytes "ref: ") c) h
  where
    named : (b d : Bool) → reads (symbolic t) ≡ (if b then reads (symbolic (target_name_in c)) else if d then unreadable 12 else unreadable 11) → fits t ≡ true
    named true d q = let z : t ≡ target_name_in c = cc in le-leb _ _ (rw z (omega (arith, target_le c)))
    named false true q = absurd (let z : ◌≡◌ {A = ℕ} 0 1 = cc in omega arith)
    named false false q = absurd (let z : ◌≡◌ {A = ℕ} 0 1 = cc in omega arith)

    other : (b : Bool) → reads (symbolic t) ≡ (if b then reads (object (lower_case (take id_width c))) else unreadable 10) → fits t ≡ true
    other true q = absurd (let z : ◌≡◌ {A = ℕ} 0 1 = cc in omega arith)
    other false q = absurd (let z : ◌≡◌ {A = ℕ} 0 1 = cc in omega arith)

    go : (b : Bool) → reads (symbolic t) ≡ (if b then read_target (target_name_in c) else read_id id_width c) → fits t ≡ true
    go true q = named (complete (target_name_in c)) (same (target_name_in c) (bytes "refs/heads/.invalid")) q
    go false q = other _ q

pub loose_fits : (c : Bytes) (t : TargetRef) → leb (length c) longest_content ≡ true → read_as (Ok t) ≡ read id_width c → target_fits (target_in t) ≡ true
loose_fits c t l h = target_read c (target_in t) (leb-true _ _ l) (reads_target t _ h)

-- ---- packed

whole_is : (d : Bytes) → whole_id d ≡ true → id_in id_width d ≡ lower_case d
whole_is d h =
    let l : length d ≡ id_width = eqb-true _ _ h in
    id_whole id_width d (omega arith) ∙ rw (take_all id_width d (omega arith))

peeled_is : (p : Option (Bor (List ℕ))) → whole_if_given (option_map (λ r. r.now) p) ≡ true → option_map (λ d. id_in id_width d.now) p ≡ option_map lower_case (option_map (λ r. r.now) p)
peeled_is None h = refl
peeled_is (Some d) h = rw (whole_is d.now h)

pub record_says : (m t : Bytes) (p : Option (Bor (List ℕ))) → (whole_id t && whole_if_given (option_map (λ r. r.now) p)) ≡ true
    → found (record { name = m; target = object (id_in id_width t); peeled = option_map (λ d. id_in id_width d.now) p }) ≡ found (record { name = m; target = object (lower_case t); peeled = option_map lower_case (option_map (λ r. r.now) p) })
record_says m t p h = rw (whole_is t (and_left _ _ h), peeled_is p (and_right (whole_id t) _ h))

-- ---- names

-- stripped, it still fits
pub strip_fits : (e s : Bytes) → length s ≤ longest → take longest (strip e s) ≡ strip e s
strip_fits e s h = take_all longest (strip e s) (omega (arith, strip_length e s))

pub cut_stripped : (e s : Bytes) → fits s ≡ true → take longest (strip e s) ≡ strip e s
cut_stripped e s h = strip_fits e s (leb-true (length s) longest h)

-- ---- ids

-- the ids of some digits
pub ids_of : (p : Option (Bor Bytes)) (q : Option Id) → MatchOption p (q ≡ None) (λ d. IsSomeAnd q (λ i. i.digits ≡ id_in id_width d.now))
    → option_map (λ i. i.digits) q ≡ option_map (λ d. id_in id_width d.now) p
ids_of None q h = rw h refl
ids_of (Some d) None h = absurd h
ids_of (Some d) (Some i) h = ap Some h
