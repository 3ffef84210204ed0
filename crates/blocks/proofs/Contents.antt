-- What a loose content says, by how it begins.
use Rattle.std.specs.Prelude.{if◌then◌else◌}
use mathlib.Core.Path.{◌≡◌}
use mathlib.Core.Bool.{Bool, true, false, not}
use mathlib.Core.List.{[], ◌∷◌}
use Rattle.std.specs.Prelude.{Option, None, Some}
use Rattle.std.specs.Borrow.{Bor}
use Rattle.std.specs.Option.{MatchOption}
use Rattle.std.specs.List.{HoldsAt}
use Prim.Native.Nat.{ℕ, suc, ◌≤◌, ◌<◌}
use native.Mathlib.Omega.{arith}
use borrow.Author.Tests.{leb-true}
use lib.Dec.{eqb}
use lib.ListN.{length, take, drop, drop_of_length-le, length-drop, length-take}
use lib.Seq.{drop-cons, take-take}
use Rattle.names.specs.Bytes.{Bytes, bytes, starts_with, every, after}
use Rattle.names.specs.Means.{if_fits}
use Rattle.names.proofs.Held.{fits_is, fits_there, fits_not}
use Rattle.names.proofs.Tests.{and_left}
use Rattle.blocks.specs.Content.{object, symbolic, reads, unreadable, is_hex, ends_line, skip_spaces, line, target_name_in, begins_hex, read_target, read_id, read}
use Rattle.blocks.specs.Means.{id_in, is_id, name_reading}
use Rattle.blocks.proofs.Ids.{id_whole}

pub digit_got : (s : Bytes) (i : ℕ) (o : Option (Bor ℕ)) (r : Bool) {Q : Bor ℕ → Type 0} → MatchOption o (length s ≤ i) (λ x. (i < length s) × HoldsAt (λ y. x.now ≡ y) s i)
    → MatchOption o (r ≡ false) Q → ((x : Bor ℕ) → Q x → r ≡ is_hex x.now) → r ≡ begins_hex (drop i s)
unfolding begins_hex
digit_got s i None r h e f = rw (e, drop_of_length-le s h)
digit_got s i (Some x) r h e f = rw (f x e, drop-cons s i 0 h.0, h.1 0)

-- ---- by how it begins

module _ (width : ℕ) (s : Bytes) where
  pub read_path : starts_with (bytes "ref: ") s ≡ true → read width s ≡ read_target (target_name_in s)
  unfolding read
  read_path a = rw a

  pub id_long : is_id width s ≡ true → width ≤ length s
  id_long b = leb-true _ _ (and_left _ (every is_hex (take width s)) (and_left _ (not (begins_hex (drop width s))) b))

  pub id_bound : is_id width s ≡ true → width ≡ length (take width s)
  id_bound b = omega (arith, length-take width s, id_long b)

  pub read_object : starts_with (bytes "ref: ") s ≡ false → is_id width s ≡ true → read width s ≡ reads (object (id_in width (take width s)))
  unfolding read read_id
  read_object a b =
      let l : width ≤ length (take width s) = omega (arith, length-take width s, id_long b) in
      rw (a, b, id_whole width (take width s) l, take-take width width s (omega arith))

  pub read_neither : starts_with (bytes "ref: ") s ≡ false → is_id width s ≡ false → read width s ≡ unreadable 10
  unfolding read read_id
  read_neither a b = rw (a, b)

-- ---- targets

-- a name was made of t, or none holds it
pub name_made : (c t : Bytes) → Some c ≡ if_fits t → reads (symbolic c) ≡ name_reading t
name_made c t e = rw (fits_there t c e, fits_is t c e)

pub no_name : (t : Bytes) → None ≡ if_fits t → unreadable 11 ≡ name_reading t
no_name t e = rw (fits_not t e)

-- ---- a content of a block

spaces_le : (s : Bytes) → length (skip_spaces s) ≤ length s
unfolding skip_spaces
spaces_le [] = omega arith
spaces_le (b ∷ s) = go (eqb b 32) (spaces_le s)
  where
    go : (t : Bool) → length (skip_spaces s) ≤ length s → length (if t then skip_spaces s else b ∷ s) ≤ suc (length s)
    go true ih = omega arith
    go false ih = omega arith

line_le : (s : Bytes) → length (line s) ≤ length s
unfolding line
line_le [] = omega arith
line_le (b ∷ s) = go (ends_line b) (line_le s)
  where
    go : (t : Bool) → length (line s) ≤ length s → length (if t then [] else b ∷ line s) ≤ suc (length s)
    go true ih = omega arith
    go false ih = omega arith

-- what a content names is no longer than the content
pub target_le : (s : Bytes) → length (target_name_in s) ≤ length s
target_le s =
    let d = length-drop (length (bytes "ref: ")) s in
    let a = spaces_le (after (bytes "ref: ") s) in
    let b = line_le (skip_spaces (after (bytes "ref: ") s)) in
    omega arith

-- what is no longer than `ref: ` names nothing
pub target_short : (s : Bytes) → length s ≤ length (bytes "ref: ") → [] ≡ target_name_in s
unfolding line skip_spaces
target_short s h = rw (drop_of_length-le s h)
