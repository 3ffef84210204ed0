-- Spaces and lines, byte by byte.
use Rattle.std.specs.Prelude.{if◌then◌else◌}
use Rattle.std.specs.Prelude.{Option}
use Rattle.std.specs.List.{AllWithin, HoldsAt}
use Rattle.std.specs.Option.{MatchOption, unwrap_or}
use Rattle.std.proofs.lemmas.Iterator.{index_from_first}
use mathlib.Core.Path.{◌≡◌, refl, ap}
use mathlib.Core.Bool.{Bool, true, false}
use mathlib.Core.List.{[], ◌∷◌}
use Prim.Native.Nat.{ℕ, ◌+◌, ◌<◌}
use native.Mathlib.Numerals.{add-one}
use borrow.Author.Tests.{eq-eqb, ne_eqb}
use lib.Dec.{eqb}
use lib.ListN.{length, take, drop}
use Rattle.names.specs.Bytes.{Bytes}
use Rattle.blocks.specs.Content.{ends_line, skip_spaces, line}

-- how many spaces stand in front
abbrev pub spaces_in : Bytes → ℕ
spaces_in [] = 0
spaces_in (b ∷ s) = if eqb b 32 then spaces_in s + 1 else 0

pub drop_spaces : (s : Bytes) → drop (spaces_in s) s ≡ skip_spaces s
unfolding skip_spaces
drop_spaces [] = refl
drop_spaces (b ∷ s) = go (eqb b 32) (drop_spaces s)
  where
    go : (t : Bool) → drop (spaces_in s) s ≡ skip_spaces s → drop (if t then spaces_in s + 1 else 0) (b ∷ s) ≡ (if t then skip_spaces s else b ∷ s)
    go true ih = rw add-one ih
    go false ih = refl

-- how many bytes stand before the line's end
abbrev pub line_length : Bytes → ℕ
line_length [] = 0
line_length (b ∷ s) = if ends_line b then 0 else line_length s + 1

pub take_line : (s : Bytes) → take (line_length s) s ≡ line s
unfolding line
take_line [] = refl
take_line (b ∷ s) = go (ends_line b) (take_line s)
  where
    go : (t : Bool) → take (line_length s) s ≡ line s → take (if t then 0 else line_length s + 1) (b ∷ s) ≡ (if t then [] else b ∷ line s)
    go true ih = refl
    go false ih = rw add-one (ap (λ (t : Bytes). b ∷ t) ih)

-- the first hit of a search, or none, as a number of bytes before it
abbrev pub FirstOf : (ℕ → Type 0) → (ℕ → Type 0) → Bytes → Option ℕ → Type 0
FirstOf Yes No s r = MatchOption r (AllWithin No s 0 (length s)) (λ i. (i < length s) × HoldsAt Yes s i × AllWithin No s 0 i)

pub spaces_found : (s : Bytes) (r : Option ℕ) → FirstOf (λ b. b ≡ 32 → ⊥) (λ b. b ≡ 32) s r → spaces_in s ≡ unwrap_or r (length s)
spaces_found s r h =
    index_from_first spaces_in (λ b. b ≡ 32 → ⊥) (λ b. b ≡ 32) refl (λ b t e. rw (ne_eqb b 32 e)) (λ b t e. rw (eq-eqb b 32 e)) s r h

pub end_found : (s : Bytes) (r : Option ℕ) → FirstOf (λ b. ends_line b ≡ true) (λ b. ends_line b ≡ false) s r → line_length s ≡ unwrap_or r (length s)
end_found s r h =
    index_from_first line_length (λ b. ends_line b ≡ true) (λ b. ends_line b ≡ false) refl (λ b t e. rw e) (λ b t e. rw e) s r h
