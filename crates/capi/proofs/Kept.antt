-- A state that was written is read back as it was.
use mathlib.Core.Path.{◌≡◌, refl, ◌∙◌}
use Prim.Native.Nat.{ℕ, zero, suc, ◌*◌, ◌≤◌, ◌<◌, ◌/◌}
use native.Mathlib.Omega.{arith}
use mathlib.Core.Bool.{Bool, true, false, not}
use mathlib.Core.List.{◌++◌}
use lib.Dec.{eqb}
use lib.ListN.{length, take, replicate}
use lib.Seq.{take_at, take-take, take-append_seam}
use Rattle.names.specs.Bytes.{Bytes}
use Rattle.names.specs.Name.{longest}
use Rattle.refs.specs.Run.{State}
use Rattle.capi.specs.Layout.{low_first, from_low_first, word_size, bit, padded, field, name_field, state_bytes, state_from}
use Rattle.capi.proofs.Fields.{padded_length}

-- the first number that so many bytes do not hold
unfoldable pub limit : ℕ → ℕ
limit zero = 1
limit (suc k) = 256 * limit k

pub number_kept : (k n : ℕ) → n < limit k → from_low_first (low_first k n) ≡ n
unfolding limit low_first from_low_first
number_kept zero n h = omega (arith, h)
number_kept (suc k) n h =
    let less : n / 256 < limit k = omega (arith, h) in
    rw (number_kept k (n / 256) less) (omega arith)

bit_kept : (b : Bool) → not (eqb (from_low_first (low_first word_size (bit b))) 0) ≡ b
unfolding low_first from_low_first
bit_kept true = refl
bit_kept false = refl

text_kept : (width : ℕ) (s rest : Bytes) → length s ≤ width → take (length s) (take width (padded width s ++ rest)) ≡ s
unfolding padded
text_kept width s rest h =
    let whole : take width (take width (s ++ replicate width 0) ++ rest) ≡ take width (s ++ replicate width 0) = take_at (take width (s ++ replicate width 0)) rest width (padded_length width s) in
    rw whole (take-take (length s) width (s ++ replicate width 0) h ∙ take-append_seam s (replicate width 0))

-- a state whose fields are those of another
same_state : (s : State) (w c p : ℕ) (e : Bool) (n : Bytes) → w ≡ s.at.worktree → c ≡ s.at.common → p ≡ s.at.packed → e ≡ s.ended → n ≡ s.expansion
    → ◌≡◌ {A = State} (record { at = record { worktree = w; common = c; packed = p }; ended = e; expansion = n }) s
same_state s w c p e n hw hc hp he hn = rw (hw, hc, hp, he, hn) refl

name_fits : longest < limit word_size
unfolding limit
name_fits = omega arith

-- positions of 64 bits, an expansion that is a name's length at most
pub record Held (s : State) : Type 0 where
  pub worktree : s.at.worktree < limit word_size
  pub common : s.at.common < limit word_size
  pub packed : s.at.packed < limit word_size
  pub expansion : length s.expansion ≤ longest

pub state_kept : (s : State) (rest : Bytes) → Held s → state_from (state_bytes s ++ rest) ≡ s
unfolding state_from state_bytes low_first
state_kept s rest h =
    let b = state_bytes s ++ rest in
    let size : field 4 b ≡ length s.expansion = number_kept word_size (length s.expansion) (omega (arith, h.expansion, name_fits)) in
    same_state
    s
    (field 0 b)
    (field 1 b)
    (field 2 b)
    (not (eqb (field 3 b) 0))
    (name_field (field 4 b) b)
    (number_kept word_size s.at.worktree h.worktree)
    (number_kept word_size s.at.common h.common)
    (number_kept word_size s.at.packed h.packed)
    (bit_kept s.ended)
    (rw size (text_kept longest s.expansion rest h.expansion))
