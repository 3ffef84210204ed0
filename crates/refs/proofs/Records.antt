-- An entry of a region and those behind it.
use mathlib.Core.Path.{◌≡◌, refl, sym, ap, ◌∙◌}
use Prim.Native.Nat.{ℕ, ◌+◌, ◌<◌}
use mathlib.Core.List.{◌∷◌}
use lib.ListN.{drop}
use native.Mathlib.Omega.{arith}
use Rattle.std.specs.Prelude.{None, Some}
use mathlib.Core.Bool.{Bool, true, false}
use borrow.Author.Tests.{ltb-true, ltb-false}
use lib.Dec.{ltb}
use Rattle.names.specs.Bytes.{Bytes}
use Rattle.blocks.specs.Block.{Region}
use Rattle.blocks.specs.Entry.{Entry, entry, entries}
use Rattle.blocks.specs.Means.{block_count, block_at, entry_in}
use Rattle.blocks.proofs.Entries.{entries_at, entry_there, entry_past}

module _ (width : ℕ) (r : Region) (s : Bytes) (k : ℕ) (x : Entry) (h : Some x ≡ entry_in width r s k) where
  pub record_within : k < block_count s
  record_within = go (ltb k (block_count s)) refl
    where
      go : (b : Bool) → ltb k (block_count s) ≡ b → k < block_count s
      go true e = ltb-true k (block_count s) e
      go false e =
          let q : Some x ≡ None = h ∙ sym (entry_past width r s k (ltb-false k (block_count s) e)) in
          let z : ◌≡◌ {A = ℕ} 0 1 = cc in
          absurd (omega arith)

  pub record_first : drop k (entries width r s) ≡ x ∷ drop (k + 1) (entries width r s)
  record_first =
      let q : Some x ≡ Some (entry width r (block_at s k)) = h ∙ entry_there width r s k record_within in
      let z : entry width r (block_at s k) ≡ x = cc in
      entries_at width r s k record_within ∙ ap (λ y. y ∷ drop (k + 1) (entries width r s)) z
