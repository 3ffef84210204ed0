-- The choice between what waits in the three regions, in the code's order.
use mathlib.Core.Path.{◌≡◌, refl, sym, ◌∙◌}
use mathlib.Core.List.{[]}
use Prim.Native.Nat.{ℕ}
use Rattle.std.specs.Prelude.{Option, None, Some, is_some, if◌then◌else◌}
use Rattle.std.specs.Option.{unwrap_or, option_or}
use Rattle.names.specs.Bytes.{Bytes}
use Rattle.blocks.specs.Entry.{name_of}
use Rattle.blocks.specs.Means.{id_width, region_of}
use Rattle.blocks.specs.Snapshot.{Snapshot, store}
use Rattle.blocks.specs.Block.{Region}
use Rattle.blocks.specs.declared.block.Region.TheVariants as code
use Rattle.blocks.proofs.Stores.{entries_if_any, store_is}
use Rattle.blocks.specs.Means.{entry_as}
use Rattle.refs.specs.Answer.{nothing}
use Rattle.refs.specs.View.{scope, view}
use Rattle.refs.specs.Listing.{Waiting, error, least, past, Positions, Move, error_else, by_name, choose, move}
use Rattle.refs.specs.ListPromises.{own_name, own_answer, waiting_with, waiting_of, error_of, offer_of, StandsIn, moved_in, waits_in}
use Rattle.refs.specs.declared.overlay_iter.Waiting as waiting

-- ---- an error waits, or none

is_there : (w : Option waiting.Waiting) (x : waiting.Waiting) → Some x ≡ error_of w → w ≡ Some x
is_there None x h = cc
is_there (Some w) x h = go (name_of (entry_as w.found.entry)) h
  where
    go : (n : Option Bytes) → Some x ≡ (if is_some n then None else Some w) → Some w ≡ Some x
    go None h = sym h
    go (Some n) h = cc

module _ (e : Bytes) where
  error_there : (w : Option waiting.Waiting) (x : waiting.Waiting) → Some x ≡ error_of w → waiting_of e w ≡ error (own_answer e (entry_as x.found.entry)) x.next
  error_there None x h = cc
  error_there (Some w) x h = go (name_of (entry_as w.found.entry)) h
    where
      go : (n : Option Bytes) → Some x ≡ (if is_some n then None else Some w) → waiting_with n (own_answer e (entry_as w.found.entry)) w.next ≡ error (own_answer e (entry_as x.found.entry)) x.next
      go None h = let q : w ≡ x = cc in rw q
      go (Some n) h = cc

  abbrev NoError : Waiting → Type 0
  NoError w = (to : ℕ → Positions) (rest : Move) → error_else w to rest ≡ rest

  no_error : (w : Option waiting.Waiting) → None ≡ error_of w → NoError (waiting_of e w)
  no_error None h = λ to rest. refl
  no_error (Some w) h = go (name_of (entry_as w.found.entry)) h
    where
      go : (n : Option Bytes) → None ≡ (if is_some n then None else Some w) → NoError (waiting_with n (own_answer e (entry_as w.found.entry)) w.next)
      go None h to rest = cc
      go (Some n) h to rest = refl

  -- a name that waits, with nothing to compare
  alone : (w : Option waiting.Waiting) → None ≡ error_of w → offer_of e w ≡ least (waiting_of e w) None
  alone None h = refl
  alone (Some w) h = go (name_of (entry_as w.found.entry)) h
    where
      go : (n : Option Bytes) → None ≡ (if is_some n then None else Some w) → Some (record { name = unwrap_or n []; answer = own_answer e (entry_as w.found.entry) }) ≡ least (waiting_with n (own_answer e (entry_as w.found.entry)) w.next) None
      go None h = cc
      go (Some n) h = refl

-- none of three errors waits
pub none_waits : (w c p : Option waiting.Waiting) → None ≡ option_or (option_or (error_of p) (error_of c)) (error_of w) → (error_of w ≡ None) × (error_of c ≡ None) × (error_of p ≡ None)
none_waits w c p h = go (error_of p) refl (error_of c) refl h
  where
    go : (a : Option waiting.Waiting) → error_of p ≡ a → (b : Option waiting.Waiting) → error_of c ≡ b → None ≡ option_or (option_or a b) (error_of w) → (error_of w ≡ None) × (error_of c ≡ None) × (error_of p ≡ None)
    go (Some y) i b j h = cc
    go None i (Some y) j h = cc
    go None i None j h = (sym h, j, i)

-- ---- a step of the positions, by what waits in each region

module _ (s : Snapshot) (e : Bytes) (at : Positions) (w c p : Option waiting.Waiting) (hw : waiting_of e w ≡ waits_in Region.worktree e s at) (hc : waiting_of e c ≡ waits_in Region.common e s at) (hp : waiting_of e p ≡ waits_in Region.packed e s at) where
  abbrev moved : Move
  moved = move (view id_width (scope e)) (store id_width s) at

  chosen : moved ≡ choose (waiting_of e w) (waiting_of e c) (waiting_of e p) at
  unfolding move
  chosen = rw (store_is id_width s, entries_if_any id_width Region.common s.common, hw, hc, hp)

  -- the first error is handed out
  module _ (sw : StandsIn code.Worktree w) (sc : StandsIn code.Common c) (sp : StandsIn code.Packed p) (x : waiting.Waiting) where
    abbrev Taken : Type 0
    Taken = record { answer = own_answer e (entry_as x.found.entry); next = moved_in (region_of x.region) x.next at } ≡ moved

    pub take_error : Some x ≡ option_or (option_or (error_of p) (error_of c)) (error_of w) → Taken
    take_error h = go (error_of p) refl (error_of c) refl h
      where
        go : (a : Option waiting.Waiting) → a ≡ error_of p → (b : Option waiting.Waiting) → b ≡ error_of c → Some x ≡ option_or (option_or a b) (error_of w) → Taken
        go (Some y) i b j h =
            let k : Some x ≡ error_of p = h ∙ i in
            let r : x.region ≡ code.Packed = rw (is_there p x k) at sp in
            rw r (sym (chosen ∙ rw (error_there e p x k)))
        go None i (Some y) j h =
            let k : Some x ≡ error_of c = h ∙ j in
            let r : x.region ≡ code.Common = rw (is_there c x k) at sc in
            rw r (sym (chosen ∙ rw (no_error e p i, error_there e c x k)))
        go None i None j h =
            let r : x.region ≡ code.Worktree = rw (is_there w x h) at sw in
            rw r (sym (chosen ∙ rw (no_error e p i, no_error e c j, error_there e w x h)))

  -- no error waits: the least name is handed out
  module _ (none : None ≡ option_or (option_or (error_of p) (error_of c)) (error_of w)) (q o : Option waiting.Waiting) (second : offer_of e q ≡ least (waiting_of e c) (offer_of e p)) (first : offer_of e o ≡ least (waiting_of e w) (offer_of e q)) where
    by_names : moved ≡ by_name (offer_of e o) (waiting_of e w) (waiting_of e c) (waiting_of e p) at
    by_names =
        let n = none_waits w c p none in
        chosen ∙ rw (no_error e p (sym n.2), no_error e c (sym n.1), no_error e w (sym n.0), first, second, alone e p (sym n.2))

    pub take_nothing : None ≡ o → record { answer = nothing; next = at } ≡ moved
    take_nothing h = sym (by_names ∙ rw (← h))

    pub take_name : (x : waiting.Waiting) → Some x ≡ o → (i j k : ℕ) (n : Bytes) → n ≡ own_name (entry_as x.found.entry)
        → i ≡ past n (waiting_of e w) at.worktree → j ≡ past n (waiting_of e c) at.common → k ≡ past n (waiting_of e p) at.packed
        → record { answer = own_answer e (entry_as x.found.entry); next = record { worktree = i; common = j; packed = k } } ≡ moved
    take_name x h i j k n is y z u = sym (by_names ∙ rw (← h, ← is, y, z, u))
