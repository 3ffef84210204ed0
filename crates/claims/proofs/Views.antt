-- The view of a scope shows each entry under its own name, less what is stripped.
use mathlib.Core.Path.{◌≡◌, refl, sym, ◌∙◌}
use mathlib.Core.Bool.{Bool, true, false, ◌&&◌}
use mathlib.Core.List.{[], ◌∷◌, ◌++◌}
use Prim.Native.Nat.{ℕ}
use native.Mathlib.Omega.{arith}
use Rattle.names.specs.Bytes.{Bytes, bytes, starts_with, strip}
use Rattle.names.specs.WellFormed.{well_formed}
use Rattle.names.proofs.Tests.{and_left}
use Rattle.names.proofs.Orders.{◌≺◌, order_append}
use Rattle.names.proofs.Prefix.{starts_trans, starts_append, starts_self, strip_split}
use Rattle.blocks.specs.Content.{Reading, reads, unreadable, read}
use Rattle.blocks.specs.Entry.{damaged, failed, loose, unread, packed_record}
use Rattle.refs.specs.Answer.{Answer, reading_says, strip_answer}
use Rattle.refs.specs.View.{shown_if, see, Scope, scope, view}
use Rattle.claims.proofs.Tables.{Named}
use Rattle.claims.proofs.Waits.{Sight, unseen, offered, Faithful}
use Rattle.claims.proofs.Runs.{Honest}

-- an entry of the name x is listed as y, without e
abbrev pub Without : Bytes → Bytes → Bytes → Type 0
Without e x y = x ≡ e ++ y

pub without_rise : (e x x' y y' : Bytes) → Without e x y → Without e x' y' → x ≺ x' → y ≺ y'
without_rise e x x' y y' p p' h = sym (order_append e y y') ∙ rw (p, p') at h

module _ (width : ℕ) (e : Bytes) (keep : Bytes → Bool) (front : (x : Bytes) → keep x ≡ true → starts_with e x ≡ true) where
  kept_sight : (b : Bool) (x : Bytes) (a : Answer) → (b ≡ true → Named (Without e) x a) → Sight (Without e) x (shown_if b x a)
  kept_sight false x a h = unseen
  kept_sight true x a h = offered (h refl)

  stripped : (x : Bytes) → keep x ≡ true → Without e x (strip e x)
  stripped x k = sym (strip_split e x (front x k))

  reading_named : (x : Bytes) (r : Reading) → keep x ≡ true → Named (Without e) x (strip_answer e (reading_says x r))
  reading_named x (reads t) k = stripped x k
  reading_named x (unreadable n) k = tt

  pub see_faithful : Faithful (Without e) (see width e keep)
  see_faithful damaged x n = absurd (let z : ◌≡◌ {A = ℕ} 0 1 = cc in omega arith)
  see_faithful failed x n = absurd (let z : ◌≡◌ {A = ℕ} 0 1 = cc in omega arith)
  see_faithful (loose y c) x n = let q : x ≡ y = cc in rw q (kept_sight (keep y) y _ (reading_named y (read width c)))
  see_faithful (unread y) x n = let q : x ≡ y = cc in rw q (kept_sight (keep y) y _ (λ k. tt))
  see_faithful (packed_record y t p) x n = let q : x ≡ y = cc in rw q (kept_sight (keep y) y _ (stripped y))

-- what is stripped stands in front of all that is shown
pub record Proper (c : Scope) : Type 0 where
  pub loose_front : starts_with c.stripped c.loose_under ≡ true
  pub packed_front : starts_with c.stripped c.packed_under ≡ true

pub view_honest : (width : ℕ) (c : Scope) → Proper c → Honest (Without c.stripped) (view width c)
view_honest width c h =
    record {
      worktree = see_faithful width c.stripped _ (λ x k. starts_trans c.stripped c.loose_under x h.loose_front (and_left (starts_with c.loose_under x) _ k));
      common = see_faithful width c.stripped _
          (λ x k. starts_trans c.stripped c.loose_under x h.loose_front (and_left (starts_with c.loose_under x) _ (and_left (starts_with c.loose_under x && well_formed x) _ k)));
      packed = see_faithful width c.stripped _ (λ x k. starts_trans c.stripped c.packed_under x h.packed_front k);
    }

pub scope_honest : (width : ℕ) (e : Bytes) → Honest (Without e) (view width (scope e))
scope_honest width [] = view_honest width (scope []) (record { loose_front = starts_append [] (bytes "refs/"); packed_front = starts_self [] })
scope_honest width (b ∷ e) = view_honest width (scope (b ∷ e)) (record { loose_front = starts_self (b ∷ e); packed_front = starts_self (b ∷ e) })
