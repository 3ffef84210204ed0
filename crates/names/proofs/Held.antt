-- Names that were made, where the bytes fit.
use Rattle.std.specs.Prelude.{if◌then◌else◌}
use mathlib.Core.Path.{◌≡◌, refl, sym, ◌∙◌}
use Prim.Native.Nat.{ℕ, ◌+◌, ◌-◌, ◌≤◌, ◌<◌, min}
use lib.Dec.{leb}
use native.Mathlib.Omega.{arith}
use mathlib.Core.Bool.{Bool, true, false}
use mathlib.Core.List.{◌++◌}
use Rattle.std.specs.Prelude.{None, Some, Result, Ok, Err}
use Rattle.std.specs.Result.{result_ok}
use lib.ListN.{length, take, length-append, length-take}
use lib.Seq.{take_all}
use Rattle.std.proofs.Math.Nat.{min_comm}
use borrow.Author.Tests.{leb-true, leb-false, le-leb, lt-leb}
use Rattle.output.specs.Pasted.{pasted}
use Rattle.output.proofs.Pastes.{pasted_behind, pasted_taken}
use Rattle.names.specs.Bytes.{Bytes, bytes}
use Rattle.names.specs.Name.{longest, fits}
use Rattle.names.specs.Candidates.{full_name}
use Rattle.names.specs.Category.{behind}
use Rattle.names.specs.Means.{held, content, pushed, if_fits}
use Rattle.names.specs.declared.name.Name.{Name}
use Rattle.names.specs.declared.name.TooLong.{TooLong}
use Rattle.names.proofs.Tests.{none≢Some}
use Rattle.names.proofs.Parts.{held_is}
use Rattle.names.proofs.Prefix.{behind_longer}

-- what `if_fits` tells of its answer
module _ (s : Bytes) where
  fitted : (f : Bool) (b : Bytes) → Some b ≡ (if f then Some s else None) → (b ≡ s) × (f ≡ true)
  fitted true b e = (cc, refl)
  fitted false b e = none≢Some (sym e)

  unfitted : (f : Bool) → None ≡ (if f then Some s else None) → f ≡ false
  unfitted true e = none≢Some e
  unfitted false e = refl

  pub fits_is : (b : Bytes) → Some b ≡ if_fits s → b ≡ s
  fits_is b e = (fitted (fits s) b e).0

  pub fits_there : (b : Bytes) → Some b ≡ if_fits s → fits s ≡ true
  fits_there b e = (fitted (fits s) b e).1

  pub fits_made : (b : Bytes) → Some b ≡ if_fits s → fits b ≡ true
  fits_made b e = rw (fits_is b e) (fits_there b e)

  pub fits_not : None ≡ if_fits s → fits s ≡ false
  fits_not e = unfitted (fits s) e

  -- what is longer fits neither
  pub longer_not : (t : Bytes) → length s ≤ length t → None ≡ if_fits s → None ≡ if_fits t
  longer_not t h e =
      let l = leb-false (length s) longest (fits_not e) in
      rw (lt-leb (length t) longest (omega arith))

-- a candidate is no shorter than what it is for
pub full_longer : (pseudo : Bool) (between x : Bytes) → length x ≤ length (full_name pseudo between x)
unfolding full_name
full_longer pseudo between x = simp length-append (omega arith)

-- ---- bytes put behind a name's

-- what is made of a part that does not fit
pub head_not : (x : Bytes) → None ≡ if_fits (x ++ bytes "/HEAD") → None ≡ if_fits (full_name true (bytes "remotes/") (x ++ bytes "/HEAD"))
head_not x = let head = x ++ bytes "/HEAD" in longer_not head (full_name true (bytes "remotes/") head) (full_longer true (bytes "remotes/") head)

pub behind_not : (w p : Bytes) → None ≡ if_fits (bytes "worktrees/" ++ (w ++ bytes "/")) → None ≡ if_fits (behind (bytes "worktrees/" ++ w ++ bytes "/") p)
behind_not w p = let prefix = bytes "worktrees/" ++ w ++ bytes "/" in longer_not prefix (behind prefix p) (behind_longer prefix p)

-- the library cuts where the bytes end
pub held_cut : (b : Bytes) (len k : ℕ) → k ≡ min len (length b) → take k b ≡ held b len
unfolding held
held_cut b len k e = go (leb len (length b)) refl
  where
    go : (f : Bool) → leb len (length b) ≡ f → take k b ≡ take len b
    go true f = let h = leb-true len (length b) f in let m : k ≡ len = omega arith in rw m
    go false f = let h = leb-false len (length b) f in rw (take_all k b (omega arith), take_all len b (omega arith))

module _ (b : Bytes) (len at : ℕ) (h : length b ≡ longest) (l : at ≡ length (held b len)) where
  -- the bytes of a name are those in front of where it ends
  held_end : held b len ≡ take at b
  unfolding held
  held_end = go (leb len longest) refl
    where
      go : (f : Bool) → leb len longest ≡ f → take len b ≡ take at b
      go true f = let k = leb-true len longest f in let e : at ≡ len = l ∙ (rw (length-take, h) (omega arith)) in rw e
      go false f = let k = leb-false len longest f in let e : at ≡ longest = l ∙ (rw (length-take, h) (omega arith)) in rw (take_all len b (omega (arith, h)), take_all at b (omega (arith, h)))

  end_within : at ≤ longest
  unfolding held
  end_within = rw l (simp length-take (omega (arith, h)))

  -- what finds no room
  pub push_refused : (s : Bytes) → longest - at < length s → None ≡ if_fits (held b len ++ s)
  push_refused s m = rw (lt-leb (length (held b len ++ s)) longest (simp length-append (omega (arith, l))))

  -- what finds room stands behind what was there
  pub push_put : (s t : Bytes) → t ≡ pasted b at s → length s ≤ longest - at → Some (held t (at + length s)) ≡ if_fits (held b len ++ s)
  push_put s t e k =
      rw (e, le-leb (length (held b len ++ s)) longest (simp length-append (omega (arith, l, end_within))), held_end, held_is (pasted b at s) (at + length s), pasted_behind b at s (omega (arith, h, end_within)))

-- as much as a name holds
pub fill_held : (b s t : Bytes) (k : ℕ) → length b ≡ longest → k ≡ min (length s) longest → t ≡ pasted b 0 s → held t k ≡ take longest s
unfolding held
fill_held b s t k h e f = rw (f, pasted_taken b s k (omega (arith, h, e)) (omega (arith, e))) (rw (held_is s longest) at (held_cut s longest k (rw min_comm at e)))

-- what `ok` leaves of a push
module _ {A : Type 0} (n : Name) where
  pub pushed_there : (r : Result A TooLong) (a : A) → result_ok r ≡ Some a → pushed n r ≡ Some (content n)
  pushed_there (Ok x) a e = refl
  pushed_there (Err x) a e = none≢Some e

  pub pushed_not : (r : Result A TooLong) → result_ok r ≡ None → pushed n r ≡ None
  pushed_not (Ok x) e = none≢Some (sym e)
  pushed_not (Err x) e = refl

-- what a name holds, where that fits
pub content_fits : (n : Name) (s : Bytes) → fits (content n) ≡ true → content n ≡ s → Some (content n) ≡ if_fits s
content_fits n s h e = rw (← e, h) refl

-- what fits is held whole
pub cut_fits : (s t : Bytes) → fits s ≡ true → t ≡ take longest s → t ≡ s
cut_fits s t h e = rw (e, take_all longest s (leb-true (length s) longest h))
