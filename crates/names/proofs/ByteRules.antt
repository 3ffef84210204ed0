-- The rules of a well-formed name, byte by byte: what the walk over a name asks for.
use mathlib.Core.Path.{◌≡◌, refl, sym, ap, subst, ◌∙◌}
use Prim.Native.Nat.compare
use Prim.Native.Nat.{ℕ, zero, suc, ◌+◌, ◌-◌, ◌≤◌, ◌<◌}
use native.Mathlib.Nat.{not-suc-le-zero}
use native.Mathlib.Numerals.{add-one}
use native.Mathlib.Omega.{arith}
use mathlib.Core.List.{[], ◌∷◌}
use mathlib.Core.Bool.{Bool, true, false, ◌&&◌, ◌||◌, not, and_assoc, and_comm, and-true, and-false}
use lib.Dec.{eqb, leb, ltb}
use Rattle.std.specs.List.{list_any}
use lib.ListN.{length, take, drop, get_or, drop_of_length-le}
use lib.Seq.{drop-cons}
use borrow.Author.Tests.{eqb-true, eqb-false, ne_eqb, leb-true, leb-false, le-ltb, lt-ltb, not-true}
use Rattle.std.proofs.lemmas.Bool.{false_from_ne_true}
use Rattle.names.specs.Bytes.{Bytes, bytes, slash, order, same, starts_with, ends_with, contains, every}
use Rattle.names.specs.WellFormed.{not_empty, no_dot_begins, no_lock_ends, allowed, slashes_right, well_formed}
use Rattle.names.specs.Promises.{rules_after, fits_after, lock_ends, before, plain, parting, sure, all_sure}
use Rattle.names.proofs.Tests.{and_left, and_right, in_range, not_both, or_eq}
use Rattle.names.proofs.Parts.{tail_part}
use Rattle.names.proofs.Prefix.{ended_not, ended_whole, ended_by}
use Rattle.names.proofs.Orders.{eqb_comm, compare_refl, same_eq, same_nothing}

-- ---- a conjunction of which each part is split in two

record Split (whole a b : Bool) : Type 0 where
  is : whole ≡ (a && b)

two : (a A b B : Bool) → (a && A && (b && B)) ≡ (a && b && (A && B))
two true A true B = refl
two true true false B = refl
two true false false B = refl
two false A b B = refl

not_or : (a b : Bool) → not (a || b) ≡ (not a && not b)
not_or true b = refl
not_or false b = refl

refused : (a b : Bool) → Split (not (a || b)) (not a) (not b)
refused a b = record { is = not_or a b }

asked : {w x y v a b : Bool} → Split w x y → Split v a b → Split (w && v) (x && a) (y && b)
asked {w} {x} {y} {v} {a} {b} h k = record { is = rw (h.is, k.is, two x y a b) }

-- ---- one byte further, and the end

module _ (p b : ℕ) (s : Bytes) where
  no_pair : (q : Bytes) → Split (not (contains q (p ∷ b ∷ s))) (not (starts_with q (p ∷ b ∷ s))) (not (contains q (b ∷ s)))
  unfolding contains
  no_pair q = refused (starts_with q (p ∷ b ∷ s)) (contains q (b ∷ s))

  no_part : (q : Bytes) → Split (not (contains q (b ∷ s))) (not (starts_with q (b ∷ s))) (not (contains q s))
  unfolding contains
  no_part q = refused (starts_with q (b ∷ s)) (contains q s)

  no_end : (q : Bytes) → Split (not (ends_with q (b ∷ s))) (not (same (b ∷ s) q)) (not (ends_with q s))
  unfolding ends_with
  no_end q = refused (same (b ∷ s) q) (ends_with q s)

  each : Split (every allowed (b ∷ s)) (allowed b) (every allowed s)
  unfolding every
  each = record { is = refl }

  rules_split : Split (rules_after p (b ∷ s)) (fits_after p (b ∷ s)) (rules_after b s)
  unfolding rules_after fits_after
  rules_split =
      asked
      (asked
      (asked
      (asked
      (asked
      (asked
      (asked (asked (no_pair (bytes "/.")) (no_end (bytes ".lock"))) (no_part (bytes ".lock/")))
      (no_pair (bytes "..")))
      each)
      (no_end (bytes "/")))
      (no_pair (bytes "//")))
      (no_end (bytes ".")))
      (no_pair (bytes "@{"))

  pub rules_step : rules_after p (b ∷ s) ≡ (fits_after p (b ∷ s) && rules_after b s)
  rules_step = rules_split.is

pub rules_at : (p : ℕ) (s : Bytes) (i : ℕ) → i < length s → rules_after p (drop i s) ≡ (fits_after p (drop i s) && rules_after (get_or s i 0) (drop (i + 1) s))
rules_at p s i h = rw (add-one, drop-cons s i 0 h) (rules_step p (get_or s i 0) (drop (suc i) s))

-- the code's test of the part from i on was passed
pub step_fits : (p : ℕ) (s : Bytes) (i : ℕ) → i < length s → (r : Bool) → r ≡ fits_after p (take (length s - i) (drop i s)) → r ≡ true
    → rules_after p (drop i s) ≡ rules_after (get_or s i 0) (drop (i + 1) s)
step_fits p s i h r e t = rw (rules_at p s i h, ← tail_part s i, ← e, t)

pub rules_end : (p : ℕ) (s : Bytes) (i : ℕ) → length s ≤ i → rules_after p (drop i s) ≡ true
unfolding rules_after contains ends_with starts_with every order
rules_end p s i h = rw (drop_of_length-le s h, and-false, and-false, and-false)

-- ---- the rules as the definition has them

dots : (a b c d : Bool) → (not (a || b) && c && d) ≡ (not a && not b && (c && d))
dots true b c d = refl
dots false true c d = refl
dots false false c d = refl

slashes : (x h g i : Bool) → (x && h && not (g || i)) ≡ (x && (not g && h && not i))
slashes false h g i = refl
slashes true h true i = and-false h
slashes true h false i = refl

both : (a b c d e f g h i j k : Bool) → (not (a || b) && c && d && e && f && h && not (g || i) && j && k) ≡ (not a && not b && (c && d) && e && f && (not g && h && not i) && j && k)
both a b c d e f g h i j k = rw (dots a b c d, slashes (not a && not b && (c && d) && e && f) h g i)

module _ (s : Bytes) where
  behind_slash : rules_after slash s ≡ (no_dot_begins s && no_lock_ends s && not (contains (bytes "..") s) && every allowed s && slashes_right s && not (ends_with (bytes ".") s) && not (contains (bytes "@{") s))
  unfolding rules_after contains starts_with
  behind_slash =
      both
      (starts_with (bytes ".") s)
      (contains (bytes "/.") s)
      (not (ends_with (bytes ".lock") s))
      (not (contains (bytes ".lock/") s))
      (not (contains (bytes "..") s))
      (every allowed s)
      (starts_with (bytes "/") s)
      (not (ends_with (bytes "/") s))
      (contains (bytes "//") s)
      (not (ends_with (bytes ".") s))
      (not (contains (bytes "@{") s))

  well_formed_is : well_formed s ≡ (not_empty s && rules_after slash s && not (same s (bytes "@")))
  unfolding well_formed
  well_formed_is = rw behind_slash (simp and_assoc)

pub formed_is : (s : Bytes) → well_formed s ≡ (not (eqb (length s) 0) && rules_after slash s && not (same s (bytes "@")))
formed_is s = rw (well_formed_is s, same_nothing s)

-- ---- what a rule asks of a byte

listed_is : (b : ℕ) (s : Bytes) → contains (b ∷ []) s ≡ list_any (λ y. eqb y b) s
unfolding contains starts_with
listed_is b [] = refl
listed_is b (a ∷ s) = rw (and-true, eqb_comm b a, listed_is b s)

pub allowed_is : (b : ℕ) → allowed b ≡ (leb 32 b && not (list_any (λ y. eqb y b) (127 ∷ 92 ∷ bytes " ~^:?*[")))
allowed_is b = rw (← listed_is b (127 ∷ 92 ∷ bytes " ~^:?*["), not_or) (ap (λ (t : Bool). t && not (contains (b ∷ []) (127 ∷ 92 ∷ bytes " ~^:?*["))) (go (leb 32 b) refl))
  where
    go : (t : Bool) → leb 32 b ≡ t → not (ltb b 32) ≡ t
    go true h = rw (le-ltb b 32 (leb-true 32 b h))
    go false h = rw (lt-ltb b 32 (leb-false 32 b h))

same_other : (a b : ℕ) (s q : Bytes) → (b ≡ a → ⊥) → same (b ∷ s) (a ∷ q) ≡ false
same_other a b s q h = false_from_ne_true (same (b ∷ s) (a ∷ q)) (λ e. let k = same_eq (b ∷ s) (a ∷ q) e in h (cc))

same_one : (a : ℕ) (s : Bytes) → same (a ∷ s) (a ∷ []) ≡ eqb (length s) 0
unfolding order
same_one a s = rw (compare_refl a, same_nothing s)

reorder : (a b c d e : Bool) → (a && not b && not c && d && e) ≡ (a && d && e && not (b || c))
reorder false b c d e = refl
reorder true b c d e = rw (not_or b c, and_assoc (not b && not c) d e, and_comm (not b && not c) (d && e))

module _ (p : ℕ) where
  pub dot_is : (s : Bytes) → fits_after p (46 ∷ s) ≡ (not (eqb p slash) && not (eqb p 46) && not (eqb (length s) 0) && not (lock_ends (46 ∷ s)))
  unfolding fits_after starts_with contains
  dot_is s = simp (eqb_comm p slash, eqb_comm p 46, ← same_one 46 s, same_other slash 46 s [] (λ e. omega arith), and-false, and-true)
      (reorder (not (eqb slash p)) (same (46 ∷ s) (bytes ".lock")) (starts_with (bytes ".lock/") (46 ∷ s)) (not (eqb 46 p)) (not (same (46 ∷ s) (bytes "."))))

  pub slash_is : (s : Bytes) → fits_after p (slash ∷ s) ≡ (not (eqb p slash) && not (eqb (length s) 0))
  unfolding fits_after starts_with contains
  slash_is s = simp (eqb_comm p slash, ← same_one slash s, same_other 46 slash s [] (λ e. omega arith), same_other 46 slash s (bytes "lock") (λ e. omega arith), and-false, and-true)
      (and_comm (not (same (slash ∷ s) (bytes "/"))) (not (eqb slash p)))

  brace_is : (s : Bytes) → fits_after p (123 ∷ s) ≡ not (eqb p 64)
  unfolding fits_after starts_with contains
  brace_is s = simp (eqb_comm p 64, same_other 46 123 s [] (λ e. omega arith), same_other 46 123 s (bytes "lock") (λ e. omega arith), same_other slash 123 s [] (λ e. omega arith), and-false, and-true)

  other_is : (b : ℕ) (s : Bytes) → (b ≡ 46 → ⊥) → (b ≡ slash → ⊥) → (b ≡ 123 → ⊥) → fits_after p (b ∷ s) ≡ allowed b
  unfolding fits_after starts_with
  other_is b s d l r =
      simp (
        ne_eqb 46 b (λ e. d (sym e)),
        ne_eqb slash b (λ e. l (sym e)),
        ne_eqb 123 b (λ e. r (sym e)),
        same_other 46 b s [] d,
        same_other 46 b s (bytes "lock") d,
        same_other slash b s [] l,
        and-false,
        and-true,
      )

-- a byte that fits, whatever stands before and behind it
abbrev pub Anywhere : ℕ → Type 0
Anywhere b = (p : ℕ) (s : Bytes) → fits_after p (b ∷ s) ≡ true

module _ (b : ℕ) where
  plain_by : 42 < b → (b ≡ 46 → ⊥) → (b ≡ slash → ⊥) → (b ≡ 58 → ⊥) → (b ≡ 63 → ⊥) → (91 ≤ b → b ≤ 94 → ⊥) → b < 123 → Anywhere b
  unfolding contains starts_with
  plain_by low dot slsh colon query corner high p s =
      rw (
        other_is p b s dot slsh (λ e. omega arith),
        le-ltb b 32 (omega arith),
        ne_eqb b 127 (λ e. omega arith),
        ne_eqb b 92 (λ e. corner (omega arith) (omega arith)),
        ne_eqb b 32 (λ e. omega arith),
        ne_eqb b 126 (λ e. omega arith),
        ne_eqb b 94 (λ e. corner (omega arith) (omega arith)),
        ne_eqb b 58 colon,
        ne_eqb b 63 query,
        ne_eqb b 42 (λ e. omega arith),
        ne_eqb b 91 (λ e. corner (omega arith) (omega arith)),
      )

  dash_plain : b ≡ 45 → Anywhere b
  dash_plain h = plain_by (omega arith) (λ e. omega arith) (λ e. omega arith) (λ e. omega arith) (λ e. omega arith) (λ e f. omega arith) (omega arith)

  digit_plain : 48 ≤ b → b ≤ 57 → Anywhere b
  digit_plain l h = plain_by (omega arith) (λ e. omega arith) (λ e. omega arith) (λ e. omega arith) (λ e. omega arith) (λ e f. omega arith) (omega arith)

  upper_plain : 64 ≤ b → b ≤ 90 → Anywhere b
  upper_plain l h = plain_by (omega arith) (λ e. omega arith) (λ e. omega arith) (λ e. omega arith) (λ e. omega arith) (λ e f. omega arith) (omega arith)

  lower_plain : 95 ≤ b → b ≤ 122 → Anywhere b
  lower_plain l h = plain_by (omega arith) (λ e. omega arith) (λ e. omega arith) (λ e. omega arith) (λ e. omega arith) (λ e f. omega arith) (omega arith)

  ranged : (lo hi : ℕ) → (lo ≤ b → b ≤ hi → Anywhere b) → (leb lo b && leb b hi) ≡ true → Anywhere b
  ranged lo hi f h = let k = in_range (leb lo b && leb b hi) b lo hi refl h in f k.0 k.1

  pub plain_fits : plain b ≡ true → Anywhere b
  plain_fits h =
      let lower = leb 95 b && leb b 122 in
      let digit = leb 48 b && leb b 57 in
      let upper = leb 64 b && leb b 90 in
      or_eq
      (lower || digit || upper)
      (eqb b 45)
      h
      (λ k. or_eq (lower || digit) upper k (λ m. or_eq lower digit m (ranged 95 122 lower_plain) (ranged 48 57 digit_plain)) (ranged 64 90 upper_plain))
      (λ k. dash_plain (eqb-true b 45 k))

-- ---- the same of a text by its first byte

first_cons : (t : Bytes) (b : ℕ) → 0 < length t → get_or t 0 0 ≡ b → t ≡ b ∷ drop 1 t
first_cons [] b l h = absurd (not-suc-le-zero l)
first_cons (a ∷ t) b l h = rw h refl

module _ (p : ℕ) (t : Bytes) (l : 0 < length t) where
  pub parting_at : (b : ℕ) (after : Bytes) (r : Bool) → r ≡ fits_after p (b ∷ after) → get_or t 0 0 ≡ b → after ≡ drop 1 t → r ≡ fits_after p t
  parting_at b after r e h f = e ∙ rw (f, ← first_cons t b l h) refl

  pub brace_at : get_or t 0 0 ≡ 123 → fits_after p t ≡ not (eqb p 64)
  brace_at h = subst (λ (u : Bytes). fits_after p u ≡ not (eqb p 64)) (sym (first_cons t 123 l h)) (brace_is p (drop 1 t))

  pub plain_at : Anywhere (get_or t 0 0) → fits_after p t ≡ true
  plain_at h = subst (λ (u : Bytes). fits_after p u ≡ true) (sym (first_cons t (get_or t 0 0) l refl)) (h p (drop 1 t))

  pub other_at : (get_or t 0 0 ≡ 46 → ⊥) → (get_or t 0 0 ≡ slash → ⊥) → (get_or t 0 0 ≡ 123 → ⊥) → fits_after p t ≡ allowed (get_or t 0 0)
  other_at d s b = subst (λ (u : Bytes). fits_after p u ≡ allowed (get_or t 0 0)) (sym (first_cons t (get_or t 0 0) l refl)) (other_is p (get_or t 0 0) (drop 1 t) d s b)

  pub plain_first : plain (get_or t 0 0) ≡ true → fits_after p t ≡ true
  plain_first h = plain_at (plain_fits (get_or t 0 0) h)

pub none_fits : (p : ℕ) (t : Bytes) → length t < 1 → false ≡ fits_after p t
unfolding fits_after starts_with
none_fits p [] h = rw (and-false) refl
none_fits p (b ∷ t) h = absurd (omega arith)

-- a `.lock` that t begins with, and what stands behind it
lock_at : (t : Bytes) → lock_ends t ≡ (starts_with (bytes ".lock") t && (eqb (length t) 5 || eqb (get_or t 5 0) slash))
lock_at t = go (starts_with (bytes ".lock") t) refl (eqb (length t) 5) refl
  where
    go : (r : Bool) → r ≡ starts_with (bytes ".lock") t → (e : Bool) → eqb (length t) 5 ≡ e → lock_ends t ≡ (r && (e || eqb (get_or t 5 0) slash))
    go true w true e = sym (ended_whole (bytes ".lock") t slash true w refl (eqb-true (length t) 5 e))
    go true w false e = sym (ended_by (bytes ".lock") t slash true w refl (eqb-false (length t) 5 e))
    go false w e h = sym (ended_not (bytes ".lock") t slash false w refl)

-- the same behind a dot
pub lock_is : (t : Bytes) → lock_ends (46 ∷ t) ≡ (starts_with (bytes "lock") t && (eqb (length t) 4 || eqb (get_or t 4 0) slash))
unfolding starts_with
lock_is t = lock_at (46 ∷ t) ∙ rw (compare.suc-suc (length t) 4) refl

-- ---- bytes that surely fit

module _ (p n : ℕ) (s : Bytes) (k : parting p ≡ false) where
  other_than : (a : ℕ) → parting a ≡ true → p ≡ a → ⊥
  other_than a t e = not_both (subst (λ (x : ℕ). parting x ≡ true) (sym e) t) k

  not_last : eqb (length (n ∷ s)) 0 ≡ false
  not_last = ne_eqb (length (n ∷ s)) 0 (λ e. omega arith)

  slash_sure : fits_after p (slash ∷ n ∷ s) ≡ true
  slash_sure = rw (slash_is p (n ∷ s), ne_eqb p slash (other_than slash refl), not_last)

  lock_not : (n ≡ 108 → ⊥) → same (46 ∷ n ∷ s) (bytes ".lock") ≡ false
  lock_not h = false_from_ne_true (same (46 ∷ n ∷ s) (bytes ".lock")) (λ e. let j = same_eq (46 ∷ n ∷ s) (bytes ".lock") e in h (cc))

  dot_sure : (n ≡ 108 → ⊥) → fits_after p (46 ∷ n ∷ s) ≡ true
  unfolding starts_with
  dot_sure h = rw (dot_is p (n ∷ s), ne_eqb p slash (other_than slash refl), ne_eqb p 46 (other_than 46 refl), not_last, lock_not h, ne_eqb 108 n (λ e. h (sym e)))

  parting_sure : (b : ℕ) → 46 ≤ b → b ≤ 47 → (eqb b slash || not (eqb n 108)) ≡ true → fits_after p (b ∷ n ∷ s) ≡ true
  parting_sure b l h e = go (leb b 46) refl
    where
      go : (d : Bool) → leb b 46 ≡ d → fits_after p (b ∷ n ∷ s) ≡ true
      go true w =
          let low = leb-true b 46 w in
          let is : b ≡ 46 = omega arith in
          rw is (dot_sure (eqb-false n 108 (not-true (eqb n 108) (rw is at e))))
      go false w =
          let high = leb-false b 46 w in
          let is : b ≡ 47 = omega arith in
          rw is slash_sure

sure_fits : (p b n : ℕ) (s : Bytes) → sure p b n ≡ true → fits_after p (b ∷ n ∷ s) ≡ true
sure_fits p b n s h = or_eq (plain b) (parting b && not (parting p) && (eqb b slash || not (eqb n 108))) h (λ k. plain_fits b k p (n ∷ s)) (λ k.
    let both = and_left (parting b && not (parting p)) (eqb b slash || not (eqb n 108)) k in
    let at = in_range (parting b) b 46 47 refl (and_left (parting b) (not (parting p)) both) in
    parting_sure p n s (not-true (parting p) (and_right (parting b) (not (parting p)) both)) b at.0 at.1 (and_right (parting b && not (parting p)) (eqb b slash || not (eqb n 108)) k))

sure_at : (p : ℕ) (s : Bytes) (i : ℕ) → i + 1 < length s → sure p (get_or s i 0) (get_or s (i + 1) 0) ≡ true → fits_after p (drop i s) ≡ true
sure_at p s i h e = rw (drop-cons s i 0 (omega arith), ← add-one i, drop-cons s (i + 1) 0 h) (sure_fits p (get_or s i 0) (get_or s (i + 1) 0) (drop (suc (i + 1)) s) e)

pub rules_sure : (s : Bytes) (i n : ℕ) → i + n + 1 < length s → all_sure s i n ≡ true → rules_after (get_or s i 0) (drop (i + 1) s) ≡ rules_after (get_or s (i + n) 0) (drop (i + n + 1) s)
rules_sure s i zero h e = let z : i + 0 ≡ i = omega arith in rw z
rules_sure s i (suc n) h e =
    let m : i + suc n ≡ i + n + 1 = omega arith in
    let two : i + n + 2 ≡ i + n + 1 + 1 = omega arith in
    let here = sure (get_or s (i + n) 0) (get_or s (i + n + 1) 0) (get_or s (i + n + 2) 0) in
    rules_sure s i n (omega arith) (and_left (all_sure s i n) here e)
    ∙ rw (m, rules_at (get_or s (i + n) 0) s (i + n + 1) (omega arith), sure_at (get_or s (i + n) 0) s (i + n + 1) (omega arith) (rw two at (and_right (all_sure s i n) here e)))

pub first_plain : (s : Bytes) → 0 < length s → plain (get_or s 0 0) ≡ true → rules_after slash s ≡ rules_after (get_or s 0 0) (drop 1 s)
first_plain s l h = rules_at slash s 0 l ∙ rw (plain_at slash s l (plain_fits (get_or s 0 0) h))

-- ---- the byte before a place

pub before_next : (s : Bytes) (i : ℕ) → before s (i + 1) ≡ get_or s i 0
before_next s i = rw (add-one i)
