-- A symbolic answer is the loose file of its own name; so every name that following has seen is that of such a file.
use mathlib.Core.Path.{◌≡◌, refl, sym, ◌∙◌}
use Prim.Native.Nat.{ℕ}
use native.Mathlib.Omega.{arith}
use mathlib.Core.List.{List, [], ◌∷◌}
use mathlib.Core.Bool.{Bool, true, false, false≢true}
use Rattle.std.specs.Prelude.{Option, None, Some}
use Rattle.std.proofs.lemmas.Bool.{false_from_ne_true}
use Rattle.names.specs.Bytes.{Bytes, same, strip}
use Rattle.names.specs.Name.{fits}
use Rattle.names.specs.Candidates.{Candidate, candidates}
use Rattle.names.specs.Route.{packed_name}
use Rattle.names.proofs.Tests.{if_case, or_eq, none≢Some}
use Rattle.names.proofs.Orders.{same_eq}
use Rattle.blocks.specs.Content.{object, symbolic, Reading, reads, unreadable, read}
use Rattle.blocks.specs.Entry.{Entry, damaged, failed, loose, unread, packed_record}
use Rattle.blocks.proofs.Raw.{IsRecord}
use Rattle.blocks.specs.Snapshot.{Store}
use Rattle.refs.specs.Answer.{Answer, nothing, found, refused, reading_says, strip_answer}
use Rattle.refs.specs.Search.{clashes, deciding, region_of, path_of, file_of, record_of, answer_of, Searched, or_next, lookup, first_answer, search}
use Rattle.refs.specs.Follow.{among}
use Rattle.refs.proofs.Clauses.{entry_is, lookup_is, first_none, first_more, search_first, among_none, among_next}
use Rattle.claims.proofs.StoreCut.{Records}
use Rattle.claims.proofs.Match.{Points}

-- stripping keeps a name that has a file
abbrev pub Keeps : Bytes → Store → Type 0
Keeps e s = (c : Bytes) (f : Entry) → file_of e s c ≡ Some f → strip e c ≡ c

module _ (width : ℕ) (e : Bytes) (s : Store) where
  abbrev pub Honest : Answer → Type 0
  Honest nothing = Unit {0}
  Honest (refused k) = Unit {0}
  Honest (found r) = (t : Bytes) → r.target ≡ symbolic t → Points width e s r.name

  honest_reading : (c m d : Bytes) (r : Reading) → read width d ≡ r → file_of e s c ≡ Some (loose m d) → strip e c ≡ c → Honest (strip_answer e (reading_says c r))
  honest_reading c m d (unreadable k) i f q = tt
  honest_reading c m d (reads (object id)) i f q = λ t h. absurd (let z : ◌≡◌ {A = ℕ} 0 1 = cc in omega arith)
  honest_reading c m d (reads (symbolic n)) i f q = λ t h. rw q (record { name = m; content = d; target = n; is = f; reads_as = i })

  honest_file : (c : Bytes) (f : Entry) → file_of e s c ≡ Some f → strip e c ≡ c → Honest (answer_of width e c (Some f))
  honest_file c damaged h q = tt
  honest_file c failed h q = tt
  honest_file c (loose m d) h q = honest_reading c m d (read width d) refl h q
  honest_file c (unread m) h q = tt
  honest_file c (packed_record m t p) h q = λ t h. absurd (let z : ◌≡◌ {A = ℕ} 0 1 = cc in omega arith)

  honest_record : (c : Bytes) (o : Option Entry) → ((f : Entry) → o ≡ Some f → IsRecord f) → Honest (answer_of width e c o)
  honest_record c None h = tt
  honest_record c (Some damaged) h = tt
  honest_record c (Some failed) h = tt
  honest_record c (Some (loose m d)) h = absurd (h (loose m d) refl)
  honest_record c (Some (unread m)) h = tt
  honest_record c (Some (packed_record m t p)) h = λ t h. absurd (let z : ◌≡◌ {A = ℕ} 0 1 = cc in omega arith)

  module _ (keep : Keeps e s) (records : Records s) where
    record_is : (b : Bool) (q : Option Bytes) (f : Entry) → record_of e s b q ≡ Some f → IsRecord f
    record_is false q f h = none≢Some h
    record_is true None f h = none≢Some h
    record_is true (Some q) f h = (records _ f h).0

    honest_deciding : (c : Bytes) (b : Bool) (o r : Option Entry) → file_of e s c ≡ o → ((f : Entry) → r ≡ Some f → IsRecord f) → Honest (answer_of width e c (deciding b o r))
    honest_deciding c true o r h i = tt
    honest_deciding c false None r h i = honest_record c r i
    honest_deciding c false (Some f) r h i = honest_file c f h (keep c f h)

    honest_lookup : (k : Candidate) → Honest (lookup width e s k)
    honest_lookup k =
        rw (lookup_is width e s k, entry_is e s k)
        (if_case Honest (fits k.name)
        (λ _. honest_deciding k.name (clashes (path_of e k.name) (region_of s k.name)) (file_of e s k.name) (record_of e s k.packed (packed_name k.name)) refl (record_is k.packed (packed_name k.name)))
        (λ _. tt))

    honest_next : (a : Answer) (r : Searched) → Honest a → Honest r.answer → Honest (or_next a r).answer
    honest_next nothing r h g = g
    honest_next (found x) r h g = h
    honest_next (refused k) r h g = tt

    honest_first : (l : List Candidate) → Honest (first_answer width e s l).answer
    honest_first [] = rw (first_none width e s) tt
    honest_first (k ∷ l) = rw (first_more width e s k l) (honest_next (lookup width e s k) (first_answer width e s l) (honest_lookup k) (honest_first l))

    pub honest_search : (x : Bytes) → Honest (search width e s x).answer
    honest_search x = rw (search_first width e s x) (honest_first (candidates x))

  -- every name seen is that of a loose symbolic reference
  abbrev pub Seen : List Bytes → Type 0
  Seen l = (n : Bytes) → among n l ≡ true → Points width e s n

  pub seen_none : Seen []
  seen_none n h = absurd (false≢true (sym (among_none n) ∙ h))

  pub seen_more : (m : Bytes) (l : List Bytes) → Points width e s m → Seen l → Seen (m ∷ l)
  seen_more m l p h n g = or_eq (same m n) (among n l) (sym (among_next n m l) ∙ g) (λ d. rw (← same_eq m n d) p) (λ d. h n d)

  pub not_seen : (n : Bytes) (l : List Bytes) → (Points width e s n → ⊥) → Seen l → among n l ≡ false
  not_seen n l u h = false_from_ne_true _ (λ i. u (h n i))
