-- Following two snapshots that differ by a cut: 14 can't strike one side only, since an object's name is never one seen.
use Rattle.std.specs.Prelude.{if◌then◌else◌}
use mathlib.Core.Path.{◌≡◌, refl}
use mathlib.Core.Logic.{inl, inr}
use Prim.Native.Nat.{ℕ, zero, suc}
use mathlib.Core.List.{List, [], ◌∷◌}
use mathlib.Core.Bool.{Bool, true, false}
use Rattle.names.specs.Bytes.{Bytes}
use Rattle.blocks.specs.Content.{Target, object, symbolic}
use Rattle.blocks.specs.Snapshot.{Store}
use Rattle.refs.specs.Answer.{Reference, Answer, nothing, found, refused}
use Rattle.refs.specs.Search.{search}
use Rattle.refs.specs.Follow.{stopped, among, on_target, on_answer, follow_from, follow_answer, following}
use Rattle.refs.proofs.Clauses.{follow_last, follow_more, following_is}
use Rattle.claims.specs.Compared.{Outcome, followed_outcome}
use Rattle.claims.proofs.StoreCut.{StoreCut}
use Rattle.claims.proofs.Clash.{kept}
use Rattle.claims.proofs.Match.{Match}
use Rattle.claims.proofs.Searches.{search_match}
use Rattle.claims.proofs.Pointing.{Honest, honest_search, Seen, seen_none, seen_more, not_seen}

module _ (width : ℕ) (e : Bytes) (s t : Store) (cut : StoreCut width e s t) where
  abbrev goes : Store → ℕ → List Bytes → Reference → Outcome
  goes s left seen r = followed_outcome (follow_from width e s left seen r)

  -- an object target ends following alike, whatever was seen and whatever the reference's name
  object_ends : (left : ℕ) (l l' : List Bytes) (r r' : Reference) (id : Bytes) → r.target ≡ object id → r'.target ≡ object id → goes s left l r ≡ goes t left l' r'
  object_ends zero l l' r r' id i i' = rw (follow_last width e s l r, follow_last width e t l' r')
  object_ends (suc left) l l' r r' id i i' = rw (follow_more width e s left l r, follow_more width e t left l' r', i, i')

  -- from one reference: the steps left are alike, by what the search of its target answers
  module _ (left : ℕ) (seen : List Bytes) (r : Reference)
      (more : (x : Reference) → ((n : Bytes) → x.target ≡ symbolic n → Seen width e s (x.name ∷ seen)) → goes s left (x.name ∷ seen) x ≡ goes t left (x.name ∷ seen) x) where
    abbrev after : Store → Answer → Outcome
    after s a = followed_outcome (on_answer seen r a (λ x. follow_from width e s left (x.name ∷ seen) x))

    found_same : (x : Reference) → Honest width e s (found x) → Seen width e s seen → (b : Bool)
        → followed_outcome (if b then stopped 14 r else follow_from width e s left (x.name ∷ seen) x) ≡ followed_outcome (if b then stopped 14 r else follow_from width e t left (x.name ∷ seen) x)
    found_same x h z true = refl
    found_same x h z false = more x (λ n i. seen_more width e s x.name seen (h n i) z)

    answer_same : (a : Answer) → Honest width e s a → Seen width e s seen → after s a ≡ after t a
    answer_same nothing h z = refl
    answer_same (refused k) h z = refl
    answer_same (found x) h z = found_same x h z (among x.name seen)

    answer_match : (a a' : Answer) → Match width e s a a' → Honest width e s a → Seen width e s seen → after s a ≡ after t a'
    answer_match a a' (inl i) h z = rw (← i) (answer_same a h z)
    answer_match a a' (inr o) h z =
        rw (o.is, o.is', not_seen width e s o.reference.name seen o.unseen z, not_seen width e s o.reference'.name seen o.unseen' z)
        (object_ends left (o.reference.name ∷ seen) (o.reference'.name ∷ seen) o.reference o.reference' o.id o.target o.target')

    target_same : (g : Target) → ((n : Bytes) → g ≡ symbolic n → Seen width e s seen)
        → followed_outcome (on_target r g (λ n. on_answer seen r (search width e s n).answer (λ x. follow_from width e s left (x.name ∷ seen) x)))
        ≡ followed_outcome (on_target r g (λ n. on_answer seen r (search width e t n).answer (λ x. follow_from width e t left (x.name ∷ seen) x)))
    target_same (object id) h = refl
    target_same (symbolic n) h =
        answer_match (search width e s n).answer (search width e t n).answer (search_match width e s t cut n)
        (honest_search width e s (kept width e s cut.once cut.expansion) cut.records n) (h n refl)

  follow_same : (left : ℕ) (seen : List Bytes) (r : Reference) → ((n : Bytes) → r.target ≡ symbolic n → Seen width e s seen) → goes s left seen r ≡ goes t left seen r
  follow_same zero seen r h = rw (follow_last width e s seen r, follow_last width e t seen r)
  follow_same (suc left) seen r h =
      rw (follow_more width e s left seen r, follow_more width e t left seen r) (target_same left seen r (λ x g. follow_same left (x.name ∷ seen) x g) r.target h)

  start_match : (a a' : Answer) → Match width e s a a' → followed_outcome (follow_answer width e s a) ≡ followed_outcome (follow_answer width e t a')
  start_match a a' (inl i) = rw (← i) (start_same a)
    where
      start_same : (a : Answer) → followed_outcome (follow_answer width e s a) ≡ followed_outcome (follow_answer width e t a)
      start_same nothing = refl
      start_same (refused k) = refl
      start_same (found r) = follow_same 5 [] r (λ n i. seen_none width e s)
  start_match a a' (inr o) = rw (o.is, o.is') (object_ends 5 [] [] o.reference o.reference' o.id o.target o.target')

  -- in any namespace
  pub same_following : (x : Bytes) → followed_outcome (following width e s x) ≡ followed_outcome (following width e t x)
  same_following x =
      rw (following_is width e s x, following_is width e t x) (start_match (search width e s x).answer (search width e t x).answer (search_match width e s t cut x))
