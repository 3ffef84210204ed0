-- Searches of two snapshots that differ by a cut match, candidate by candidate.
use mathlib.Core.Path.{refl}
use mathlib.Core.Logic.{inl, inr}
use Prim.Native.Nat.{ℕ}
use mathlib.Core.List.{List, [], ◌∷◌}
use Rattle.names.specs.Bytes.{Bytes}
use Rattle.names.specs.Candidates.{Candidate, candidates}
use Rattle.names.proofs.Sought.{AllFair, candidates_fair}
use Rattle.blocks.specs.Snapshot.{Store}
use Rattle.refs.specs.Answer.{Answer, nothing, found, refused}
use Rattle.refs.specs.Search.{Searched, or_next, lookup, first_answer, search}
use Rattle.refs.proofs.Clauses.{first_none, first_more, search_first}
use Rattle.claims.proofs.StoreCut.{StoreCut}
use Rattle.claims.proofs.Match.{Match, lookup_match}

module _ (width : ℕ) (e : Bytes) (s t : Store) (cut : StoreCut width e s t) where
  next_same : (a : Answer) (r r' : Searched) → Match width e s r.answer r'.answer → Match width e s (or_next a r).answer (or_next a r').answer
  next_same nothing r r' m = m
  next_same (found x) r r' m = inl refl
  next_same (refused k) r r' m = inl refl

  next_match : (a a' : Answer) (r r' : Searched) → Match width e s a a' → Match width e s r.answer r'.answer → Match width e s (or_next a r).answer (or_next a' r').answer
  next_match a a' r r' (inl q) m = rw (← q) (next_same a r r' m)
  next_match a a' r r' (inr o) m =
      inr
      (record {
        reference = o.reference;
        reference' = o.reference';
        is = rw o.is;
        is' = rw o.is';
        id = o.id;
        target = o.target;
        target' = o.target';
        unseen = o.unseen;
        unseen' = o.unseen';
      })

  first_match : (l : List Candidate) → AllFair l → Match width e s (first_answer width e s l).answer (first_answer width e t l).answer
  first_match [] f = rw (first_none width e s, first_none width e t) (inl refl)
  first_match (k ∷ l) f =
      rw (first_more width e s k l, first_more width e t k l)
      (next_match (lookup width e s k) (lookup width e t k) (first_answer width e s l) (first_answer width e t l) (lookup_match width e s t cut k f.0) (first_match l f.1))

  pub search_match : (x : Bytes) → Match width e s (search width e s x).answer (search width e t x).answer
  search_match x = rw (search_first width e s x, search_first width e t x) (first_match (candidates x) (candidates_fair x))
