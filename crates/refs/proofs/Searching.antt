-- The candidates one after the other.
use mathlib.Core.Path.{◌≡◌, refl, sym, ap, ◌∙◌}
use Prim.Native.Nat.{ℕ, ◌+◌, ◌<◌, ◌≤◌}
use native.Mathlib.Numerals.{add-one}
use mathlib.Core.List.{List, [], ◌∷◌, ◌++◌}
use mathlib.Core.Bool.{Bool, true, false, true≢false, false≢true}
use Rattle.std.specs.Prelude.{Option, None, Some, is_some}
use Rattle.names.specs.Bytes.{Bytes, bytes, same}
use Rattle.names.specs.Name.{is_pseudo}
use Rattle.names.specs.Means.{content}
use lib.ListN.{length, take, drop, get_or, drop_of_length-le}
use lib.Seq.{drop-cons}
use denote.Ref.{Bor}
use Rattle.names.specs.Candidates.{Candidate, full_name, pass, passes, last_candidate, sought_packed}
use Rattle.names.proofs.Passes.{candidates_are, passes_are, pass_is, last_of_head, last_of_other}
use Rattle.blocks.specs.Entry.{Entry, damaged, failed, loose, unread, packed_record}
use Rattle.blocks.specs.Content.{Reading, reads, unreadable, read}
use Rattle.blocks.specs.Snapshot.{Snapshot, store}
use Rattle.blocks.specs.Means.{id_width}
use Rattle.refs.specs.Answer.{Answer, nothing, found, refused, reading_says, says, strip_answer}
use Rattle.refs.specs.Search.{or_next, first_answer, search}
use Rattle.blocks.specs.Means.{entry_as}
use Rattle.refs.specs.Promises.{looked_up, or_answer, first_of, full_names, last_answer, hit_answer}
use Rattle.refs.specs.declared.find.Hit.{Hit}

-- ---- the answer of a hit

-- there is an answer
abbrev is_answer : Answer → Bool
is_answer nothing = false
is_answer (found r) = true
is_answer (refused k) = true

reading_answers : (e n : Bytes) (d : Reading) → is_answer (strip_answer e (reading_says n d)) ≡ true
reading_answers e n (reads t) = refl
reading_answers e n (unreadable k) = refl

-- an entry always answers
entry_answers : (e n : Bytes) (x : Entry) → is_answer (strip_answer e (says id_width n x)) ≡ true
entry_answers e n damaged = refl
entry_answers e n failed = refl
entry_answers e n (loose m d) = reading_answers e n (read id_width d)
entry_answers e n (unread m) = refl
entry_answers e n (packed_record m t q) = refl

or_left : (a b : Answer) → is_answer a ≡ true → or_answer a b ≡ a
or_left nothing b h = absurd (false≢true h)
or_left (found r) b h = refl
or_left (refused k) b h = refl

-- a hit ends a search
pub hit_or : (e : Bytes) (h : Option Hit) (b : Answer) → is_some h ≡ true → or_answer (hit_answer e h) b ≡ hit_answer e h
hit_or e None b t = absurd (false≢true t)
hit_or e (Some h) b t = or_left _ b (entry_answers e (content h.name) (entry_as h.entry.entry))

-- without one it goes on
pub no_hit_or : (e : Bytes) (h : Option Hit) (b : Answer) → is_some h ≡ false → or_answer (hit_answer e h) b ≡ b
no_hit_or e None b t = refl
no_hit_or e (Some h) b t = absurd (true≢false t)

module _ (e : Bytes) (s : Snapshot) where
  -- ---- names one after the other

  first_append : (l m : List Bytes) (rest : Answer) → first_of e s (l ++ m) rest ≡ first_of e s l (first_of e s m rest)
  unfolding first_of
  first_append [] m rest = refl
  first_append (n ∷ l) m rest = rw (first_append l m rest)

  next_answer : (l : List Bytes) (k : List Candidate) → (first_answer id_width e (store id_width s) (sought_packed l k)).answer ≡ first_of e s l (first_answer id_width e (store id_width s) k).answer
  unfolding first_of first_answer
  next_answer [] k = refl
  next_answer (n ∷ l) k = go (looked_up e s n true) (next_answer l k)
    where
      go : (a : Answer) → (first_answer id_width e (store id_width s) (sought_packed l k)).answer ≡ first_of e s l (first_answer id_width e (store id_width s) k).answer
          → (or_next a (first_answer id_width e (store id_width s) (sought_packed l k))).answer ≡ or_answer a (first_of e s l (first_answer id_width e (store id_width s) k).answer)
      go nothing h = h
      go (found r) h = refl
      go (refused k) h = refl

  search_is : (x : Bytes) → (search id_width e (store id_width s) x).answer ≡ first_of e s (passes x) (last_answer e s x)
  unfolding search
  search_is x = ap (λ (l : List Candidate). (first_answer id_width e (store id_width s) l).answer) (candidates_are x) ∙ next_answer (passes x) (last_candidate x)

  -- ---- a pass over some directories

  -- what a search of the names l finds is what one of the names m does
  pub record Left (l m : List Bytes) : Type 0 where
    pub same : (rest : Answer) → first_of e s l rest ≡ first_of e s m rest

  pub left_start : (l : List Bytes) → Left l l
  left_start l = record { same = λ rest. refl }

  module _ (pseudo : Bool) (x : Bytes) (l : List Bytes) (m : List (Bor Bytes)) (i : ℕ) (k : Left l (full_names pseudo x (drop i m))) where
    pub left_end : length m ≤ i → (rest : Answer) → first_of e s l rest ≡ rest
    unfolding first_of
    left_end h rest = k.same rest ∙ rw (drop_of_length-le m h)

    module _ (h : i < length m) (d : Bor Bytes) (o : Option Hit) (q : hit_answer e o ≡ looked_up e s (full_name pseudo (get_or m i d).now x) true) where
      turn : (rest : Answer) → first_of e s l rest ≡ or_answer (hit_answer e o) (first_of e s (full_names pseudo x (drop (i + 1) m)) rest)
      unfolding first_of
      turn rest = k.same rest ∙ rw (add-one, drop-cons m i d h, q)

      pub left_found : is_some o ≡ true → (rest : Answer) → first_of e s l rest ≡ or_answer (hit_answer e o) rest
      left_found t rest = turn rest ∙ hit_or e o _ t ∙ sym (hit_or e o rest t)

      pub left_next : is_some o ≡ false → Left l (full_names pseudo x (drop (i + 1) m))
      left_next t = record { same = λ rest. turn rest ∙ no_hit_or e o _ t }

  -- ---- the last candidate

  -- what the candidates of a list answer
  abbrev answer_of_all : List Candidate → Answer
  answer_of_all l = (first_answer id_width e (store id_width s) l).answer

  pub last_none : (x : Bytes) → same x (bytes "HEAD") ≡ true → nothing ≡ last_answer e s x
  unfolding first_answer
  last_none x h = sym (ap answer_of_all (last_of_head x h))

  pub last_one : (x : Bytes) → same x (bytes "HEAD") ≡ false → (a : Answer) → a ≡ looked_up e s (full_name true (bytes "remotes/") (x ++ bytes "/HEAD")) false → a ≡ last_answer e s x
  unfolding first_answer
  last_one x h a g =
      g ∙ sym (only (looked_up e s (full_name true (bytes "remotes/") (x ++ bytes "/HEAD")) false)) ∙ sym (ap answer_of_all (last_of_other x h))
    where
      only : (b : Answer) → (or_next b (record { tried = 0; answer = nothing })).answer ≡ b
      only nothing = refl
      only (found r) = refl
      only (refused k) = refl

  -- ---- the passes

  -- what a pass over the first k directories gives
  abbrev pub PassGives : Bool → Bytes → ℕ → Option Hit → Type 0
  PassGives pseudo x k h = (rest : Answer) → first_of e s (take k (pass pseudo x)) rest ≡ or_answer (hit_answer e h) rest

  module _ (x : Bytes) (h : Option Hit) where
    -- of a pseudo name the first pass tries only itself
    module _ (p : true ≡ is_pseudo x) (f : PassGives true x 1 h) where
      first_pass : (search id_width e (store id_width s) x).answer ≡ or_answer (hit_answer e h) (first_of e s (pass false x) (last_answer e s x))
      first_pass = search_is x ∙ ap (λ (l : List Bytes). first_of e s l (last_answer e s x)) (passes_are x true p) ∙ first_append (take 1 (pass true x)) (pass false x) (last_answer e s x) ∙ f _

      pub pseudo_first : is_some h ≡ true → hit_answer e h ≡ (search id_width e (store id_width s) x).answer
      pseudo_first t = sym (first_pass ∙ hit_or e h _ t)

      module _ (t : is_some h ≡ false) (g : Option Hit) (f₂ : PassGives false x 4 g) where
        second_pass : (search id_width e (store id_width s) x).answer ≡ or_answer (hit_answer e g) (last_answer e s x)
        second_pass = first_pass ∙ no_hit_or e h _ t ∙ rw (pass_is x false) (rw (pass_is x false) at f₂ (last_answer e s x))

        pub pseudo_second : is_some g ≡ true → hit_answer e g ≡ (search id_width e (store id_width s) x).answer
        pseudo_second u = sym (second_pass ∙ hit_or e g _ u)

        pub pseudo_last : is_some g ≡ false → last_answer e s x ≡ (search id_width e (store id_width s) x).answer
        pseudo_last u = sym (second_pass ∙ no_hit_or e g _ u)

    module _ (p : false ≡ is_pseudo x) (f : PassGives true x 4 h) where
      only_pass : (search id_width e (store id_width s) x).answer ≡ or_answer (hit_answer e h) (last_answer e s x)
      only_pass = search_is x ∙ ap (λ (l : List Bytes). first_of e s l (last_answer e s x)) (passes_are x false p) ∙ rw (pass_is x true) (rw (pass_is x true) at f (last_answer e s x))

      pub found_first : is_some h ≡ true → hit_answer e h ≡ (search id_width e (store id_width s) x).answer
      found_first t = sym (only_pass ∙ hit_or e h _ t)

      pub found_last : is_some h ≡ false → last_answer e s x ≡ (search id_width e (store id_width s) x).answer
      found_last t = sym (only_pass ∙ no_hit_or e h _ t)
