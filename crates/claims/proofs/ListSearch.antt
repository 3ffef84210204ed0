-- List and search agree: what the table of a listing says of a name comes from one block, and search reads that block first.
use mathlib.Core.Path.{◌≡◌, refl, sym, ap, subst, ◌∙◌}
use mathlib.Core.Logic.{◌⊎◌, inl, inr}
use Prim.Native.Nat.{ℕ}
use native.Mathlib.Omega.{arith}
use mathlib.Core.List.{List, []}
use mathlib.Core.Bool.{Bool, true, false, ◌&&◌, true≢false}
use Rattle.std.specs.Prelude.{Option, None, Some}
use borrow.Author.Tests.{not-true}
use Rattle.names.specs.Bytes.{Bytes, bytes, starts_with}
use Rattle.names.specs.Check.{gives}
use Rattle.names.specs.Name.{fits, under_refs, directory}
use Rattle.names.specs.WellFormed.{well_formed}
use Rattle.names.specs.Category.{is_private}
use Rattle.names.specs.Namespace.{names_check}
use Rattle.names.specs.Candidates.{Candidate}
use Rattle.names.specs.Route.{Base, own, shared, route}
use Rattle.names.proofs.Tests.{and_left, and_right, none≢Some, some_none, none_of}
use Rattle.names.proofs.Rows.{rows, names_none}
use Rattle.names.proofs.Itself.{first_candidate, own_path, shared_base, private_own, sought_itself}
use Rattle.blocks.specs.Block.{Region}
use Rattle.blocks.specs.Content.{Reading, reads, unreadable, read}
use Rattle.blocks.specs.Entry.{Entry, damaged, failed, loose, unread, packed_record, entries}
use Rattle.blocks.specs.Snapshot.{Snapshot, Store, store, or_empty, is_there, common_or, region_at}
use Rattle.blocks.proofs.Stores.{store_is, entries_if_any}
use Rattle.blocks.proofs.Raw.{named_fits}
use Rattle.refs.specs.Answer.{Answer, reading_says, says, strip_answer, block_of}
use Rattle.refs.specs.Search.{Searched, or_next, entry_for, search, answers}
use Rattle.refs.specs.View.{shown_if, scope, view, worktree_shows, common_shows, packed_shows}
use Rattle.refs.specs.Listing.{Offer}
use Rattle.refs.specs.ListPromises.{offered}
use Rattle.refs.specs.Run.{State, start, step, Run, run, listing}
use Rattle.refs.proofs.Clauses.{block_none, file_is, entry_is, lookup_is, first_more, search_first, find_is, step_is, listing_is}
use Rattle.refs.proofs.Blocks.{block_bears}
use Rattle.claims.specs.Compared.{compared}
use Rattle.claims.specs.Demand3.{held_in, some_held}
use Rattle.claims.specs.ListSearch.{next_listed, sought, Premises, Agrees, ListSearch}
use Rattle.claims.proofs.Waits.{shows}
use Rattle.claims.proofs.Least.{◌or◌, table, Offers, offers}
use Rattle.claims.proofs.Runs.{Ordered, ordered, move_offers, move_answer, state_table}
use Rattle.claims.proofs.Views.{Without, scope_honest}
use Rattle.claims.proofs.StoreCut.{held}
use Rattle.claims.proofs.ListingCut.{told, told_block, opens}
use Rattle.claims.proofs.Clash.{held_region, held_packed, no_clash}
use Rattle.claims.proofs.Bridge.{region_made, records_of, common_there, in_worktree, in_packed, there}
use Rattle.claims.proofs.Premises.{flat_of}
use Rattle.claims.proofs.Reached.{run_left, Over, run_over, run_expansion}

-- ---- what a region tells of a name

module _ (width : ℕ) (keep : Bytes → Bool) (x : Bytes) (l : List Entry) where
  -- it comes from the block of that name
  record Told (a : Answer) : Type 0 where
    block : Entry
    borne : block_of x l ≡ Some block
    is_kept : keep x ≡ true
    is : a ≡ compared (strip_answer [] (says width x block))

  shown_is : (b : Bool) (c a : Answer) → shows (shown_if b x c) ≡ Some a → (b ≡ true) × (a ≡ compared c)
  shown_is true c a h = (refl, cc)
  shown_is false c a h = none≢Some h

  told_from : (a : Answer) → told width (scope []) keep x l ≡ Some a → Told a
  told_from a h = go (block_of x l) refl
    where
      go : (o : Option Entry) → block_of x l ≡ o → Told a
      go None e = none≢Some (rw e at h)
      go (Some f) e =
          let k = shown_is (keep x) (strip_answer [] (says width x f)) a (sym (told_block width (scope []) keep x l f e) ∙ h) in
          record { block = f; borne = e; is_kept = k.0; is = k.1 }

  -- a name that would be kept and is not told has no block
  told_none : keep x ≡ true → told width (scope []) keep x l ≡ None → block_of x l ≡ None
  told_none t h =
      none_of (block_of x l)
      (λ f e.
      let k : told width (scope []) keep x l ≡ Some (compared (strip_answer [] (says width x f))) = told_block width (scope []) keep x l f e ∙ rw t refl in
      some_none k h)

-- ---- the first candidate ends the search

module _ (width : ℕ) (x : Bytes) where
  reading_ends : (r : Reading) (rest : Searched) → or_next (strip_answer [] (reading_says x r)) rest ≡ record { tried = 1; answer = strip_answer [] (reading_says x r) }
  reading_ends (reads t) rest = refl
  reading_ends (unreadable k) rest = refl

  entry_ends : (f : Entry) (rest : Searched) → or_next (strip_answer [] (says width x f)) rest ≡ record { tried = 1; answer = strip_answer [] (says width x f) }
  entry_ends damaged rest = refl
  entry_ends failed rest = refl
  entry_ends (loose m c) rest = reading_ends (read width c) rest
  entry_ends (unread m) rest = refl
  entry_ends (packed_record m t p) rest = refl

  abbrev itself : Candidate
  itself = record { name = x; packed = true }

  search_ends : (st : Store) (f : Entry) → under_refs x ≡ true → fits x ≡ true → entry_for [] st itself ≡ Some f
      → search width [] st x ≡ record { tried = 1; answer = strip_answer [] (says width x f) }
  search_ends st f u l e = rw (search_first width [] st x, first_candidate x u, first_more width [] st itself, lookup_is width [] st itself, l, e) (entry_ends f _)

module _ (width : ℕ) (s : Snapshot) (p : Premises width s) where
  abbrev st : Store
  st = store width s

  abbrev os : Ordered st
  os = ordered width s p.fit

  -- the block that search reads first for x
  record Reads (x : Bytes) (a : Answer) : Type 0 where
    block : Entry
    first : entry_for [] st (itself width x) ≡ Some block
    is : a ≡ compared (strip_answer [] (says width x block))
    under : under_refs x ≡ true
    good : well_formed x ≡ true
    short : fits x ≡ true

  sought_is : (x : Bytes) (a : Answer) → Reads x a → sought width s x ≡ answers a
  sought_is x a r =
      let checks : names_check (Some x) None ≡ None = rw (rows (Some x) None, r.short, r.good) refl in
      rw (find_is width s x None, p.fit.sizes, checks, p.fit.flawless, search_ends width x st r.block r.under r.short r.first) (ap answers (sym r.is))

  -- ---- where it is read

  module _ (x : Bytes) (u : under_refs x ≡ true) where
    flat : (m n : Bytes) → held st m ≡ true → held st n ≡ true → directory m n ≡ false
    flat = flat_of width s os p.flat

    -- a file decides
    file_first : (f : Entry) → block_of x (region_at (route x).base st) ≡ Some f → entry_for [] st (itself width x) ≡ Some f
    file_first f h = rw (entry_is [] st (itself width x), file_is [] st x, own_path x u, no_clash st flat x (held_region st x (route x).base f h) (route x).base, h)

    -- else the record
    record_first : (f : Entry) → starts_with (bytes "refs/worktree/") x ≡ false → block_of x (region_at (route x).base st) ≡ None → block_of x st.packed ≡ Some f → entry_for [] st (itself width x) ≡ Some f
    record_first f w h k =
        rw (entry_is [] st (itself width x), file_is [] st x, own_path x u, no_clash st flat x (held_packed st x f k) (route x).base, h, sought_itself x u w, k)

    -- a block of worktree is read: where there is a common region its name is private
    own_read : (is_there st.common ≡ true → is_private x ≡ true) → region_at (route x).base st ≡ st.worktree
    own_read h = go (route x).base refl
      where
        clash : {A : Type 0} → own ≡ shared → A
        clash e = absurd (let z : ◌≡◌ {A = ℕ} 0 1 = cc in omega arith)

        common : (c : Option (List Entry)) → (is_there c ≡ true → is_private x ≡ true) → (route x).base ≡ shared → common_or c st.worktree ≡ st.worktree
        common None h e = refl
        common (Some c) h e = clash (sym (private_own x u (h refl)) ∙ e)

        go : (b : Base) → (route x).base ≡ b → region_at b st ≡ st.worktree
        go own e = refl
        go shared e = common st.common h e

  -- ---- the block that the table tells of

  -- the name of a region's block is not over 250 bytes
  short_of : (r : Region) (x : Bytes) (f : Entry) (t : Bytes) → block_of x (entries width r t) ≡ Some f → fits x ≡ true
  short_of r x f t h =
      let m = region_made width r x f t h in
      named_fits width r m.0 x (rw m.1 (block_bears x f (entries width r t) h))

  from_worktree : (x : Bytes) (a : Answer) → Told width (worktree_shows (scope [])) x st.worktree a → Reads x a
  from_worktree x a t =
      let u : under_refs x ≡ true = and_left (under_refs x) _ t.is_kept in
      record {
        block = t.block;
        first = file_first x u t.block (rw (own_read x u (λ h. p.worktree_private (sym (common_there width s) ∙ h) x named)) t.borne);
        is = t.is;
        under = u;
        good = and_right (under_refs x) _ t.is_kept;
        short = short_of Region.worktree x t.block s.worktree (rw (store_is width s) at t.borne);
      }
    where
      named : some_held (held_in s.worktree x) ≡ true
      named = sym (there width s os x (held_in s.worktree x)) ∙ rw (← in_worktree width s os x, t.borne)

  from_common : (x : Bytes) (a : Answer) → Told width (common_shows (scope [])) x (or_empty st.common) a → Reads x a
  from_common x a t =
      let k : (under_refs x && well_formed x) ≡ true = and_left (under_refs x && well_formed x) _ t.is_kept in
      let u : under_refs x ≡ true = and_left (under_refs x) _ k in
      let v : is_private x ≡ false = not-true (is_private x) (and_right (under_refs x && well_formed x) _ t.is_kept) in
      record {
        block = t.block;
        first = file_first x u t.block (rw (shared_base x u v) (there_common st.common t.borne));
        is = t.is;
        under = u;
        good = and_right (under_refs x) _ k;
        short = short_of Region.common x t.block (or_empty s.common) (rw (store_is width s, entries_if_any width Region.common s.common) at t.borne);
      }
    where
      there_common : (c : Option (List Entry)) → block_of x (or_empty c) ≡ Some t.block → block_of x (common_or c st.worktree) ≡ Some t.block
      there_common None h = none≢Some (sym (block_none x) ∙ h)
      there_common (Some c) h = h

  from_packed : (x : Bytes) (a : Answer) → told width (scope []) (worktree_shows (scope [])) x st.worktree ≡ None → told width (scope []) (common_shows (scope [])) x (or_empty st.common) ≡ None
      → Told width (packed_shows (scope [])) x st.packed a → Reads x a
  from_packed x a w c t =
      record {
        block = t.block;
        first = record_first x u t.block (p.packed_not_worktree x named) (absent (is_private x) refl) t.borne;
        is = t.is;
        under = u;
        good = good;
        short = short_of Region.packed x t.block s.packed (rw (store_is width s) at t.borne);
      }
    where
      named : some_held (held_in s.packed x) ≡ true
      named = sym (there width s os x (held_in s.packed x)) ∙ rw (← in_packed width s os x, t.borne)

      u : under_refs x ≡ true
      u = p.packed_under_refs x named

      good : well_formed x ≡ true
      good = (records_of width s x t.block t.borne).1

      -- a file of the name would have been shown
      no_worktree : block_of x st.worktree ≡ None
      no_worktree = told_none width (worktree_shows (scope [])) x st.worktree (rw (u, good) refl) w

      no_common : is_private x ≡ false → block_of x (or_empty st.common) ≡ None
      no_common v = told_none width (common_shows (scope [])) x (or_empty st.common) (rw (u, good, v) refl) c

      in_shared : is_private x ≡ false → (o : Option (List Entry)) → block_of x (or_empty o) ≡ None → block_of x (common_or o st.worktree) ≡ None
      in_shared v None h = no_worktree
      in_shared v (Some l) h = h

      absent : (b : Bool) → is_private x ≡ b → block_of x (region_at (route x).base st) ≡ None
      absent true v = rw (private_own x u v) no_worktree
      absent false v = rw (shared_base x u v) (in_shared v st.common (no_common v))

  table_reads : (x : Bytes) (a : Answer) → opens width (scope []) st x ≡ Some a → Reads x a
  table_reads x a h = go (tw x) refl (tc x) refl h
    where
      tw : Bytes → Option Answer
      tw y = told width (scope []) (worktree_shows (scope [])) y st.worktree

      tc : Bytes → Option Answer
      tc y = told width (scope []) (common_shows (scope [])) y (or_empty st.common)

      tp : Bytes → Option Answer
      tp y = told width (scope []) (packed_shows (scope [])) y st.packed

      go : (w : Option Answer) → tw x ≡ w → (c : Option Answer) → tc x ≡ c → w or c or tp x ≡ Some a → Reads x a
      go (Some b) e c f h = from_worktree x a (told_from width (worktree_shows (scope [])) x st.worktree a (e ∙ h))
      go None e (Some b) f h = from_common x a (told_from width (common_shows (scope [])) x (or_empty st.common) a (f ∙ h))
      go None e None f h = from_packed x a e f (told_from width (packed_shows (scope [])) x st.packed a h)

  -- ---- a step of a run

  module _ (n : ℕ) where
    abbrev now : State
    now = (run width s n (start [])).last

    no_table : Over width [] (Without []) (scope_honest width []) s p.fit now
    no_table = run_over width [] (Without []) (scope_honest width []) s p.fit n (start []) refl (λ h. absurd (true≢false (sym h)))

    -- what is next begins the table
    begins_next : (o : Offer) → next_listed width s now ≡ Some o → table (view width (scope [])) st now.at o.name ≡ Some (compared o.answer)
    begins_next o q = go (next_listed width s now) q (move_offers (Without []) (view width (scope [])) (scope_honest width []) st os now.at)
      where
        go : (r : Option Offer) → r ≡ Some o → Offers (Without []) (table (view width (scope [])) st now.at) r → table (view width (scope [])) st now.at o.name ≡ Some (compared o.answer)
        go None e f = none≢Some e
        go (Some o') e (offers h) = let d : o' ≡ o = cc in rw (← d) h.here

    -- and stood in the table of the opening
    at_opening : now.ended ≡ false → (y : Bytes) (a : Answer) → table (view width (scope [])) st now.at y ≡ Some a → opens width (scope []) st y ≡ Some a
    at_opening e y a h = go (run_left width [] (Without []) (scope_honest width []) s p.fit n (start []) refl y)
      where
        go : (state_table width [] s now y ≡ None) ⊎ (state_table width [] s now y ≡ state_table width [] s (start []) y) → opens width (scope []) st y ≡ Some a
        go (inl i) = some_none h (rw e at i)
        go (inr i) = sym (rw e at i) ∙ h

    step_answer : now.ended ≡ false → (step width s now).answer ≡ offered (next_listed width s now)
    step_answer e =
        rw (step_is width s now, p.fit.sizes, e, run_expansion width [] (Without []) (scope_honest width []) s p.fit n (start []) refl)
        (move_answer (Without []) (view width (scope [])) (scope_honest width []) st os now.at)

    agrees : (b : Bool) → now.ended ≡ b → (q : Option Offer) → next_listed width s now ≡ q → Agrees width s now q
    agrees true e None q = rw (step_is width s now, p.fit.sizes, e) refl
    agrees true e (Some o) q = some_none (begins_next o q) (no_table e o.name)
    agrees false e None q = step_answer e ∙ rw q refl
    agrees false e (Some o) q =
        (step_answer e ∙ rw q refl, sought_is o.name (compared o.answer) (table_reads o.name (compared o.answer) (at_opening e o.name (compared o.answer) (begins_next o q))))

pub list_search : ListSearch
list_search width s p n r h =
    subst (λ (r : Run). Agrees width s r.last (next_listed width s r.last)) (gives_eq (sym opened ∙ h))
    (agrees width s p n (run width s n (start [])).last.ended refl (next_listed width s (run width s n (start [])).last) refl)
  where
    gives_eq : {a b : Run} → gives a ≡ gives b → a ≡ b
    gives_eq e = cc

    opened : listing width s None n ≡ gives (run width s n (start []))
    opened = rw (listing_is s None width n, p.fit.sizes, names_none) refl
