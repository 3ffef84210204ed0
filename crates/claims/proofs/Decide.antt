-- The premises of demand 3, one of them left out or none, as a test that computes on two snapshots that are written out.
use Rattle.std.specs.Prelude.{if◌then◌else◌}
use mathlib.Core.Path.{◌≡◌, refl, sym, ap₂, ◌∙◌}
use mathlib.Core.Logic.{◌⊎◌, inl, inr}
use Prim.Native.Nat.{ℕ}
use mathlib.Core.List.{List, [], ◌∷◌}
use mathlib.Core.Bool.{Bool, true, false, ◌&&◌, not, false≢true}
use Rattle.std.specs.Prelude.{Option}
use lib.Dec.{eqb}
use lib.ListN.{take}
use Rattle.names.specs.Bytes.{Bytes, same, starts_with}
use Rattle.names.specs.Name.{under_refs, remote_head}
use Rattle.names.specs.WellFormed.{well_formed}
use Rattle.names.specs.Category.{is_private}
use Rattle.names.specs.Namespace.{expansion}
use Rattle.names.specs.Route.{Base, own, shared, route}
use borrow.Author.Tests.{eqb-true, not-true}
use Rattle.names.proofs.Tests.{and_left, and_right}
use Rattle.names.proofs.Orders.{same_eq}
use Rattle.blocks.specs.Content.{object, symbolic, Reading, reads, unreadable, lower_case, read}
use Rattle.blocks.specs.Snapshot.{Snapshot, or_empty, is_there, region_at}
use Rattle.claims.specs.Demand3.{Held, held_in, Agree, remainder, read_in, PackedId}
use Rattle.claims.proofs.Computing.{refs_compute}
use Rattle.claims.proofs.Tested.{all_true, passed, if_where, keeps_where, fit_test, fit_by}
use Rattle.claims.proofs.Concrete.{all_of, AllOf, names_in, names_of, flat_names, flat_by, once_names, once_by, covers, each_by}
use Rattle.claims.proofs.LeftOut.{Premise, both_fit, no_directory, shared_names, under_refs_only, not_remote_heads, same_id, where_search_reads, no_other_block, worktree_alike, others_agree, both_or_neither_common, twice_over, kept, Keeps, LooseIn, HasBut, DifferBut, CutBut}

-- ---- a test that counts only where the premise is kept

abbrev pub if_kept : Option Premise → Premise → Bool → Bool
if_kept out p t = if_where (kept out p) t

keeps : (out : Option Premise) (p : Premise) {A : Type 0} (t : Bool) → (t ≡ true → A) → if_kept out p t ≡ true → Keeps out p A
keeps out p = keeps_where (kept out p)

-- ---- equality of what is compared

unfoldable pub same_bool : Bool → Bool → Bool
same_bool true b = b
same_bool false b = not b

bool_eq : (a b : Bool) → same_bool a b ≡ true → a ≡ b
unfolding same_bool
bool_eq true b h = sym h
bool_eq false b h = sym (not-true b h)

unfoldable pub same_base : Base → Base → Bool
same_base own own = true
same_base own shared = false
same_base shared own = false
same_base shared shared = true

base_eq : (a b : Base) → same_base a b ≡ true → a ≡ b
unfolding same_base
base_eq own own h = refl
base_eq own shared h = absurd (false≢true h)
base_eq shared own h = absurd (false≢true h)
base_eq shared shared h = refl

abbrev pub block : ℕ → Bytes → Held
block k c = record { kind = k; content = c }

held_eq : (h g : Held) → h.kind ≡ g.kind → h.content ≡ g.content → h ≡ g
held_eq h g p q = ap₂ block p q

unfoldable pub same_held : List Held → List Held → Bool
same_held [] [] = true
same_held [] (g ∷ m) = false
same_held (h ∷ l) [] = false
same_held (h ∷ l) (g ∷ m) = all_true (eqb h.kind g.kind ∷ same h.content g.content ∷ same_held l m ∷ [])

same_held_eq : (l m : List Held) → same_held l m ≡ true → l ≡ m
unfolding same_held
same_held_eq [] [] e = refl
same_held_eq [] (g ∷ m) e = absurd (false≢true e)
same_held_eq (h ∷ l) [] e = absurd (false≢true e)
same_held_eq (h ∷ l) (g ∷ m) e =
    let k = passed (eqb h.kind g.kind ∷ same h.content g.content ∷ same_held l m ∷ []) e in
    ap₂ ◌∷◌ (held_eq h g (eqb-true h.kind g.kind k.0) (same_eq h.content g.content k.1.0)) (same_held_eq l m k.1.1.0)

-- ---- a differing name

-- how a snapshot holds it: loose in the region of a base, so loose over a stale record, or packed
pub data How : Type 0 where
  loose : Base → How
  over_stale : Base → Bytes → How
  packed : How

unfoldable pub reads_id : Reading → Bytes → Bool
reads_id (reads (object x)) id = same x id
reads_id (reads (symbolic x)) id = false
reads_id (unreadable k) id = false

reads_id_eq : (r : Reading) (id : Bytes) → reads_id r id ≡ true → r ≡ reads (object id)
unfolding reads_id
reads_id_eq (reads (object x)) id h = rw (same_eq x id h)
reads_id_eq (reads (symbolic x)) id h = absurd (false≢true h)
reads_id_eq (unreadable k) id h = absurd (false≢true h)

-- a name in which two snapshots differ, and what each holds
pub record Line : Type 0 where
  pub name : Bytes
  pub id : Bytes
  pub id' : Bytes
  pub how : How
  pub how' : How

module _ (out : Option Premise) (width : ℕ) (namespace : Option Bytes) where
  -- the one block is loose and decodes to the id; the one block is a record with it
  unfoldable pub is_loose : List Held → Bytes → Bool
  is_loose [] id = false
  is_loose (h ∷ []) id = eqb h.kind 1 && reads_id (read width h.content) id
  is_loose (h ∷ g ∷ l) id = false

  unfoldable pub is_packed : List Held → Bytes → Bool
  is_packed [] id = false
  is_packed (h ∷ []) id = eqb h.kind 4 && same (lower_case (take width h.content)) id
  is_packed (h ∷ g ∷ l) id = false

  module _ (s : Snapshot) (n : Bytes) where
    -- where the name sought whole is read
    abbrev read_base : Base
    read_base = (route (remainder namespace n)).base

    unfoldable pub loose_test : Bytes → Base → Bool
    loose_test id b = if_kept out where_search_reads (same_base b read_base) && is_loose (held_in (region_at b s) n) id

    unfoldable pub has_test : Bytes → How → Bool
    has_test id (loose b) = loose_test id b && same_held (held_in s.packed n) []
    has_test id (over_stale b stale) = loose_test id b && is_packed (held_in s.packed n) stale
    has_test id packed = is_packed (held_in s.packed n) id && if_kept out no_other_block (same_held (held_in (read_in namespace s n) n) [])

    loose_by : (id : Bytes) (b : Base) → loose_test id b ≡ true → LooseIn out width namespace s n id
    unfolding loose_test is_loose
    loose_by id b h = go (held_in (region_at b s) n) refl (and_right (if_kept out where_search_reads (same_base b read_base)) _ h)
      where
        go : (l : List Held) → held_in (region_at b s) n ≡ l → is_loose l id ≡ true → LooseIn out width namespace s n id
        go [] e k = absurd (false≢true k)
        go (g ∷ []) e k =
            record {
              base = b;
              is_read = keeps out where_search_reads (same_base b read_base) (base_eq b read_base) (and_left (if_kept out where_search_reads (same_base b read_base)) _ h);
              content = g.content;
              there = e ∙ ap₂ ◌∷◌ (held_eq g (block 1 g.content) (eqb-true g.kind 1 (and_left (eqb g.kind 1) _ k)) refl) refl;
              decodes = reads_id_eq (read width g.content) id (and_right (eqb g.kind 1) _ k);
            }
        go (g ∷ f ∷ l) e k = absurd (false≢true k)

    packed_by : (id : Bytes) → is_packed (held_in s.packed n) id ≡ true → PackedId width s n id
    unfolding is_packed
    packed_by id h = go (held_in s.packed n) refl h
      where
        go : (l : List Held) → held_in s.packed n ≡ l → is_packed l id ≡ true → PackedId width s n id
        go [] e k = absurd (false≢true k)
        go (g ∷ []) e k =
            record {
              content = g.content;
              there = e ∙ ap₂ ◌∷◌ (held_eq g (block 4 g.content) (eqb-true g.kind 4 (and_left (eqb g.kind 4) _ k)) refl) refl;
              target = same_eq (lower_case (take width g.content)) id (and_right (eqb g.kind 4) _ k);
            }
        go (g ∷ f ∷ l) e k = absurd (false≢true k)

    has_by : (id : Bytes) (h : How) → has_test id h ≡ true → HasBut out width namespace s n id
    unfolding has_test
    has_by id (loose b) k = HasBut.loose (loose_by id b (and_left (loose_test id b) _ k)) (same_held_eq _ [] (and_right (loose_test id b) _ k))
    has_by id (over_stale b stale) k = HasBut.over_stale (loose_by id b (and_left (loose_test id b) _ k)) stale (packed_by stale (and_right (loose_test id b) _ k))
    has_by id packed k = HasBut.packed (packed_by id (and_left (is_packed (held_in s.packed n) id) _ k)) (keeps out no_other_block _ (same_held_eq _ []) (and_right (is_packed (held_in s.packed n) id) _ k))

  module _ (s t : Snapshot) where
    -- the tests of a line, in the order of DifferBut
    unfoldable pub line_tests : Line → List Bool
    line_tests l =
        starts_with (expansion namespace) l.name
        ∷ well_formed (remainder namespace l.name)
        ∷ if_kept out shared_names (not (is_private (remainder namespace l.name)))
        ∷ if_kept out under_refs_only (under_refs (remainder namespace l.name))
        ∷ if_kept out not_remote_heads (not (remote_head (remainder namespace l.name)))
        ∷ if_kept out same_id (same l.id' l.id)
        ∷ has_test s l.name l.id l.how
        ∷ has_test t l.name l.id' l.how'
        ∷ if_kept out worktree_alike (if is_there s.common then same_held (held_in s.worktree l.name) (held_in t.worktree l.name) else true)
        ∷ []

    alike_by : (n : Bytes) (k : Bool) → (if k then same_held (held_in s.worktree n) (held_in t.worktree n) else true) ≡ true → k ≡ true → held_in s.worktree n ≡ held_in t.worktree n
    alike_by n true h e = same_held_eq _ _ h
    alike_by n false h e = absurd (false≢true e)

    differ_by : (l : Line) → all_true (line_tests l) ≡ true → DifferBut out width namespace s t l.name
    unfolding line_tests
    differ_by l h =
        let k = passed (line_tests l) h in
        record {
          inside = k.0;
          good = k.1.0;
          is_shared = keeps out shared_names _ (not-true (is_private (remainder namespace l.name))) k.1.1.0;
          under = keeps out under_refs_only _ (λ e. e) k.1.1.1.0;
          not_remote_head = keeps out not_remote_heads _ (not-true (remote_head (remainder namespace l.name))) k.1.1.1.1.0;
          id = l.id;
          id' = l.id';
          ids = keeps out same_id _ (same_eq l.id' l.id) k.1.1.1.1.1.0;
          has = has_by s l.name l.id l.how k.1.1.1.1.1.1.0;
          has' = has_by t l.name l.id' l.how' k.1.1.1.1.1.1.1.0;
          alike = keeps out worktree_alike _ (alike_by l.name (is_there s.common)) k.1.1.1.1.1.1.1.1.0;
        }

    -- ---- all names

    unfoldable pub agree_tests : Bytes → List Bool
    agree_tests n =
        same_held (held_in s.worktree n) (held_in t.worktree n)
        ∷ same_held (held_in (or_empty s.common) n) (held_in (or_empty t.common) n)
        ∷ same_held (held_in s.packed n) (held_in t.packed n)
        ∷ []

    agree_by : (n : Bytes) → all_true (agree_tests n) ≡ true → Agree s t n
    unfolding agree_tests
    agree_by n h =
        let k = passed (agree_tests n) h in
        record { in_worktree = same_held_eq _ _ k.0; in_common = same_held_eq _ _ k.1.0; in_packed = same_held_eq _ _ k.1.1.0 }

    -- the names that agree, and those of the lines
    unfoldable pub listed : List Bytes → List Line → List Bytes
    listed [] [] = []
    listed [] (l ∷ ls) = l.name ∷ listed [] ls
    listed (n ∷ ns) ls = n ∷ listed ns ls

    unfoldable pub listed_test : List Bytes → List Line → Bool
    listed_test [] [] = true
    listed_test [] (l ∷ ls) = all_true (line_tests l) && listed_test [] ls
    listed_test (n ∷ ns) ls = all_true (agree_tests n) && listed_test ns ls

    listed_by : (ns : List Bytes) (ls : List Line) → listed_test ns ls ≡ true → AllOf (λ n. Agree s t n ⊎ DifferBut out width namespace s t n) (listed ns ls)
    unfolding listed listed_test
    listed_by [] [] h = tt
    listed_by [] (l ∷ ls) h = (inr (differ_by l (and_left (all_true (line_tests l)) _ h)), listed_by [] ls (and_right (all_true (line_tests l)) _ h))
    listed_by (n ∷ ns) ls h = (inl (agree_by n (and_left (all_true (agree_tests n)) _ h)), listed_by ns ls (and_right (all_true (agree_tests n)) _ h))

    -- the tests of the premises, in the order of CutBut
    unfoldable pub cut_tests : List Bytes → List Line → List Bool
    cut_tests ns ls =
        if_kept out both_fit (fit_test width s)
        ∷ fit_test width t
        ∷ if_kept out no_directory (flat_names (names_of s))
        ∷ if_kept out no_directory (flat_names (names_of t))
        ∷ if_kept out twice_over (once_names namespace (names_of s))
        ∷ if_kept out twice_over (once_names namespace (names_of t))
        ∷ if_kept out others_agree (covers (listed ns ls) s t && listed_test ns ls)
        ∷ if_kept out both_or_neither_common (same_bool (is_there s.common) (is_there t.common))
        ∷ []

    pub cut_by : (ns : List Bytes) (ls : List Line) → all_true (cut_tests ns ls) ≡ true → CutBut out width namespace s t
    unfolding cut_tests
    cut_by ns ls h =
        let k = passed (cut_tests ns ls) h in
        record {
          fit = keeps out both_fit (fit_test width s) (fit_by width s) k.0;
          fit' = fit_by width t k.1.0;
          flat = keeps out no_directory (flat_names (names_of s)) (flat_by s) k.1.1.0;
          flat' = keeps out no_directory (flat_names (names_of t)) (flat_by t) k.1.1.1.0;
          once = keeps out twice_over (once_names namespace (names_of s)) (once_by namespace s) k.1.1.1.1.0;
          once' = keeps out twice_over (once_names namespace (names_of t)) (once_by namespace t) k.1.1.1.1.1.0;
          each =
              keeps out others_agree (covers (listed ns ls) s t && listed_test ns ls)
              (λ e. each_by s t (DifferBut out width namespace s t) (listed ns ls) (and_left (covers (listed ns ls) s t) _ e) (listed_by ns ls (and_right (covers (listed ns ls) s t) _ e)))
              k.1.1.1.1.1.1.0;
          same_common = keeps out both_or_neither_common (same_bool (is_there s.common) (is_there t.common)) (bool_eq (is_there s.common) (is_there t.common)) k.1.1.1.1.1.1.1.0;
        }

-- where this is unfolded, the tests compute
unfoldable pub tests_compute : Unit {0}
unfolding refs_compute all_of names_in names_of flat_names once_names covers same_bool same_base same_held reads_id is_loose is_packed loose_test has_test line_tests agree_tests listed listed_test fit_test cut_tests
tests_compute = tt
