-- Which categories keep their word in the short name, and which are never sought packed: for every name.
use mathlib.Core.Path.{◌≡◌, refl, subst}
use Prim.Native.Nat.{ℕ, ◌+◌}
use mathlib.Core.Bool.{true}
use Rattle.std.specs.Prelude.{Option, None, Some}
use lib.ListN.{drop}
use Rattle.names.specs.Bytes.{Bytes, bytes, starts_with, after}
use Rattle.names.specs.Name.{is_pseudo}
use Rattle.names.specs.Category.{Category, Tag, LocalBranch, RemoteBranch, Note, Bisect, PseudoRef, MainPseudoRef, MainRef, LinkedRef, LinkedPseudoRef, WorktreePrivate, Rewritten, Class, prefix, first_slash, classify_below, classify_linked, classify, category_in, off_in, category, short_name}
use Rattle.names.specs.Route.{packed_as, packed_name}
use Rattle.names.proofs.Tests.{if_case}

-- the name begins with the category's prefix, and the short name is all of it but `refs/`
abbrev pub KeepsWord : Category → Bytes → Bytes → Type 0
KeepsWord c n short = (starts_with (prefix c) n ≡ true) × (short ≡ after (bytes "refs/") n)

abbrev Kept : Option Category → Bytes → Bytes → Type 0
Kept None n short = Unit {0}
Kept (Some Tag) n short = Unit {0}
Kept (Some LocalBranch) n short = Unit {0}
Kept (Some RemoteBranch) n short = Unit {0}
Kept (Some Note) n short = KeepsWord Note n short
Kept (Some Bisect) n short = KeepsWord Bisect n short
Kept (Some WorktreePrivate) n short = KeepsWord WorktreePrivate n short
Kept (Some Rewritten) n short = KeepsWord Rewritten n short
Kept (Some PseudoRef) n short = Unit {0}
Kept (Some MainPseudoRef) n short = Unit {0}
Kept (Some MainRef) n short = Unit {0}
Kept (Some (LinkedPseudoRef w)) n short = Unit {0}
Kept (Some (LinkedRef w)) n short = Unit {0}

abbrev KeptBy : Bytes → Option Class → Type 0
KeptBy n o = Kept (category_in o) n (drop (off_in o) n)

kept_main : (n rest : Bytes) → KeptBy n (classify_below MainRef MainPseudoRef 14 rest)
unfolding classify_below
kept_main n rest = if_case (KeptBy n) (starts_with (bytes "refs/") rest) (λ _. tt) (λ _. if_case (KeptBy n) (is_pseudo rest) (λ _. tt) (λ _. tt))

kept_linked : (n rest : Bytes) (i : Option ℕ) → KeptBy n (classify_linked rest i)
unfolding classify_below classify_linked
kept_linked n rest None = tt
kept_linked n rest (Some i) =
    if_case (KeptBy n) (starts_with (bytes "refs/") (drop (i + 1) rest)) (λ _. tt) (λ _. if_case (KeptBy n) (is_pseudo (drop (i + 1) rest)) (λ _. tt) (λ _. tt))

kept_class : (n : Bytes) → KeptBy n (classify n)
unfolding classify
kept_class n =
    if_case K (starts_with (prefix Tag) n) (λ _. tt) (λ _.
    if_case K (starts_with (prefix LocalBranch) n) (λ _. tt) (λ _.
    if_case K (starts_with (prefix RemoteBranch) n) (λ _. tt) (λ _.
    if_case K (starts_with (prefix Note) n) (λ h. (h, refl)) (λ _.
    if_case K (starts_with (prefix Bisect) n) (λ h. (h, refl)) (λ _.
    if_case K (starts_with (prefix WorktreePrivate) n) (λ h. (h, refl)) (λ _.
    if_case K (starts_with (prefix Rewritten) n) (λ h. (h, refl)) (λ _.
    if_case K (is_pseudo n) (λ _. tt) (λ _.
    if_case K (starts_with (bytes "main-worktree/") n) (λ _. kept_main n (drop 14 n)) (λ _.
    if_case K (starts_with (bytes "worktrees/") n) (λ _. kept_linked n (drop 10 n) (first_slash (drop 10 n))) (λ _.
    tt))))))))))
  where
    K : Option Class → Type 0
    K o = KeptBy n o

kept : (n : Bytes) → Kept (category n) n (short_name n)
unfolding category short_name
kept n = kept_class n

-- "Note, short `notes/a`; Bisect, WorktreePrivate and Rewritten keep their word too"
pub keeps_note : (n : Bytes) → category n ≡ Some Note → KeepsWord Note n (short_name n)
keeps_note n e = subst (λ k. Kept k n (short_name n)) e (kept n)

pub keeps_bisect : (n : Bytes) → category n ≡ Some Bisect → KeepsWord Bisect n (short_name n)
keeps_bisect n e = subst (λ k. Kept k n (short_name n)) e (kept n)

pub keeps_private : (n : Bytes) → category n ≡ Some WorktreePrivate → KeepsWord WorktreePrivate n (short_name n)
keeps_private n e = subst (λ k. Kept k n (short_name n)) e (kept n)

pub keeps_rewritten : (n : Bytes) → category n ≡ Some Rewritten → KeepsWord Rewritten n (short_name n)
keeps_rewritten n e = subst (λ k. Kept k n (short_name n)) e (kept n)

-- "MainPseudoRef, PseudoRef, LinkedPseudoRef and WorktreePrivate are never sought there."
pub never_main_pseudo : (n : Bytes) → category n ≡ Some MainPseudoRef → packed_name n ≡ None
unfolding packed_name packed_as
never_main_pseudo n e = rw e

pub never_pseudo : (n : Bytes) → category n ≡ Some PseudoRef → packed_name n ≡ None
unfolding packed_name packed_as
never_pseudo n e = rw e

pub never_linked_pseudo : (n w : Bytes) → category n ≡ Some (LinkedPseudoRef w) → packed_name n ≡ None
unfolding packed_name packed_as
never_linked_pseudo n w e = rw e

pub never_private : (n : Bytes) → category n ≡ Some WorktreePrivate → packed_name n ≡ None
unfolding packed_name packed_as
never_private n e = rw e
