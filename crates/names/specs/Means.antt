-- What the code's types mean.
use Prim.Native.Nat.{ℕ, Ordering}
use denote.Ref.{Bor}
use Rattle.std.specs.Prelude.{Option, None, Some, Result, Ok, Err}
use Rattle.std.specs.Prelude.{◌++◌, take, if◌then◌else◌}
use Rattle.std.specs.Option.{option_map}
use Rattle.names.specs.Bytes.{Bytes}
use Rattle.names.specs.Check.{Check, unless, ◌or_else◌, Checked, gives, refuses, checked}
use Rattle.names.specs.Name.{fits}
use Rattle.names.specs.WellFormed.{complete}
use Rattle.names.specs.Category.{Category, Tag, LocalBranch, RemoteBranch, Note, Bisect, WorktreePrivate, Rewritten, PseudoRef, MainPseudoRef, MainRef, LinkedPseudoRef, LinkedRef}
use Rattle.names.specs.Route.{Base, own, shared, Place, at}
use Rattle.std.specs.declared.cmp.Ordering as answer
use Rattle.std.specs.declared.cmp.Ordering.TheVariants.{Less, Equal, Greater}
use Rattle.names.specs.declared.bytes.Joined.{Joined}
use Rattle.names.specs.declared.name.Name.{Name}
use Rattle.names.specs.declared.partial.PartialName.{PartialName}
use Rattle.names.specs.declared.name.Refusal.{Refusal}
use Rattle.names.specs.declared.name.Refusal.TheVariants as refusal
use Rattle.names.specs.declared.name.TooLong.{TooLong}
use Rattle.names.specs.declared.fullname.FullName.{FullName}
use Rattle.names.specs.declared.namespace.Namespace.{Namespace}
use Rattle.names.specs.declared.find.Base as code-base
use Rattle.names.specs.declared.find.Base.TheVariants.{Own, Shared}
use Rattle.names.specs.declared.fullname.Category as code
use Rattle.names.specs.declared.fullname.Category.TheVariants as variant

-- the answer of a comparison
abbrev pub ordering : answer.Ordering → Ordering
ordering Less = Ordering.lt
ordering Equal = Ordering.eq
ordering Greater = Ordering.gt

-- the path that two parts make
abbrev pub path : Joined → Bytes
path j = j.first.now ++ j.rest.now

-- ---- names

-- the first len bytes; all of them, where len is more
unfoldable pub held : Bytes → ℕ → Bytes
held b len = take len b

-- the bytes that a name stands for
abbrev pub content : Name → Bytes
content n = held n.bytes n.len

-- the bytes of a partial name
abbrev pub partial_content : PartialName → Bytes
partial_content n = content n.0

-- the bytes of a full name
abbrev pub full_content : FullName → Bytes
full_content n = content n.0

-- a namespace holds its expansion
abbrev pub expansion_content : Namespace → Bytes
expansion_content n = content n.0

-- the bytes of a name that was made, if it was
abbrev pub made_name : Option Name → Option Bytes
made_name r = option_map content r

-- the bytes of a name behind which some were put, if they found room
abbrev pub pushed : {A : Type 0} → Name → Result A TooLong → Option Bytes
pushed n (Ok a) = Some (content n)
pushed n (Err e) = None

-- what a name can hold
abbrev pub if_fits : Bytes → Option Bytes
if_fits s = if fits s then Some s else None

-- ---- checks

-- the number of a refusal, in document 01's table
abbrev pub number : Refusal → ℕ
number refusal.TooLong = 3
number refusal.Malformed = 4
number refusal.ExpansionTooLong = 5

-- a result as a check
abbrev pub check_of : {A : Type 0} → Result A Refusal → Check
check_of (Ok a) = None
check_of (Err r) = Some (number r)

-- what was checked, by the bytes of its answer: these, or the number
abbrev pub checked_of : {A : Type 0} → (A → Bytes) → Result A Refusal → Checked Bytes
checked_of f (Ok a) = gives (f a)
checked_of f (Err r) = refuses (number r)

-- what a full name must be: 3 "over 250 bytes", 4 "not complete where a complete one is due"
abbrev pub full_check : Bytes → Check
full_check s = unless 3 (fits s) or_else unless 4 (complete s)

-- the full name, unless that refuses it
unfoldable pub full_checked : Bytes → Checked Bytes
full_checked s = checked (full_check s) s

-- ---- categories

-- the category, with its worktree's name
abbrev pub category_of : code.Category → Category
category_of variant.Tag = Tag
category_of variant.LocalBranch = LocalBranch
category_of variant.RemoteBranch = RemoteBranch
category_of variant.Note = Note
category_of variant.PseudoRef = PseudoRef
category_of variant.MainPseudoRef = MainPseudoRef
category_of variant.MainRef = MainRef
category_of (variant.LinkedPseudoRef w) = LinkedPseudoRef w.now
category_of (variant.LinkedRef w) = LinkedRef w.now
category_of variant.Bisect = Bisect
category_of variant.Rewritten = Rewritten
category_of variant.WorktreePrivate = WorktreePrivate

-- a category and the short name beside it
abbrev pub named_of : code.Category × Bor Bytes → Category × Bytes
named_of p = (category_of p.0, p.1.now)

-- the same, where the name has a category
abbrev pub class_of : Option (code.Category × Bor Bytes) → Option (Category × Bytes)
class_of r = option_map named_of r

-- ---- where a name is read

-- the region
abbrev pub base_of : code-base.Base → Base
base_of Own = own
base_of Shared = shared

-- the region and the path in it
abbrev pub place_of : code-base.Base × Bor Bytes → Place
place_of r = at (base_of r.0) r.1.now

-- the name that is sought packed
abbrev pub packed_of : Option (Bor Bytes) → Option Bytes
packed_of r = option_map (λ s. s.now) r
