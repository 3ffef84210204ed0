-- The lines of a run, step by step.
use mathlib.Core.Path.{◌≡◌, refl, ap, sym}
use Prim.Native.Nat.{ℕ, zero, suc, ◌+◌, ◌*◌, ◌/◌, ◌≤◌}
use Rattle.std.specs.Prelude.{None}
use mathlib.Core.List.{List, [], ◌++◌, append_assoc, append-nil}
use native.Mathlib.Omega.{arith}
use lib.ListN.{length}
use Rattle.names.specs.Bytes.{Bytes, bytes}
use Rattle.blocks.specs.Layout.{block_size}
use Rattle.blocks.specs.Snapshot.{Snapshot, or_empty}
use Rattle.blocks.specs.Means.{id_width}
use Rattle.blocks.proofs.Sizes.{sizes_right}
use Rattle.refs.specs.Run.{State, Step, Run, step, run}
use Rattle.refs.specs.Answer.{Answer, nothing, found, refused}
use Rattle.refs.proofs.Moves.{run_none, run_more}
use Rattle.text.specs.Text.{tab, newline, decimal}
use Rattle.text.specs.Reflist.{most_listed, answer_line, answer_lines, line_weight, line_count, end_line, listed_text, block_total, files_check}
use Rattle.text.specs.Promises.{Adds, longest_line, longest_end, most_steps}
use Rattle.text.proofs.Puts.{◌then◌, wider, nothing_put}

-- what n steps from a state give
abbrev pub lines : Snapshot → ℕ → State → Bytes
lines s n st = answer_lines (run id_width s n st).answers

abbrev pub counted : Snapshot → ℕ → State → ℕ
counted s n st = line_count (run id_width s n st).answers

abbrev pub after : Snapshot → ℕ → State → State
after s n st = (run id_width s n st).last

module _ (s : Snapshot) where
  no_lines : (st : State) → lines s 0 st ≡ []
  unfolding answer_lines
  no_lines st = rw (run_none id_width s st)

  none_counted : (st : State) → counted s 0 st ≡ 0
  unfolding line_count
  none_counted st = rw (run_none id_width s st)

  same_state : (st : State) → after s 0 st ≡ st
  same_state st = ap (λ (r : Run). r.last) (run_none id_width s st)

  first_line : (n : ℕ) (st : State) → lines s (suc n) st ≡ answer_line (step id_width s st).answer ++ lines s n (step id_width s st).next
  unfolding answer_lines
  first_line n st = rw (run_more id_width s n st)

  first_counted : (n : ℕ) (st : State) → counted s (suc n) st ≡ line_weight (step id_width s st).answer + counted s n (step id_width s st).next
  unfolding line_count
  first_counted n st = rw (run_more id_width s n st)

  first_moved : (n : ℕ) (st : State) → after s (suc n) st ≡ after s n (step id_width s st).next
  first_moved n st = ap (λ (r : Run). r.last) (run_more id_width s n st)

  -- one step more
  last_line : (n : ℕ) (st : State) → lines s (suc n) st ≡ lines s n st ++ answer_line (step id_width s (after s n st)).answer
  last_line zero st = rw (first_line 0 st, no_lines (step id_width s st).next, no_lines st, same_state st) (append-nil (answer_line (step id_width s st).answer))
  last_line (suc n) st =
      rw (first_line (suc n) st, first_line n st, first_moved n st, last_line n (step id_width s st).next)
      (sym (append_assoc (answer_line (step id_width s st).answer) (lines s n (step id_width s st).next) (answer_line (step id_width s (after s n (step id_width s st).next)).answer)))

  last_counted : (n : ℕ) (st : State) → counted s (suc n) st ≡ counted s n st + line_weight (step id_width s (after s n st)).answer
  last_counted zero st = rw (first_counted 0 st, none_counted (step id_width s st).next, none_counted st, same_state st) (omega arith)
  last_counted (suc n) st = rw (first_counted (suc n) st, first_counted n st, first_moved n st, last_counted n (step id_width s st).next) (omega arith)

  last_moved : (n : ℕ) (st : State) → after s (suc n) st ≡ (step id_width s (after s n st)).next
  last_moved zero st = rw (first_moved 0 st, same_state (step id_width s st).next, same_state st)
  last_moved (suc n) st = rw (first_moved (suc n) st, first_moved n st, last_moved n (step id_width s st).next)

-- ---- what the steps so far have put

pub weight_small : (a : Answer) → line_weight a ≤ 1
weight_small nothing = omega arith
weight_small (found r) = omega arith
weight_small (refused k) = omega arith

-- after n steps from the first state
pub record SoFar (s : Snapshot) (room n : ℕ) (first st : State) (before now : Bytes) (count : ℕ) : Type 0 where
  pub text : Adds room (n * longest_line) before (lines s n first) now
  pub counts : count ≡ counted s n first
  pub few : count ≤ n
  pub state : st ≡ after s n first

module _ (s : Snapshot) (room : ℕ) (first : State) (before : Bytes) where
  pub none_yet : SoFar s room 0 first first before before 0
  none_yet =
      record {
        text = rw (no_lines s first) (nothing_put room 0 before);
        counts = sym (none_counted s first);
        few = omega arith;
        state = sym (same_state s first);
      }

  pub one_more : (n : ℕ) (st : State) (now next : Bytes) (count w : ℕ) (d : Step) → d ≡ step id_width s st → w ≡ line_weight d.answer
      → Adds room longest_line now (answer_line d.answer) next → SoFar s room n first st before now count → SoFar s room (n + 1) first d.next before next (count + w)
  one_more n st now next count w d q v p so_far =
      let more : n + 1 ≡ suc n = omega arith in
      let answers : step id_width s (after s n first) ≡ d = rw (← so_far.state, q) in
      rw more
      record {
        text = rw (last_line s n first, answers) (wider (so_far.text then p) (omega arith));
        counts = rw (last_counted s n first, answers) (omega (arith, so_far.counts, v));
        few = omega (arith, so_far.few, v, weight_small d.answer);
        state = rw (last_moved s n first, answers);
      }

-- the number of blocks as the code has it
pub total_is : (s : Snapshot) (e : Bytes) → e ≡ or_empty s.common → length s.worktree / block_size + length e / block_size + length s.packed / block_size ≡ block_total s
unfolding block_total
total_is s e h = rw h

-- ---- the end

-- lines, then the end
pub then_end : {room n count : ℕ} (l : List Answer) {a b c : Bytes} → Adds room n a (answer_lines l) b → count ≡ line_count l
    → Adds room longest_end b (bytes "end" ++ tab ++ decimal count ++ newline) c → Adds room (n + longest_end) a (listed_text l) c
unfolding listed_text end_line
then_end l p k q = rw (← k) (p then q)

-- no line at all
pub none_listed : listed_text [] ≡ bytes "end" ++ tab ++ decimal 0 ++ newline
unfolding listed_text answer_lines line_count end_line
none_listed = refl

-- ---- sizes

-- files of right sizes have at most 120 blocks
pub few_blocks : (s : Snapshot) → None ≡ files_check (length s.worktree) (length (or_empty s.common)) (length s.packed) → block_total s ≤ most_steps
unfolding files_check block_total
few_blocks s h =
    let right = sizes_right most_listed (length s.worktree) (length (or_empty s.common)) (length s.packed) (sym h) in
    omega (arith, right.worktree, right.common, right.packed)
