-- The numbers of reasons and stops.
use Rattle.std.specs.Prelude.{ℕ}
use Rattle.blocks.specs.Means.{refusal_number}
use Rattle.refs.specs.declared.raw.Reason.{Reason}
use Rattle.refs.specs.declared.raw.Reason.TheVariants.{Damaged, ErrorKind, Unread, Content}
use Rattle.refs.specs.declared.raw_ext.Stop.{Stop}
use Rattle.refs.specs.declared.raw_ext.Stop.TheVariants.{NotFound, Cycle, TooDeep}

-- 6 "damaged", 7 "kind 3 or 5", 9 "kind 2", and of the content 10 "unreadable as a reference", 11 "target not complete, 12 apart", 12
abbrev pub reason_number : Reason → ℕ
reason_number Damaged = 6
reason_number ErrorKind = 7
reason_number Unread = 9
reason_number (Content why) = refusal_number why

-- 13 "target not found", 14 "next name already seen", 15 "five names seen"
abbrev pub stop_number : Stop → ℕ
stop_number NotFound = 13
stop_number Cycle = 14
stop_number TooDeep = 15
