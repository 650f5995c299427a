use Rattle.std.proofs.Common.{◌≡◌, ◌-◌, length}
use Rattle.bd_journal.specs.Cut.{behind, whole_from}
use Rattle.bd_journal.proofs.cut.whole_entries_at.Given as goal

abbrev pub invariant-loop : goal.invariant-loop
invariant-loop l = behind l.entries.entries (whole_from l.version l.seats (length l.bytes - l.counter) l.rest) ≡ whole_from l.version l.seats (length l.bytes) l.bytes
