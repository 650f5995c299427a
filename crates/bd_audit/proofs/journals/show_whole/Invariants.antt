use Rattle.std.proofs.Common.{◌≤◌, ◌+◌, length}
use Rattle.bd_audit.specs.Judging.{HasHeard}
use Rattle.bd_journal.specs.Steps.{bytes_left, whole_left}
use Rattle.bd_audit.proofs.Shown.{IsWholeShown}
use Rattle.bd_audit.proofs.journals.show_whole.Given as goal

abbrev pub invariant-entries : goal.invariant-entries
invariant-entries g l = IsWholeShown l.initial.judge l.judge (whole_left l.initial.reader) (whole_left l.reader) l.entries × (l.entries + length (bytes_left l.reader) ≤ l.all)
    × HasHeard g.W.Watch.heard l.watch l.entries

abbrev pub decreases-entries : goal.decreases-entries
decreases-entries g l = length (bytes_left l.reader)
