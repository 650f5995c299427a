use Rattle.std.proofs.Common.{◌<◌, ◌-◌}
use Rattle.bd_journal.specs.Steps.{count_left, entries_left}
use Rattle.bd_audit.proofs.Shown.{IsShown}
use Rattle.bd_audit.proofs.journals.show_all.Given as goal

abbrev pub invariant-entries : goal.invariant-entries
invariant-entries g l = IsShown l.initial.judge l.judge (entries_left l.initial.reader) (entries_left l.reader)
    × (count_left l.reader < l.all → g.W.Watch.heard l.watch (l.all - count_left l.reader) l.all)

abbrev pub decreases-entries : goal.decreases-entries
decreases-entries g l = count_left l.reader
