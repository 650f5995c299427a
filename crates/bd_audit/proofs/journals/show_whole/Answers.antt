use Rattle.std.proofs.Common.{arith}
use Rattle.bd_journal.specs.Steps.{whole_left}
use Rattle.bd_audit.proofs.Shown.{shows_none_whole, shows_one_whole}
use Rattle.bd_audit.proofs.journals.show_whole.Goals as goal

pub entries-init : goal.entries-init
entries-init g c = (shows_none_whole c.args.judge.now (whole_left c.args.reader.now) _ search, search arith, λ some. absurd (omega (arith, some)))

pub entries-preserved-in-Ok : goal.entries-preserved-in-Ok
entries-preserved-in-Ok g c = (
  shows_one_whole c.args.judge.now c.entries.judge c.see.new.self c.in-Ok-Some.entry c.in-Ok-Some.field-0 (whole_left c.args.reader.now) (whole_left c.entries.reader)
      c.next_whole.new.self c.entries.entries c.entries.invariant.0 c.in-Ok-Some.ensures.entry c.in-Ok-Some.field-0-is c.in-Ok.ensures.seen,
  search (arith, c.in-Ok-Some.ensures.fewer, c.entries.invariant.1),
  λ _. (_, _, c.follow.ensures),
)

pub entries-preserved : goal.entries-preserved
entries-preserved g c = (
  shows_one_whole c.args.judge.now c.entries.judge c.see.new.self c.in-Ok-Some.entry c.in-Ok-Some.field-0 (whole_left c.args.reader.now) (whole_left c.entries.reader)
      c.next_whole.new.self c.entries.entries c.entries.invariant.0 c.in-Ok-Some.ensures.entry c.in-Ok-Some.field-0-is c.in-Ok.ensures.seen,
  search (arith, c.in-Ok-Some.ensures.fewer, c.entries.invariant.1),
  λ _. (_, _, c.follow.ensures),
)
