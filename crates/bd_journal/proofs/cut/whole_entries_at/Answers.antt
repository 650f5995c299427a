use Rattle.std.proofs.Common.{ap, length, subst, Some}
use Rattle.bd_spelling.specs.Reading.{Fails, entry_from}
use Rattle.bd_journal.specs.Cut.{whole_from}
use Rattle.bd_journal.proofs.Whole.{goes_on, ends, is_done}
use Rattle.bd_journal.proofs.cut.whole_entries_at.Goals as goal

pub returns-in-Err-Malformed : goal.returns-in-Err-Malformed
returns-in-Err-Malformed c =
    let all = whole_from c.args.version c.args.seats (length c.args.bytes.now) c.args.bytes.now in
    let none = subst (λ e. Fails e (entry_from c.args.version c.args.seats c.loop.rest.now)) c.in-Err-Malformed.field-0-is c.in-Err-Malformed.ensures in
    ap (λ x. Some x) (ends c.args.version c.args.seats c.loop.entries.entries (length c.args.bytes.now) c.loop.counter c.loop.rest.now all c.loop-test.true none c.loop.invariant)

pub loop-preserved : goal.loop-preserved
loop-preserved c =
    let all = whole_from c.args.version c.args.seats (length c.args.bytes.now) c.args.bytes.now in
    rw c.in-Ok-append.ensures.added (goes_on c.args.version c.args.seats c.loop.entries.entries (length c.args.bytes.now) c.loop.counter c.loop.rest.now all c.in-Ok.entry c.in-Ok.after.now c.loop-test.true c.in-Ok.ensures c.loop.invariant)

pub returns : goal.returns
returns c =
    let all = whole_from c.args.version c.args.seats (length c.args.bytes.now) c.args.bytes.now in
    ap (λ x. Some x) (is_done c.args.version c.args.seats c.loop.entries.entries (length c.args.bytes.now) c.loop.counter c.loop.rest.now all c.loop-test.false c.loop.invariant)
