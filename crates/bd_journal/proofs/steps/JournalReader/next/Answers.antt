use Rattle.std.proofs.Common.{arith}
use Rattle.std.proofs.lemmas.Result.{err_from_is_err_and}
use Rattle.bd_journal.proofs.Stepping.{all_read, goes_on, more_stands, none_stands}
use Rattle.bd_journal.proofs.steps.JournalReader.next.Goals as goal

pub returns-then-not-is_empty-clause-error : goal.returns-then-not-is_empty-clause-error
returns-then-not-is_empty-clause-error c = search (arith, more_stands)

pub returns-then-self-eq0-clause-entry : goal.returns-then-self-eq0-clause-entry
returns-then-self-eq0-clause-entry c = search (arith, all_read)

pub returns-in_err-entry-clause-error : goal.returns-in_err-entry-clause-error
returns-in_err-entry-clause-error c =
    let p = err_from_is_err_and c.from_residual.result c.from_residual.ensures.1 in
    let r = c.args.self.now in
    rw (p.1, p.2) (none_stands r.version r.seats r.left r.rest.now c.in_err-entry.field-0.0 (omega (arith, c.if-self-eq0.false)) c.in_err-entry.ensures)

pub returns-clause-entry : goal.returns-clause-entry
returns-clause-entry c =
    let r = c.args.self.now in
    goes_on r.version r.seats r.left r.rest.now c.in_ok-entry.entry c.in_ok-entry.rest.now (omega (arith, c.if-self-eq0.false)) c.in_ok-entry.ensures
