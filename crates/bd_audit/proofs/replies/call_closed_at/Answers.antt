use Rattle.std.proofs.Common.{◌∙◌, sym}
use Rattle.bd_spelling.specs.Records.{history_in}
use Rattle.bd_audit.proofs.Beginnings.{take_history}
use Rattle.bd_audit.proofs.ReplyCalls.{closed_some, closed_none, past_closed}
use Rattle.bd_audit.proofs.replies.call_closed_at.Goals as goal

pub entry_at-requires-clause-before : goal.entry_at-requires-clause-before
entry_at-requires-clause-before c = take_history c.args.place (history_in c.args.record.now) c.requires.lawful

pub returns-in-Some-innermost : goal.returns-in-Some-innermost
returns-in-Some-innermost c =
    let at = rw c.in-Some.is at c.in_ok-engine.ensures.found in
    closed_some (history_in c.args.record.now) c.in-Some.engine c.args.place c.in-Some.entry c.in-Some-innermost.made _ at.begins at.stands
    (sym c.in-Some-innermost.is ∙ c.innermost.ensures)

pub returns-in-Some : goal.returns-in-Some
returns-in-Some c =
    let at = rw c.in-Some.is at c.in_ok-engine.ensures.found in
    closed_none (history_in c.args.record.now) c.in-Some.engine c.args.place c.in-Some.entry at.begins at.stands
    (sym c.in-None-innermost.is ∙ c.innermost.ensures)

pub returns : goal.returns
returns c = past_closed (history_in c.args.record.now) c.args.place (rw c.in-None.is at c.in_ok-engine.ensures.found)
