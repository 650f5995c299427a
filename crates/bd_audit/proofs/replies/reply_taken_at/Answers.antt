use Rattle.bd_space.specs.Histories.{space_after}
use Rattle.bd_spelling.specs.Records.{history_in}
use Rattle.bd_audit.specs.Replies.{reply_taken, reply_taken_at}
use Rattle.bd_audit.proofs.Beginnings.{take_history, entry_lawful}
use Rattle.bd_audit.proofs.ReplyCalls.{by_name, there_taken, past_taken}
use Rattle.bd_audit.proofs.replies.reply_taken_at.Goals as goal

pub entry_at-requires-clause-before : goal.entry_at-requires-clause-before
entry_at-requires-clause-before c = take_history c.args.place (history_in c.args.record.now) c.requires.lawful

pub read_reply-requires : goal.read_reply-requires
read_reply-requires c =
    let at = rw c.in-Some.is at c.in_ok-engine.ensures.found in
    record { lawful = entry_lawful (history_in c.args.record.now) c.in-Some.engine c.args.place c.in-Some.entry c.requires.lawful at }

pub returns-in-Some : goal.returns-in-Some
returns-in-Some c =
    let h = history_in c.args.record.now in
    let engine = c.in-Some.engine in
    let at = rw c.in-Some.is at c.in_ok-engine.ensures.found in
    by_name c.read_reply.result (reply_taken (space_after engine) c.in-Some.entry) (reply_taken_at h c.args.place)
    (there_taken h engine c.args.place c.in-Some.entry at.begins at.stands) c.read_reply.ensures

pub returns-in-None : goal.returns-in-None
returns-in-None c = past_taken (history_in c.args.record.now) c.args.place (rw c.in-None.is at c.in_ok-engine.ensures.found)
