use Rattle.bd_spelling.specs.Records.{history_in}
use Rattle.bd_audit.proofs.Beginnings.{take_history}
use Rattle.bd_audit.proofs.replies.played_to.Goals as goal

pub played_before-requires-clause-before : goal.played_before-requires-clause-before
played_before-requires-clause-before c = take_history c.args.place (history_in c.args.record.now) c.requires.lawful
