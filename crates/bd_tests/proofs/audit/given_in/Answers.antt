use Rattle.bd_spelling.specs.Records.{history_in}
use Rattle.bd_audit.proofs.Beginnings.{take_history}
use Rattle.bd_tests.proofs.audit.given_in.Goals as goal

pub given_at-requires-clause-before : goal.given_at-requires-clause-before
given_at-requires-clause-before c = take_history c.args.place (history_in c.args.record.now) c.requires.lawful
