use Rattle.bd_records.proofs.Named.{names_kept}
use Rattle.bd_records.proofs.turning.turn.Goals as goal

pub returns-in-Asked-clause-kept : goal.returns-in-Asked-clause-kept
returns-in-Asked-clause-kept c = names_kept c.args.names.now c.turn-in-Asked.new.self c.turn-in-Asked.ensures.named c.turn-in-Asked.ensures.numbers
