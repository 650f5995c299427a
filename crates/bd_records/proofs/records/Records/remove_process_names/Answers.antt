use Rattle.bd_records.proofs.Words.{name_at, refl, row_at}
use Rattle.bd_records.proofs.{Asked.{counts_ended, renamed}, Given.{settled_now}, Named.{ended}}
use Rattle.bd_records.proofs.records.Records.remove_process_names.Goals as goal

pub returns-clause-stands : goal.returns-clause-stands
returns-clause-stands c = λ objects l none h. renamed c.args.self.now _ objects l h refl refl refl refl (counts_ended (row_at c.args.self.now.objects) (name_at c.args.self.now.names) (name_at c.remove_process.new.self) c.args.p objects l h.counts none c.remove_process.ensures.names)

pub returns-clause-names : goal.returns-clause-names
returns-clause-names c = λ names s. settled_now c.args.self.now _ names _ s (ended c.args.p c.args.self.now.names c.remove_process.new.self c.remove_process.ensures.named c.remove_process.ensures.numbers names s.stands) refl
