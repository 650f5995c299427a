use Rattle.bd_records.proofs.Words.{None, Some, ap, not, sym, ◌∙◌}
use Rattle.bd_records.proofs.Holding.{held_told, strong_told}
use Rattle.bd_records.proofs.records.Records.hold.Goals as goal

pub returns-in-Some-clause-held : goal.returns-in-Some-clause-held
returns-in-Some-clause-held c = λ objects l h. ap not c.is_empty.ensures ∙ held_told c.args.self.now objects l h c.args.o (Some c.in-Some.w) (sym c.row_of.ensures.is ∙ c.in-Some.is)

pub returns-in-Some-clause-strong : goal.returns-in-Some-clause-strong
returns-in-Some-clause-strong c = λ objects l h. strong_told c.args.self.now objects l h c.args.o (Some c.in-Some.w) (sym c.row_of.ensures.is ∙ c.in-Some.is)

pub returns-in-None-clause-held : goal.returns-in-None-clause-held
returns-in-None-clause-held c = λ objects l h. held_told c.args.self.now objects l h c.args.o None (sym c.row_of.ensures.is ∙ c.in-None.is)

pub returns-in-None-clause-strong : goal.returns-in-None-clause-strong
returns-in-None-clause-strong c = λ objects l h. strong_told c.args.self.now objects l h c.args.o None (sym c.row_of.ensures.is ∙ c.in-None.is)
