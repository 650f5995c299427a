use Rattle.bd_records.proofs.Words.{None, Some, ap, arith, nat_lt, sym, ◌∙◌}
use Rattle.bd_records.proofs.{Holding.{asked_told}, Tallies.{none_of_either}}
use Rattle.bd_records.proofs.records.Records.is_asked.Goals as goal

pub returns-in-Some : goal.returns-in-Some
returns-in-Some c = λ objects l h. grind (arith, c.of.ensures, asked_told c.args.self.now objects l h c.args.p c.args.o c.args.strong (Some c.in-Some.w) (sym c.row_of.ensures.is ∙ c.in-Some.is))

pub returns-in-None : goal.returns-in-None
returns-in-None c = λ objects l h.
    ap (nat_lt 0) (sym (none_of_either c.args.strong)) ∙ asked_told c.args.self.now objects l h c.args.p c.args.o c.args.strong None (sym c.row_of.ensures.is ∙ c.in-None.is)
