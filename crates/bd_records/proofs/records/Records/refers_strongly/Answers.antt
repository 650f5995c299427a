use Rattle.bd_records.proofs.Words.{None, Some, arith, false, nat_lt, nat_tests, sym, true, ◌∙◌, ◌≡◌}
use Rattle.bd_records.proofs.Holding.{or_false, or_true, strongly_told}
use Rattle.bd_records.proofs.records.Records.refers_strongly.Goals as goal

pub returns-then-w-gt0 : goal.returns-then-w-gt0
returns-then-w-gt0 c = λ objects l h free.
    let some : nat_lt 0 c.in-Some.w.asked.strong ≡ true = (let k = c.if-w-gt0.true in grind (arith, nat_tests, k)) in
    some ∙ sym (sym (strongly_told c.args.self.now objects l h c.args.p c.args.o free (Some c.in-Some.w) (sym c.row_of.ensures.is ∙ c.in-Some.is)) ∙ or_true _ _ some)

pub returns-else-w-gt0 : goal.returns-else-w-gt0
returns-else-w-gt0 c = λ objects l h free.
    let none : nat_lt 0 c.in-Some.w.asked.strong ≡ false = (let k = c.if-w-gt0.false in grind (arith, nat_tests, k)) in
    sym (sym (strongly_told c.args.self.now objects l h c.args.p c.args.o free (Some c.in-Some.w) (sym c.row_of.ensures.is ∙ c.in-Some.is)) ∙ or_false _ _ none)

pub returns-in-None : goal.returns-in-None
returns-in-None c = λ objects l h free. strongly_told c.args.self.now objects l h c.args.p c.args.o free None (sym c.row_of.ensures.is ∙ c.in-None.is)
