use Rattle.bd_objects.proofs.Words.{sym, ◌∙◌}
use Rattle.bd_objects.proofs.Lost.{item_stays, named_lost, none_lost, one_lost}
use Rattle.bd_objects.proofs.table.ObjectTable.only_lost_death.Goals as goal

pub returns-in_err-x-clause-found : goal.returns-in_err-x-clause-found
returns-in_err-x-clause-found c = λ s h.
    c.from_residual.ensures ∙ none_lost c.args.p c.args.o c.args.self.now.deaths s h.deaths_are (sym (c.uncleared.ensures s.deaths h.deaths_are) ∙ c.in_err-x.was)

pub returns-then-has_name-clause-found : goal.returns-then-has_name-clause-found
returns-then-has_name-clause-found c = λ s h.
    named_lost c.args.p c.args.o c.args.self.now.deaths s h.deaths_are (sym (c.has_name.ensures s h) ∙ c.if-has_name.true)

pub returns-else-has_name-clause-found : goal.returns-else-has_name-clause-found
returns-else-has_name-clause-found c = λ s h.
    one_lost c.args.p c.args.o c.args.self.now.deaths s h.deaths_are c.in_ok-x.x (sym (c.has_name.ensures s h) ∙ c.if-has_name.false) (sym (c.uncleared.ensures s.deaths h.deaths_are) ∙ c.in_ok-x.was)

pub returns-else-has_name-clause-goes : goal.returns-else-has_name-clause-goes
returns-else-has_name-clause-goes c = λ kind s h.
    item_stays c.args.p c.args.o c.args.self.now.deaths s h.deaths_are c.in_ok-x.x (sym (c.has_name.ensures s h) ∙ c.if-has_name.false) (sym (c.uncleared.ensures s.deaths h.deaths_are) ∙ c.in_ok-x.was) kind
