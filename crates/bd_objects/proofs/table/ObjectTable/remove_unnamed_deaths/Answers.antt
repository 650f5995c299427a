use Rattle.bd_objects.proofs.Words.{DeathsAre, deaths_go_of, subst, sym, ◌∙◌}
use Rattle.bd_objects.proofs.Lost.{left_lost}
use Rattle.bd_objects.proofs.table.ObjectTable.remove_unnamed_deaths.Goals as goal

pub returns-in-Some-clause-stands : goal.returns-in-Some-clause-stands
unfolding deaths_go_of
returns-in-Some-clause-stands c = λ s h. record {
  records_are = h.records_are;
  names_are = h.names_are;
  deaths_are = subst (λ xs. DeathsAre c.remove.new.self xs) (sym (left_lost c.args.p c.args.o c.args.self.now.deaths s h.deaths_are _ (sym c.in-Some.is ∙ c.only_lost_death.ensures.found s h))) (c.remove.ensures.stands s.deaths h.deaths_are);
}

pub returns-in_default-clause-stands : goal.returns-in_default-clause-stands
unfolding deaths_go_of
returns-in_default-clause-stands c = λ s h. record {
  records_are = h.records_are;
  names_are = h.names_are;
  deaths_are = subst (λ xs. DeathsAre c.args.self.now.deaths xs) (sym (left_lost c.args.p c.args.o c.args.self.now.deaths s h.deaths_are _ (sym c.in_default.is ∙ c.only_lost_death.ensures.found s h))) h.deaths_are;
}
