use Rattle.bd_objects.proofs.Words.{ap, at_name, death_of, deaths_go_of, false, is_some_and, is_touched, not, still_due, subst, sym, true, ◌==◌, ◌||◌, ◌∙◌, ◌≡◌}
use Rattle.bd_objects.proofs.Lost.{all_stay}
use Rattle.bd_objects.proofs.table.ObjectTable.still_due_at.Goals as goal

pub returns-in-Some : goal.returns-in-Some
returns-in-Some c = λ s h.
    sym (ap (λ k. not (is_some_and (death_of k) (λ n. n == c.in-Some.made))) c.in-Death.is) ∙ c.in-Some.ensures.goes c.args.kind.now s h

pub returns-in-None : goal.returns-in-None
returns-in-None c = λ s h.
    subst (λ k. true ≡ (not (is_touched (at_name c.args.p c.args.o) (λ i. false) s.deaths k) || still_due s.processes s.objects s.references (deaths_go_of (at_name c.args.p c.args.o) s).deaths k))
    (sym c.in-Death.is) (all_stay c.args.p c.args.o c.args.self.now.deaths s h.deaths_are (sym c.in-None.is ∙ c.only_lost_death.ensures.found s h) c.in-Death.n)
