use Rattle.bd_step.proofs.{Words.{IfSome, Tells, Work, at_name, death_of, deaths_followed, deaths_go_of, deaths_withdrawn, false, filter_agree, is_some_and, is_touched, not, rules, still_due, subst, work_goes_of, ◌+◌, ◌==◌, ◌||◌}, Changing.{with_calls}}
use Rattle.bd_calls.specs.Stands as calls
use Rattle.bd_objects.specs.Stands as objects
use Rattle.bd_step.proofs.tables.Tables.withdraw_deaths.Goals as goal

pub returns-in-None-clause-stands : goal.returns-in-None-clause-stands
unfolding deaths_withdrawn deaths_followed deaths_go_of work_goes_of
returns-in-None-clause-stands c = λ s h.
    let a = at_name c.args.p c.args.o in
    with_calls (s.steps + 1) _ s c.retain_work.new.self s.threads s.frames _ h
    (c.retain_work.ensures.kept s (λ k. not (is_touched a (λ i. false) s.deaths k) || still_due s.processes s.objects s.references (deaths_go_of a s).deaths k)
    h.calls_stand (λ kind b post. search (rules, h.objects_stand)))

pub returns-in-Some-clause-stands : goal.returns-in-Some-clause-stands
unfolding deaths_withdrawn deaths_followed deaths_go_of work_goes_of
returns-in-Some-clause-stands c = λ s h.
    let a = at_name c.args.p c.args.o in
    with_calls (s.steps + 1) _ s c.withdraw_death.new.self s.threads s.frames _ h
    (subst (λ todo. calls.StandsFor c.withdraw_death.new.self (record s { todo = todo })) (filter_agree _ _ (λ (w : Work).
    subst (λ r. IfSome r (λ m. Tells (objects.StandsFor c.args.self.now.objects) (not (is_some_and (death_of w.kind) (λ n. n == m))) (λ z. not (is_touched a (λ i. false) z.deaths w.kind)
    || still_due z.processes z.objects z.references (deaths_go_of a z).deaths w.kind))) c.in-Some.is (c.only_lost_death.ensures.goes w.kind) s h.objects_stand) s.todo)
    (c.withdraw_death.ensures.stands s h.calls_stand))
