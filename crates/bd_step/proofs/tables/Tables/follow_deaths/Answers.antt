use Rattle.bd_step.proofs.{Words.{Within, at_name, deaths_followed, deaths_go_of, deaths_withdrawn, subst, sym, work_goes_of, ◌∙◌}, Following.{none_lost}}
use Rattle.bd_step.proofs.tables.Tables.follow_deaths.Goals as goal

pub returns-clause-stands : goal.returns-clause-stands
unfolding deaths_withdrawn deaths_followed deaths_go_of work_goes_of
returns-clause-stands c = λ s h.
    let k = c.withdraw_deaths.ensures.stands s h in
    record {
      own = k.own;
      objects_stand = c.remove_unnamed_deaths.ensures.stands (deaths_withdrawn (at_name c.args.p c.args.o) s) k.objects_stand;
      calls_stand = k.calls_stand;
      windows_stand = k.windows_stand;
    }

pub returns-then-not-has_lost_death-clause-stands : goal.returns-then-not-has_lost_death-clause-stands
returns-then-not-has_lost_death-clause-stands c = λ s h.
    subst (Within c.args.self.now) (sym (none_lost c.args.p c.args.o s (sym (c.has_lost_death.ensures s h.objects_stand) ∙ c.if-not-has_lost_death.true))) h
