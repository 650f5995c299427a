use Rattle.bd_step.proofs.{Words.{Within, owe, refl, refused_local, subst, sym, ◌+◌}, Meeting.{taken_step}, Standing.{within}}
use Rattle.bd_step.proofs.tables.Tables.stop.Goals as goal

pub returns-clause-step : goal.returns-clause-step
unfolding owe
returns-clause-step c = taken_step _ _ _ _ _ (
    record {
      answered = λ s h p. refl;
      stands = λ s h p. subst (Within c.owe.new.self) (sym (refused_local s c.args.seat c.args.told p.quiet))
          (c.owe.ensures.stands (s.steps + 1) s (within c.reserve.new.self s (c.reserve.ensures.stands s h)));
    })
