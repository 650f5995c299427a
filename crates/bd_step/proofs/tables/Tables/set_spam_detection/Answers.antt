use Rattle.bd_step.proofs.{Words.{refl, spam_step, stands_marked, with_spam_detection}, Meeting.{taken_step, meets}, Standing.{within}}
use Rattle.bd_step.proofs.tables.Tables.set_spam_detection.Goals as goal

pub returns-clause-step : goal.returns-clause-step
unfolding spam_step with_spam_detection
returns-clause-step c = taken_step _ _ _ _ _ (
    meets _ _ _ _ _ (λ s h by.
    let w = within _ s h in
    record {
      answered = refl;
      stands = record {
        own = record {
          steps_are = w.own.steps_are;
          processes_are = c.set_spam_detection.ensures.stands s.processes w.own.processes_are;
          manager_is = w.own.manager_is;
        };
        objects_stand = w.objects_stand;
        calls_stand = w.calls_stand;
        windows_stand = stands_marked c.args.self.now.windows s c.args.actor.process.made c.args.on w.windows_stand;
      };
    }))
