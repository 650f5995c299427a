use Rattle.bd_step.proofs.Words.{All, Process, ProcessesAre, [], false, subst, sym, with_process, ℕ, ◌++◌, ◌<◌, ◌∷◌}
use Rattle.bd_step.proofs.tables.Tables.with_process.Goals as goal

abbrev process : ℕ → ℕ → ℕ → ℕ → Process
process place pid euid size = record { made = place; pid = pid; euid = euid; window = size; spam_detection = false }

pub returns-clause-stands : goal.returns-clause-stands
unfolding with_process
returns-clause-stands c = λ s h free w.
    let here = h.own.steps_are in
    let newest = subst (λ n. All (λ (q : Process). q.made < n) s.processes) here h.windows_stand.made.processes_before in
    record {
      own = record {
        steps_are = here;
        processes_are = subst (λ place. ProcessesAre c.push.new.self (s.processes ++ process place c.args.pid c.args.euid c.args.size ∷ [])) (sym here)
            (c.push.ensures.stands s.processes h.own.processes_are (record { newest = newest; free = free }));
        manager_is = h.own.manager_is;
      };
      objects_stand = h.objects_stand;
      calls_stand = h.calls_stand;
      windows_stand = c.open.ensures s _ _ _ h.windows_stand here w;
    }
