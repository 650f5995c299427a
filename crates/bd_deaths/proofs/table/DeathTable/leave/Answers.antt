use Rattle.bd_deaths.proofs.Words.{by_object, by_process, drop_key, dropped_shows, false, object_number, process_number, refl, same_object, same_process}
use Rattle.bd_deaths.proofs.table.DeathTable.leave.Goals as goal

pub returns-clause-objects : goal.returns-clause-objects
returns-clause-objects c = λ rs h.
    let t = c.args.self.now in
    c.give_back.ensures.stands by_object (λ _. false) (drop_key c.args.kept.now.object rs)
    (dropped_shows by_object (λ _. false) same_object (object_number t) (object_number t) t.objects.chains c.remove-watch.new.self c.args.kept.now.object c.remove-watch.ensures.stands c.remove-watch.ensures.open (λ k. refl) rs h)

pub returns-clause-processes : goal.returns-clause-processes
returns-clause-processes c = λ rs h.
    let t = c.args.self.now in
    dropped_shows by_process (λ _. false) same_process (process_number t) (process_number t) t.processes.chains c.remove-mark.new.self c.args.kept.now.process c.remove-mark.ensures.stands c.remove-mark.ensures.open (λ k. refl) rs h

pub returns-clause-gone : goal.returns-clause-gone
returns-clause-gone c = λ rs h none.
    let t = c.args.self.now in
    c.give_back.ensures.gone by_object (λ _. false) (drop_key c.args.kept.now.object rs)
    (dropped_shows by_object (λ _. false) same_object (object_number t) (object_number t) t.objects.chains c.remove-watch.new.self c.args.kept.now.object c.remove-watch.ensures.stands c.remove-watch.ensures.open (λ k. refl) rs h) none
