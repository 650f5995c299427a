use Rattle.std.proofs.Common.{◌≡◌, ◌<◌, ◌==◌, length, get_or, set, ap, sym, subst, refl, ◌∙◌}
use Rattle.bd_space.specs.declared.space.Process.{Process}
use Rattle.bd_space.specs.Spam.{detecting}
use Rattle.bd_space.specs.Steps.{is_pid}
use Rattle.bd_processes.specs.Stands.{ProcessesAre}
use Rattle.bd_processes.proofs.Pids.{all_get, all_set}
use Rattle.bd_keys.proofs.Rising.{distinct}
use Rattle.bd_space.proofs.Keyed.{changed_at, changed_none, pairs_changed, tags_changed}
use Rattle.bd_processes.proofs.table.ProcessTable.set_spam_detection.Goals as goal

pub invariant_of-self : goal.invariant_of-self
invariant_of-self c =
    let fits = λ (q : Process). is_pid q.pid in
    let all = c.args.self.now.list.items in
    let one = c.index_mut.result.now in
    let i = c.in-Some.i in
    let fit = ap fits c.index_mut.ensures.value ∙ all_get fits all i one c.args.self.now.pids_fit c.in-Some.ensures.within in
    record { pids_fit = all_set fits all i (detecting c.args.on one) c.args.self.now.pids_fit fit }

pub returns-in-Some-clause-stands : goal.returns-in-Some-clause-stands
returns-in-Some-clause-stands c = λ ps h.
    let i = c.in-Some.i in
    let made = λ (q : Process). q.made in
    let pid = λ (q : Process). q.pid in
    let f = detecting c.args.on in
    let is_it = λ (q : Process). q.made == c.args.made in
    let one = c.index_mut.result.now in
    let within = subst (λ xs. i < length xs) h.items_are c.in-Some.ensures.within in
    let there = c.in-Some.ensures.found ps h in
    let is = c.index_mut.ensures.value ∙ ap (λ xs. get_or xs i one) h.items_are in
    record {
      items_are = ap (λ xs. set xs i (f one)) h.items_are
          ∙ ap (λ q. set ps i (f q)) is
          ∙ sym (changed_at made f c.args.made ps i one (distinct made ps h.rising) within there);
      rising = pairs_changed is_it f made (λ q. refl) (λ a b. a < b) ps h.rising;
      apart = pairs_changed is_it f pid (λ q. refl) (λ a b. a ≡ b → ⊥) ps h.apart;
      found = λ n. h.found n ∙ sym (tags_changed is_it f pid (λ q. refl) made (λ q. refl) n ps);
    }

pub returns-in_default-clause-stands : goal.returns-in_default-clause-stands
returns-in_default-clause-stands c = λ ps h.
    let none = c.in_default.ensures.found ps h in
    subst (ProcessesAre c.args.self.now)
    (sym (changed_none (λ (q : Process). q.made) (detecting c.args.on) c.args.made ps none)) h
