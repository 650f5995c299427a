use Rattle.std.proofs.Common.{◌≡◌, ◌<◌, ◌==◌, ℕ, Bool, length, get_or, None, Option, cond, ap, sym, subst, ◌∙◌}
use Rattle.std.specs.Prelude.{remove}
use Rattle.std.proofs.lemmas.List.{get_or_default}
use Rattle.std.proofs.lemmas.List.Quantifiers.{all_pairs_remove}
use Rattle.bd_space.specs.declared.space.Process.{Process}
use Rattle.bd_space.specs.Steps.{is_pid}
use Rattle.bd_keys.specs.declared.key.WordKey.{WordKey}
use Rattle.bd_keys.specs.Keys.{same_word}
use Rattle.bd_keys.specs.Look.{look}
use Rattle.bd_processes.specs.Keys.{pid_key}
use Rattle.bd_processes.specs.Stands.{ProcessesAre}
use Rattle.bd_processes.proofs.Keys.{same_pid}
use Rattle.bd_processes.proofs.Pids.{all_left}
use Rattle.bd_keys.proofs.Rising.{distinct, filter_at, filter_none}
use Rattle.bd_keys.proofs.Found.{tags_less}
use Rattle.bd_processes.proofs.table.ProcessTable.remove.Goals as goal

pub invariant_of-self : goal.invariant_of-self
invariant_of-self c =
    let fits = λ (q : Process). is_pid q.pid in
    let old = c.args.self.now in
    record { pids_fit = rw c.remove-process.ensures.items (all_left fits old.list.items c.in-Some.i old.pids_fit) }

pub returns-in-Some-clause-stands : goal.returns-in-Some-clause-stands
returns-in-Some-clause-stands c = λ ps h.
    let i = c.in-Some.i in
    let made = λ (q : Process). q.made in
    let pid = λ (q : Process). q.pid in
    let one = c.remove-process.result in
    let within = subst (λ xs. i < length xs) h.items_are c.in-Some.ensures.within in
    let there = c.in-Some.ensures.found ps h in
    let gone = filter_at made c.args.made ps i (distinct made ps h.rising) within there in
    let is = ap (λ xs. get_or xs i one) (sym h.items_are) ∙ sym c.remove-process.ensures.value in
    let old = c.args.self.now.by_pid in
    rw gone (record {
      items_are = c.remove-process.ensures.items ∙ ap (λ xs. remove xs i) h.items_are;
      rising = all_pairs_remove (λ (a : Process) (b : Process). a.made < b.made) ps i within h.rising;
      apart = all_pairs_remove (λ (a : Process) (b : Process). a.pid ≡ b.pid → ⊥) ps i within h.apart;
      found = λ n.
          c.remove.ensures.gone (pid_key n)
          ∙ ap (λ (k : WordKey). cond (same_word k (pid_key n)) None (look old (pid_key n))) c.pid_key.ensures
          ∙ ap (λ (b : Bool). cond b None (look old (pid_key n))) (same_pid one.pid n)
          ∙ ap (λ (o : Option ℕ). cond (one.pid == n) None o) (h.found n)
          ∙ tags_less pid made ps i one.pid n h.apart within (λ d. ap pid (get_or_default ps i d one within ∙ is));
    })

pub returns-in_default-clause-stands : goal.returns-in_default-clause-stands
returns-in_default-clause-stands c = λ ps h.
    let none = c.in_default.ensures.found ps h in
    subst (ProcessesAre c.args.self.now) (sym (filter_none (λ (q : Process). q.made) c.args.made ps none)) h
