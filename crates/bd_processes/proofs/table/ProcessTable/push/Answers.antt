use Rattle.std.proofs.Common.{◌<◌, ◌==◌, ℕ, ◌≡◌, ◌++◌, ◌∷◌, [], Some, Option, cond, Bool, ap, ◌∙◌}
use Rattle.std.proofs.lemmas.List.Quantifiers.{all_pairs_push}
use Rattle.bd_space.specs.declared.space.Process.{Process}
use Rattle.bd_keys.specs.declared.key.WordKey.{WordKey}
use Rattle.bd_keys.specs.Keys.{same_word}
use Rattle.bd_keys.specs.Look.{look}
use Rattle.bd_processes.specs.Keys.{pid_key}
use Rattle.bd_processes.proofs.Keys.{same_pid}
use Rattle.bd_keys.proofs.Found.{tags_more, apart_from}
use Rattle.bd_processes.proofs.table.ProcessTable.push.Goals as goal

pub returns-clause-stands : goal.returns-clause-stands
returns-clause-stands c = λ ps h new.
    let q = c.args.process in
    let old = c.args.self.now.by_pid in
    let made = λ (x : Process). x.made in
    let tag = λ (x : Process). x.pid in
    record {
      items_are = c.push_reserved.ensures.items ∙ ap (λ xs. xs ++ q ∷ []) h.items_are;
      rising = all_pairs_push (λ (a : Process) (b : Process). a.made < b.made) ps q h.rising new.newest;
      apart = all_pairs_push (λ (a : Process) (b : Process). a.pid ≡ b.pid → ⊥) ps q h.apart
          (apart_from tag ps q new.free);
      found = λ pid.
          c.insert.ensures.put (pid_key pid)
          ∙ ap (λ (k : WordKey). cond (same_word k (pid_key pid)) (Some q.made) (look old (pid_key pid)))
          c.pid_key.ensures
          ∙ ap (λ (b : Bool). cond b (Some q.made) (look old (pid_key pid))) (same_pid q.pid pid)
          ∙ ap (λ (o : Option ℕ). cond (q.pid == pid) (Some q.made) o) (h.found pid)
          ∙ tags_more tag made ps q pid new.free;
    }
