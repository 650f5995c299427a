use Rattle.std.proofs.Common.{rules}
use Rattle.std.proofs.lemmas.List.Sorted.{answers_always}
use Rattle.bd_space.specs.declared.space.Process.{Process}
use Rattle.bd_keys.proofs.Rising.{searched}
use Rattle.bd_processes.proofs.list.index_of.Goals as goal

pub returns-clause-found : goal.returns-clause-found
returns-clause-found c = λ rising.
    let made = λ (q : Process). q.made in
    let found = c.binary_search_by_key.ensures.position made (answers_always _ _ _ (λ f a r g called. search rules)) in
    rw c.ok.ensures.value (searched made c.args.made c.args.processes.now _ rising found)
