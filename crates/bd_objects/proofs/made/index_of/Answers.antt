use Rattle.bd_objects.proofs.Words.{answers_always, rules, searched}
use Rattle.bd_objects.proofs.Later.{ptr_of}
use Rattle.bd_objects.proofs.made.index_of.Goals as goal

pub returns-clause-found : goal.returns-clause-found
returns-clause-found c = λ rising.
    let found = c.binary_search_by_key.ensures.position ptr_of (answers_always _ _ _ (λ f a r g called. search rules)) in
    rw c.ok.ensures.value (searched ptr_of c.args.ptr c.args.objects.now _ rising found)
