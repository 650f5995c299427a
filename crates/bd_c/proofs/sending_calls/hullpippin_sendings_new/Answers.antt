use Rattle.std.specs.Prelude.{◌≡◌}
use Rattle.bd_c.specs.declared.status.Status.TheVariants.{NoMemory}
use Rattle.bd_c.specs.Behind.{Of, sendings_of}
use Rattle.bd_c.specs.Sendings.{KnowsNothing}
use Rattle.bd_c.proofs.Making.{made}
use Rattle.bd_c.proofs.sending_calls.hullpippin_sendings_new.Goals as goal

pub returns-clause-begins : goal.returns-clause-begins
returns-clause-begins c = λ _.
    made c.open_sendings.result (λ b. b.value) c.put_made.result c.put_made.new.handle.held (λ k. Of sendings_of k KnowsNothing) (λ r. r ≡ NoMemory)
    c.open_sendings.ensures.ok c.open_sendings.ensures.refused c.put_made.ensures
