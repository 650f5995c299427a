use Rattle.std.specs.Prelude.{◌≡◌}
use Rattle.bd_c.specs.declared.status.Status.TheVariants.{NoMemory}
use Rattle.bd_c.specs.Behind.{Of, rings_of}
use Rattle.bd_c.specs.Turns.{AreNobodys}
use Rattle.bd_c.proofs.Making.{made}
use Rattle.bd_c.proofs.ring_calls.hullpippin_rings_new.Goals as goal

pub returns-clause-begins : goal.returns-clause-begins
returns-clause-begins c = λ _.
    made c.open_rings.result (λ b. b.value) c.put_made.result c.put_made.new.handle.held (λ k. Of rings_of k AreNobodys) (λ r. r ≡ NoMemory)
    c.open_rings.ensures.ok c.open_rings.ensures.refused c.put_made.ensures
