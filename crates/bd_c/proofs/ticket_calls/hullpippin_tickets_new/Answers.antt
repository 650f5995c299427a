use Rattle.std.specs.Prelude.{◌≡◌}
use Rattle.bd_c.specs.declared.status.Status.TheVariants.{NoMemory}
use Rattle.bd_c.specs.Behind.{Of, tickets_of}
use Rattle.bd_c.specs.Tickets.{AreNone}
use Rattle.bd_c.proofs.Making.{made}
use Rattle.bd_c.proofs.ticket_calls.hullpippin_tickets_new.Goals as goal

pub returns-clause-begins : goal.returns-clause-begins
returns-clause-begins c = λ _.
    made c.open_tickets.result (λ b. b.value) c.put_made.result c.put_made.new.handle.held (λ k. Of tickets_of k AreNone) (λ r. r ≡ NoMemory)
    c.open_tickets.ensures.ok c.open_tickets.ensures.refused c.put_made.ensures
