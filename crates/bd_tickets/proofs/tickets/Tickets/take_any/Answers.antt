use Rattle.bd_tickets.proofs.Parcels.{found_before}
use Rattle.bd_tickets.proofs.tickets.Tickets.take_any.Goals as goal

pub returns-in-Some-clause-others : goal.returns-in-Some-clause-others
returns-in-Some-clause-others c = λ s found. found_before c.args.self.now.parcels.items c.pop.new.self.items c.pop.result s c.pop.ensures.items found
