use Rattle.std.proofs.Common.{arith}
use Rattle.bd_tickets.proofs.Parcels.{found_more, others_more}
use Rattle.bd_tickets.proofs.tickets.Tickets.put.Goals as goal

pub returns-in-Ok-clause-found : goal.returns-in-Ok-clause-found
returns-in-Ok-clause-found c = found_more c.args.self.now.parcels.items c.push.new.self.items (record { step = c.args.step; descriptors = c.args.descriptors })
    (grind (arith, c.push.ensures.items, c.in-Ok.is))

pub returns-in-Ok-clause-others : goal.returns-in-Ok-clause-others
returns-in-Ok-clause-others c = λ s isnt. others_more c.args.self.now.parcels.items c.push.new.self.items (record { step = c.args.step; descriptors = c.args.descriptors }) s
    (grind (arith, c.push.ensures.items, c.in-Ok.is)) isnt
