use Rattle.std.proofs.Common.{◌≡◌, ◌<◌, rules, length, get_or}
use Rattle.bd_tickets.proofs.Lists.{others, placed}
use Rattle.bd_tickets.proofs.shelves.Shelves.take.Goals as goal

pub returns-in-Some-clause-others : goal.returns-in-Some-clause-others
returns-in-Some-clause-others c = λ s isnt.
    let xs = c.args.self.now.lists.items in
    let i = c.list_of.result in
    let t = c.in-Some.tickets.now in
    let lt : i < length xs = search rules in
    let at : get_or xs i t ≡ t = search rules in
    others xs c.args.step i s t c.take.new.self c.list_of.ensures lt at (c.take.ensures.others s isnt)

pub invariant_of-self : goal.invariant_of-self
invariant_of-self c =
    let xs = c.args.self.now.lists.items in
    let i = c.list_of.result in
    let t = c.in-Some.tickets.now in
    let lt : i < length xs = search rules in
    let at : get_or xs i t ≡ t = search rules in
    record {
      many = search rules;
      placed = placed xs c.args.step i t c.take.new.self c.args.self.now.placed c.list_of.ensures lt at c.take.ensures.others;
    }
