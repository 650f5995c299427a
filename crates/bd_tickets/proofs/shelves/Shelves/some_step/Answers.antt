use Rattle.std.proofs.Common.{◌≡◌, ◌∙◌, ◌<◌, rules, length, get_or, ap, arith}
use Rattle.bd_tickets.specs.declared.tickets.Tickets.{Tickets}
use Rattle.bd_tickets.proofs.Lists.{stands, is_found, all_empty, up_to}
use Rattle.bd_tickets.proofs.shelves.Shelves.some_step.Goals as goal

pub returns-in-Some-clause-some : goal.returns-in-Some-clause-some
returns-in-Some-clause-some c =
    let xs = c.args.self.now.lists.items in
    let i = c.loop-index.index in
    let t = c.index.result.now in
    let lt : i < length xs = omega (arith) in
    let at : get_or xs i t ≡ t = search rules in
    is_found xs i c.in-Some.step t c.args.self.now.placed lt at c.in-Some.ensures.some

pub loop-index-preserved : goal.loop-index-preserved
loop-index-preserved c =
    let xs = c.args.self.now.lists.items in
    let i = c.loop-index.index in
    let t = c.index.result.now in
    let lt : i < length xs = omega (arith) in
    let at : get_or xs i t ≡ t = search rules in
    up_to xs i c.loop-index.invariant (stands xs i t lt ∙ ap (λ (v : Tickets). v.parcels.items) at ∙ c.in_default.ensures.none)

pub returns-clause-none : goal.returns-clause-none
returns-clause-none c = λ d. all_empty c.args.self.now.lists.items d (λ i lt. c.loop-index.invariant i (omega (arith, lt)))
