use Rattle.std.proofs.Common.{◌≡◌, ◌<◌, rules, length, get_or, sym, ap, ◌∙◌}
use Rattle.bd_tickets.specs.Held.{descriptors_of}
use Rattle.bd_tickets.proofs.Lists.{own, own_before, others, placed, on_ok, on_err, either}
use Rattle.bd_tickets.proofs.shelves.Shelves.put.Goals as goal

pub returns-in-Some-clause-found : goal.returns-in-Some-clause-found
returns-in-Some-clause-found c =
    let xs = c.args.self.now.lists.items in
    let i = c.list_of.result in
    let t = c.in-Some.tickets.now in
    let lt : i < length xs = search rules in
    let at : get_or xs i t ≡ t = search rules in
    on_ok c.put.result
    (λ found none. own xs c.args.step i t c.put.new.self _ c.list_of.ensures lt (found (sym (own_before xs c.args.step i t c.list_of.ensures lt at) ∙ none)))
    c.put.ensures.found

pub returns-in-Some-clause-others : goal.returns-in-Some-clause-others
returns-in-Some-clause-others c = λ s isnt.
    let xs = c.args.self.now.lists.items in
    let i = c.list_of.result in
    let t = c.in-Some.tickets.now in
    let lt : i < length xs = search rules in
    let at : get_or xs i t ≡ t = search rules in
    others xs c.args.step i s t c.put.new.self c.list_of.ensures lt at
    (either c.put.result (on_ok c.put.result (λ same. same s isnt) c.put.ensures.others)
    (on_err c.put.result (λ same. ap (descriptors_of s) same) c.put.ensures.same))

pub returns-in-Some-clause-same : goal.returns-in-Some-clause-same
returns-in-Some-clause-same c =
    let xs = c.args.self.now.lists.items in
    let i = c.list_of.result in
    let t = c.in-Some.tickets.now in
    let lt : i < length xs = search rules in
    let at : get_or xs i t ≡ t = search rules in
    on_err c.put.result
    (λ same. own xs c.args.step i t c.put.new.self _ c.list_of.ensures lt (ap (descriptors_of c.args.step) same ∙ sym (own_before xs c.args.step i t c.list_of.ensures lt at)))
    c.put.ensures.same

pub invariant_of-self : goal.invariant_of-self
invariant_of-self c =
    let xs = c.args.self.now.lists.items in
    let i = c.list_of.result in
    let t = c.in-Some.tickets.now in
    let lt : i < length xs = search rules in
    let at : get_or xs i t ≡ t = search rules in
    record {
      many = search rules;
      placed = placed xs c.args.step i t c.put.new.self c.args.self.now.placed c.list_of.ensures lt at (λ s isnt.
          either c.put.result (on_ok c.put.result (λ same. same s isnt) c.put.ensures.others) (on_err c.put.result (λ same. ap (descriptors_of s) same) c.put.ensures.same));
    }
