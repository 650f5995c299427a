use Rattle.std.proofs.Common.{◌<◌, sym, ◌∙◌, arith, length}
use Rattle.std.specs.BinaryHeap.{heap_items}
use Rattle.bd_places.proofs.Frees.{free_within, free_none, live_some, first_in, none_before, empty_heap}
use Rattle.bd_places.proofs.places.Places.least.Goals as goal

pub returns-in-Some-clause-free : goal.returns-in-Some-clause-free
returns-in-Some-clause-free g c =
    let t = c.args.self.now in
    let x = c.in-Some.x.now in
    free_none t.rows.items x.0 (grind (arith, t.frees x.0, first_in x (heap_items t.free), c.in-Some.ensures.lookup, c.in-Some.ensures.variant))

pub returns-in-Some-clause-before : goal.returns-in-Some-clause-before
returns-in-Some-clause-before g c = λ i lt.
    let t = c.args.self.now in
    let x = c.in-Some.x.now in
    let here : x.0 < length t.rows.items = free_within t.rows.items x.0 (grind (arith, t.frees x.0, first_in x (heap_items t.free), c.in-Some.ensures.lookup, c.in-Some.ensures.variant)) in
    live_some t.rows.items i (omega (arith, here)) (sym (t.frees i) ∙ none_before x (heap_items t.free) (c.in-Some.ensures.greatest t.order) i lt)

pub returns-in-None-clause-before : goal.returns-in-None-clause-before
returns-in-None-clause-before g c = λ i lt.
    let t = c.args.self.now in
    live_some t.rows.items i (omega (arith, c.len.ensures)) (sym (t.frees i) ∙ empty_heap i (heap_items t.free) (grind (arith, c.in-None.ensures.item)))
