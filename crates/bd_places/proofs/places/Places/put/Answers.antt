use Rattle.std.proofs.Common.{ℕ, ◌≡◌, ◌<◌, ◌+◌, Some, is_some, count_by, sym, ◌∙◌, arith, subst, length}
use Rattle.std.specs.BinaryHeap.{heap_items}
use Rattle.bd_places.proofs.Frees.{free_within, free_none, count_set, count_push, live_some, none_before, popped, empty_heap, get_set, frees_taken, frees_behind}
use Rattle.bd_places.specs.Free.{is_place, free_at}
use Rattle.bd_places.proofs.places.Places.put.Goals as goal

pub index_mut-requires : goal.index_mut-requires
index_mut-requires g c =
    let t = c.args.self.now in
    let x = c.in-Some.x in
    let h : x.0 < length t.rows.items = free_within t.rows.items x.0 (grind (arith, t.frees x.0, popped x (heap_items t.free) (heap_items c.pop.new.self) c.in-Some.ensures.permutation x.0)) in
    omega (arith, h)

pub returns-in-Some-clause-free : goal.returns-in-Some-clause-free
returns-in-Some-clause-free g c =
    let t = c.args.self.now in
    let x = c.in-Some.x in
    free_none t.rows.items x.0 (grind (arith, t.frees x.0, popped x (heap_items t.free) (heap_items c.pop.new.self) c.in-Some.ensures.permutation x.0))

pub returns-in-Some-clause-before : goal.returns-in-Some-clause-before
returns-in-Some-clause-before g c = λ i lt.
    let t = c.args.self.now in
    let x = c.in-Some.x in
    let h : x.0 < length t.rows.items = free_within t.rows.items x.0 (grind (arith, t.frees x.0, popped x (heap_items t.free) (heap_items c.pop.new.self) c.in-Some.ensures.permutation x.0)) in
    live_some t.rows.items i (omega (arith, h)) (sym (t.frees i) ∙ none_before x (heap_items t.free) ((c.in-Some.ensures.heap_order t.order).1) i lt)

pub returns-in-None-clause-before : goal.returns-in-None-clause-before
returns-in-None-clause-before g c = λ i lt.
    let t = c.args.self.now in
    live_some t.rows.items i (omega arith) (sym (t.frees i) ∙ empty_heap i (heap_items t.free) (omega (arith, c.in-None.ensures.none)))

pub invariant_of-self-clause-frees : goal.invariant_of-self-clause-frees
invariant_of-self-clause-frees g c =
    let t = c.args.self.now in
    let x = c.in-Some.x in
    let h : x.0 < length t.rows.items = free_within t.rows.items x.0 (grind (arith, t.frees x.0, popped x (heap_items t.free) (heap_items c.pop.new.self) c.in-Some.ensures.permutation x.0)) in
    frees_taken t.rows.items x c.args.value (heap_items t.free) (heap_items c.pop.new.self) h c.in-Some.ensures.permutation t.frees

pub invariant_of-self-clause-total : goal.invariant_of-self-clause-total
invariant_of-self-clause-total g c =
    let t = c.args.self.now in
    let x = c.in-Some.x in
    let h : x.0 < length t.rows.items = free_within t.rows.items x.0 (grind (arith, t.frees x.0, popped x (heap_items t.free) (heap_items c.pop.new.self) c.in-Some.ensures.permutation x.0)) in
    grind (arith, t.total, count_set t.rows.items x.0 (Some c.args.value) h, c.in-Some.ensures.len)

pub invariant_of-self-in-None-clause-frees : goal.invariant_of-self-in-None-clause-frees
invariant_of-self-in-None-clause-frees g c =
    let t = c.args.self.now in
    let none : length (heap_items t.free) ≡ 0 = omega (arith, c.in-None.ensures.none) in
    let none' : length (heap_items c.pop.new.self) ≡ 0 = grind (arith, c.in-None.ensures.unchanged, none) in
    subst (λ l. (i : ℕ) → count_by (is_place i) (heap_items c.pop.new.self) ≡ free_at l i) (sym c.push_reserved.ensures.items)
    (frees_behind t.rows.items c.args.value (heap_items t.free) (heap_items c.pop.new.self) none none' t.frees)

pub invariant_of-self-in-None-clause-total : goal.invariant_of-self-in-None-clause-total
invariant_of-self-in-None-clause-total g c =
    let t = c.args.self.now in
    let more : count_by is_some c.push_reserved.new.self.items ≡ count_by is_some t.rows.items + 1 =
    subst (λ l. count_by is_some l ≡ count_by is_some t.rows.items + 1) (sym c.push_reserved.ensures.items) (count_push t.rows.items c.args.value) in
    omega (arith, more, t.total, c.in-None.ensures.unchanged.1, c.push_reserved.ensures.len)

pub returns-in-Some-clause-put : goal.returns-in-Some-clause-put
returns-in-Some-clause-put g c = λ i.
    let t = c.args.self.now in
    let x = c.in-Some.x in
    let h : x.0 < length t.rows.items = free_within t.rows.items x.0 (grind (arith, t.frees x.0, popped x (heap_items t.free) (heap_items c.pop.new.self) c.in-Some.ensures.permutation x.0)) in
    get_set t.rows.items x.0 (Some c.args.value) i h
