use Rattle.std.proofs.Common.{◌≡◌, ◌<◌, true, None, is_some, arith, get_or, length}
use Rattle.std.specs.BinaryHeap.{heap_items}
use Rattle.bd_places.proofs.Frees.{count_set, some_within, frees_given}
use Rattle.bd_places.proofs.places.Places.remove.Goals as goal

pub invariant_of-self-clause-frees : goal.invariant_of-self-clause-frees
invariant_of-self-clause-frees g c =
    let t = c.args.self.now in
    let here : is_some (get_or t.rows.items c.args.i None) ≡ true = grind (arith, c.get.ensures, c.in_ok-x.is) in
    frees_given t.rows.items c.args.i (heap_items t.free) (heap_items c.push_reserved.new.free) here c.push_reserved.ensures.count t.frees

pub invariant_of-self-clause-total : goal.invariant_of-self-clause-total
invariant_of-self-clause-total g c =
    let t = c.args.self.now in
    let here : is_some (get_or t.rows.items c.args.i None) ≡ true = grind (arith, c.get.ensures, c.in_ok-x.is) in
    let h : c.args.i < length t.rows.items = some_within t.rows.items c.args.i here in
    grind (arith, t.total, count_set t.rows.items c.args.i None h, here, c.push_reserved.ensures.len)
