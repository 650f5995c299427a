use Rattle.std.proofs.Common.{◌∙◌, ◌<◌, Some, is_some, ap, sym, arith, length}
use Rattle.bd_places.proofs.Frees.{free_set, count_set, some_within, some_not_free}
use Rattle.bd_places.proofs.places.Places.turn.Goals as goal

pub invariant_of-self-clause-frees : goal.invariant_of-self-clause-frees
invariant_of-self-clause-frees g c = λ j.
    let t = c.args.self.now in
    let there = ap is_some (sym c.get.ensures ∙ c.in-Some.is) in
    let h : c.args.i < length t.rows.items = some_within t.rows.items c.args.i there in
    grind (arith, t.frees j, free_set t.rows.items c.args.i (Some c.apply.result) j h, some_not_free t.rows.items c.args.i there)

pub invariant_of-self-clause-total : goal.invariant_of-self-clause-total
invariant_of-self-clause-total g c =
    let t = c.args.self.now in
    let there = ap is_some (sym c.get.ensures ∙ c.in-Some.is) in
    let h : c.args.i < length t.rows.items = some_within t.rows.items c.args.i there in
    grind (arith, t.total, count_set t.rows.items c.args.i (Some c.apply.result) h, there)
