use Rattle.std.proofs.Common.{Some, refl, cond, ap, ap₂, sym, ◌∙◌, arith}
use Rattle.std.specs.Option.{option_or}
use Rattle.bd_keys.specs.Keys.{same_word, place_in}
use Rattle.bd_keys.specs.Walk.{keys}
use Rattle.bd_keys.specs.Treed.{tree_look, map_room}
use Rattle.bd_keys.proofs.Looks.{alike_values, inside, look_none, value_push}
use Rattle.bd_keys.proofs.Walks.{keys_length}
use Rattle.bd_keys.proofs.treed.TreeMap.fill.Goals as goal

pub put-requires : goal.put-requires
unfolding map_room
put-requires g c = omega (arith, c.requires)

pub push_reserved-requires : goal.push_reserved-requires
unfolding map_room
push_reserved-requires g c = omega (arith, c.requires)

pub fill_at-requires : goal.fill_at-requires
fill_at-requires g c =
    let m = c.args.self.now in
    inside m.tree.nodes.items m.values.items c.args.k c.in-Some.at m.alike (sym c.put.ensures.found ∙ c.in-Some.is)

pub returns-in-Some-clause-put : goal.returns-in-Some-clause-put
unfolding tree_look
returns-in-Some-clause-put g c = λ l.
    let vs = c.args.self.now.values.items in
    let here = ap (λ ks. place_in ks c.args.k) c.in-Some.ensures.keys ∙ sym c.put.ensures.found ∙ c.in-Some.is in
    c.fill_at.ensures.put c.args.k l here
    ∙ ap₂ (λ x y. cond (same_word c.args.k l) (option_or x (Some c.args.v)) y)
    (alike_values vs vs _ _ c.args.k refl c.in-Some.ensures.keys) (alike_values vs vs _ _ l refl c.in-Some.ensures.keys)

pub returns-in-Some-clause-room : goal.returns-in-Some-clause-room
unfolding map_room
returns-in-Some-clause-room g c = omega (arith, c.in-Some.ensures.uses, c.fill_at.ensures.room)

pub returns-in-None-clause-put : goal.returns-in-None-clause-put
unfolding tree_look
returns-in-None-clause-put g c = λ l.
    let m = c.args.self.now in
    let new = sym c.put.ensures.found ∙ c.in-None.is in
    alike_values c.push_reserved.new.self.items _ _ _ l c.push_reserved.ensures.items c.in-None.ensures.keys
    ∙ value_push (keys m.tree.nodes.items) m.values.items c.args.k l (Some c.args.v) new
    (m.alike ∙ sym (keys_length m.tree.nodes.items))
    ∙ ap (λ o. cond (same_word c.args.k l) (option_or o (Some c.args.v)) (tree_look m l)) (sym (look_none m c.args.k new))

pub returns-in-None-clause-room : goal.returns-in-None-clause-room
unfolding map_room
returns-in-None-clause-room g c = omega (arith, c.in-None.ensures.uses)
