use Rattle.bd_records.proofs.Words.{[], arith, buffer_room, length, name_room, object_room, own_room, refl, true, vec_capacity, vec_len, ◌++◌, ◌-◌, ◌<◌, ◌∷◌}
use Rattle.bd_records.proofs.{Given.{less_stays, one_fewer, settled_kept}, Lists.{length_more}, Tallies.{count_push, on, turned_stands}}
use Rattle.bd_records.proofs.records.Records.push.Goals as goal

pub returns-clause-stands : goal.returns-clause-stands
returns-clause-stands c = λ objects l homed h.
    let r = c.args.r in
    let few : length l < 18446744073709551615 = (let room = c.requires in omega (arith, h.few, room)) in
    turned_stands true c.args.self.now _ objects l (l ++ r ∷ []) r h (λ e. (few, homed)) (λ g. count_push (on g) l r) c.turn.ensures.objects c.turn.ensures.names refl
    (c.push.ensures.stands l h.held) (let n = length_more (λ x. true) l r in let a = h.few in let s = c.saturating_add-self.ensures in grind (arith, n, a, s, few))

pub returns-clause-settled : goal.returns-clause-settled
returns-clause-settled c = settled_kept c.args.self.now _ c.turn.ensures.kept refl

pub returns-clause-uses : goal.returns-clause-uses
returns-clause-uses c =
    let t = c.args.self.now in
    record {
      objects_fit = less_stays (object_room t.objects) (object_room c.turn.new.objects) (own_room t.owned) c.turn.ensures.objects_room;
      references_fit = one_fewer 18446744073709551615 (buffer_room t.held) (buffer_room c.push.new.self) t.made c.saturating_add-self.result c.push.ensures.uses (let s = c.saturating_add-self.ensures in omega (arith, s));
      names_fit = λ q. less_stays (name_room t.names q) (name_room c.turn.new.names q) (vec_capacity t.given - vec_len t.given) (c.turn.ensures.names_room q);
    }
