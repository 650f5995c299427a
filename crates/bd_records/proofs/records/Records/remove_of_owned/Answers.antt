use Rattle.bd_records.proofs.Words.{CountsAre, Identity, List, Object, Reference, ap, arith, filter, is_held, is_of_owner, map, name_at, not, own_among, owned_in, row_at, subst, sym, without_own, ◌&&◌, ◌==◌, ◌∙◌}
use Rattle.bd_records.proofs.{Buffering.{same_buffers}, Disowning.{kept_in_rest, rest_shorter}, Ending.{held_others, own_among_is}, Lists.{filter_alike}}
use Rattle.bd_records.proofs.records.Records.remove_of_owned.Goals as goal

pub returns-clause-stands : goal.returns-clause-stands
returns-clause-stands c = λ objects l h.
    let t = c.args.self.now in
    let p = c.args.p in
    let own = (λ (r : Reference). owned_in objects p r.object && is_of_owner r.holder) in
    let left = filter (λ r. not (own r)) l in
    let os = map (λ (x : Object). x.id) (filter (λ x. x.owner == p) objects) in
    let are = ap (λ (os : List Identity). without_own os l) (c.listed.ensures objects h.own)
    ∙ filter_alike (λ r. not (own_among os r)) (λ r. not (own r)) (λ r. ap (λ b. not (b && is_of_owner r.holder)) (own_among_is p objects r.object)) l in
    record {
      objects_are = λ o. h.objects_are o ∙ sym (c.remove_of_each.ensures.objects o);
      owners = λ q o. h.owners q o ∙ sym (c.remove_of_each.ensures.owners q o);
      own = h.own;
      counts = subst (CountsAre (row_at c.remove_of_each.new.objects) (name_at t.names) objects) are (c.remove_of_each.ensures.counts (name_at t.names) objects l h.counts);
      held = same_buffers t.held l left h.held (kept_in_rest is_held own (held_others objects p) l);
      few = (let n = rest_shorter is_held own l in let a = h.few in omega (arith, n, a));
    }
