use Rattle.bd_records.proofs.Words.{None, Object, OwnedAre, Some, ap, filter, id_key, name_at, not, object_in, option_map, row_at, same, subst, sym, ◌∙◌, ◌≡◌}
use Rattle.bd_records.proofs.{Coming.{object_of, went_counts, went_objects, went_owners}, Distinct.{away_none}}
use Rattle.bd_records.proofs.records.Records.remove_object.Goals as goal

pub returns-in-Some-clause-stands : goal.returns-in-Some-clause-stands
returns-in-Some-clause-stands c = λ objects l unheld h.
    let t = c.args.self.now in
    let o = c.args.o in
    let x = c.in-Some.w.object in
    let is : x.id ≡ o = c.in-Some.ensures.id in
    let has : object_in objects o ≡ Some x = h.objects_are o ∙ ap (option_map object_of) (sym c.remove.ensures.gone ∙ c.in-Some.is) in
    record {
      objects_are = went_objects (row_at t.objects) (row_at c.remove.new.self) (name_at t.names) objects l h.counts h.objects_are h.owners o unheld c.remove.ensures.at;
      owners = went_owners (row_at t.objects) (row_at c.remove.new.self) (name_at t.names) objects l h.counts h.objects_are h.owners o unheld c.remove.ensures.at;
      own = subst (λ y. OwnedAre c.remove-in-Some.new.self (filter (λ (z : Object). not (same z.id y)) objects)) is (c.remove-in-Some.ensures.stands objects h.own (subst (λ y. object_in objects y ≡ Some x) (sym is) has));
      counts = went_counts (row_at t.objects) (row_at c.remove.new.self) (name_at t.names) objects l h.counts h.objects_are h.owners o unheld c.remove.ensures.at;
      held = h.held;
      few = h.few;
    }

pub returns-in_default-clause-stands : goal.returns-in_default-clause-stands
returns-in_default-clause-stands c = λ objects l unheld h.
    let t = c.args.self.now in
    let o = c.args.o in
    let none : object_in objects o ≡ None = h.objects_are o ∙ ap (option_map object_of) (sym c.remove.ensures.gone ∙ c.in_default.is) in
    record {
      objects_are = went_objects (row_at t.objects) (row_at c.remove.new.self) (name_at t.names) objects l h.counts h.objects_are h.owners o unheld c.remove.ensures.at;
      owners = went_owners (row_at t.objects) (row_at c.remove.new.self) (name_at t.names) objects l h.counts h.objects_are h.owners o unheld c.remove.ensures.at;
      own = subst (OwnedAre t.owned) (sym (away_none id_key same o objects none)) h.own;
      counts = went_counts (row_at t.objects) (row_at c.remove.new.self) (name_at t.names) objects l h.counts h.objects_are h.owners o unheld c.remove.ensures.at;
      held = h.held;
      few = h.few;
    }
