use Rattle.bd_objects.proofs.Words.{IsPastLimit, RecordsAre, Settled, ap, arith, assign_numbers, buffer_references, fold, length, make_objects, map, names_go, object_of_item, refer, rooms, subst, sym, with_other_name, ◌++◌, ◌+◌, ◌∙◌}
use Rattle.bd_objects.proofs.{Giving.{given_ready, same_names}, Referring.{referred_carried}, Results.{on_err}, Spent.{then_uses}}
use Rattle.bd_objects.proofs.table.ObjectTable.deliver.Goals as goal

pub returns-clause-ok : goal.returns-clause-ok
unfolding make_objects refer assign_numbers
returns-clause-ok c = λ s h m.
    let q = c.args.receiver in
    let items = c.args.items.now in
    let objects = s.objects ++ c.args.made.now in
    let refs = s.references ++ buffer_references s.steps q 0 items c.args.target in
    let os = map object_of_item items in
    let names = fold (with_other_name c.args.manager objects q) s.names os in
    let named = c.push_all.ensures.settled names (c.in_ok-give_names.ensures.names s.objects s.references s.names h.records_are h.names_are) in
    let there = c.push_all.ensures.stands s.objects s.references m.makes.new (c.give_names.ensures.stands s.objects s.references s.names h.names_are h.records_are) in
    record {
      records_are = subst (λ n. RecordsAre c.add_references.new.records objects (s.references ++ buffer_references n q 0 items c.args.target)) (sym m.makes.at)
          (c.add_references.ensures.stands objects s.references names there named (given_ready c.args.manager objects q items s.names m.carried) m.aimed);
      names_are = subst (Settled c.add_references.new.records)
          (ap (λ k. fold (with_other_name k objects q) s.names os) (sym m.makes.manages)
          ∙ same_names s.manager objects q refs os s.names (referred_carried s.steps q c.args.target s.references items))
          (c.add_references.ensures.names names named);
      deaths_are = h.deaths_are;
    }

pub returns-in_err-give_names-clause-full : goal.returns-in_err-give_names-clause-full
unfolding make_objects refer assign_numbers names_go
returns-in_err-give_names-clause-full c = on_err c.from_residual.result (λ s h at.
    let q = c.args.receiver in
    let items = c.args.items.now in
    let objects = s.objects ++ c.args.made.now in
    let refs = s.references ++ buffer_references s.steps q 0 items c.args.target in
    let os = map object_of_item items in
    let referred = referred_carried s.steps q c.args.target s.references items in
    subst (λ ns. IsPastLimit objects refs ns)
    (ap (λ k. fold (with_other_name k objects q) s.names os) (sym at.1) ∙ same_names s.manager objects q refs os s.names referred)
    (c.in_err-give_names.ensures.full s.objects s.references refs s.names h.records_are referred h.names_are))

pub returns-in_err-give_names-clause-err : goal.returns-in_err-give_names-clause-err
returns-in_err-give_names-clause-err c = on_err c.from_residual.result (λ s h. record {
  records_are = c.give_names.ensures.stands s.objects s.references s.names h.names_are h.records_are;
  names_are = c.in_err-give_names.ensures.err s.objects s.references s.names h.records_are h.names_are;
  deaths_are = h.deaths_are;
})

pub invariant_of-self-2 : goal.invariant_of-self-2
invariant_of-self-2 c =
    let old = c.args.self.now in
    let named = c.give_names.ensures.uses in
    let made = c.push_all.ensures.uses in
    let held = c.add_references.ensures.uses in
    record {
      objects_fit = omega (arith, c.saturating_sub-self.ensures, c.max.ensures, old.objects_fit, named.objects_fit, made.objects_fit, held.objects_fit);
      references_fit = omega (arith, c.saturating_sub-self.ensures, c.max.ensures, old.references_fit, named.references_fit, made.references_fit, held.references_fit);
      names_fit = omega (arith, c.saturating_sub-self-2.ensures, old.names_fit, named.names_fit old.named, made.names_fit old.named, held.names_fit old.named);
      deaths_fit = omega (arith, c.saturating_sub-self.ensures, c.max.ensures, old.deaths_fit);
    }

pub invariant_of-self : goal.invariant_of-self
invariant_of-self c =
    let old = c.args.self.now in
    let named = c.give_names.ensures.uses in
    record {
      objects_fit = omega (arith, c.saturating_sub-self.ensures, old.objects_fit, named.objects_fit);
      references_fit = omega (arith, c.saturating_sub-self.ensures, old.references_fit, named.references_fit);
      names_fit = omega (arith, c.saturating_sub-self-2.ensures, old.names_fit, named.names_fit old.named);
      deaths_fit = omega (arith, c.saturating_sub-self.ensures, old.deaths_fit);
    }

pub returns-clause-uses : goal.returns-clause-uses
unfolding rooms
returns-clause-uses c =
    let many = length c.args.items.now in
    let given = then_uses _ _ _ 0 0 many (length c.args.made.now) 0 0 c.give_names.ensures.uses c.push_all.ensures.uses in
    let used = then_uses _ _ _ (0 + length c.args.made.now) 0 (many + 0) 0 (many + 1) 0 given c.add_references.ensures.uses in
    record {
      objects_fit = omega (arith, used.objects_fit);
      references_fit = omega (arith, used.references_fit);
      names_fit = λ p. omega (arith, used.names_fit p);
      deaths_fit = omega arith;
      deaths_count = omega arith;
    }
