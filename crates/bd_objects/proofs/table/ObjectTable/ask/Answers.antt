use Rattle.bd_objects.proofs.Words.{Asked, IsFull, IsPastLimit, RecordsAre, Settled, [], ap, arith, ask, assign_numbers, is_managers, names_go, reference_of, refl, rooms, subst, sym, with_other_name, ◌++◌, ◌∙◌, ◌∷◌}
use Rattle.bd_objects.proofs.{Giving.{given_other, past_one, same_name}, Homed.{asked_homed, named_row}, Referring.{referred_asked}, Results.{on_err}, Spent.{then_uses}}
use Rattle.bd_objects.proofs.table.ObjectTable.ask.Goals as goal

pub returns-clause-ok : goal.returns-clause-ok
unfolding ask assign_numbers
returns-clause-ok c = λ s h at.
    let p = c.args.p in
    let o = c.args.o in
    let refs = s.references ++ reference_of s.steps 0 o c.args.strong (Asked p) ∷ [] in
    let u = c.give_asked_name.new.records in
    let there = c.give_asked_name.ensures.stands s.objects s.references h.records_are in
    let names = with_other_name c.args.manager s.objects p s.names o in
    let named = c.in_ok-give_asked_name.ensures.names s.objects s.references s.names h.records_are h.names_are in
    let row = named_row u.names names named.stands p o (given_other c.args.manager s.objects p s.names o at.others) in
    record {
      records_are = subst (λ n. RecordsAre c.push.new.self s.objects (s.references ++ reference_of n 0 o c.args.strong (Asked p) ∷ [])) (sym at.at)
          (c.push.ensures.stands s.objects s.references (asked_homed u s.objects s.references there _ at.here p refl at.others row) there);
      names_are = subst (Settled c.push.new.self)
          (ap (λ m. with_other_name m s.objects p s.names o) (sym at.manages)
          ∙ same_name s.manager s.objects p refs s.names o (referred_asked s.steps p o c.args.strong s.references))
          (c.push.ensures.settled names named);
      deaths_are = h.deaths_are;
    }

pub returns-in_err-give_asked_name-clause-full : goal.returns-in_err-give_asked_name-clause-full
unfolding ask assign_numbers names_go
returns-in_err-give_asked_name-clause-full c = on_err c.from_residual.result (λ s h at.
    let p = c.args.p in
    let o = c.args.o in
    let refs = s.references ++ reference_of s.steps 0 o c.args.strong (Asked p) ∷ [] in
    let referred = referred_asked s.steps p o c.args.strong s.references in
    let full = subst (λ m. IsFull (is_managers m o) p s.names o) (sym at.1) (c.in_err-give_asked_name.ensures.full s.names h.names_are.stands) in
    subst (λ ns. IsPastLimit s.objects refs ns) (same_name s.manager s.objects p refs s.names o referred)
    (past_one s.manager s.objects p refs s.names o (c.in_err-give_asked_name.ensures.other s.objects s.references h.records_are) referred full))

pub returns-in_err-give_asked_name-clause-err : goal.returns-in_err-give_asked_name-clause-err
returns-in_err-give_asked_name-clause-err c = on_err c.from_residual.result (λ s h. record {
  records_are = c.give_asked_name.ensures.stands s.objects s.references h.records_are;
  names_are = subst (λ t. Settled t s.names) (sym c.in_err-give_asked_name.ensures.err) h.names_are;
  deaths_are = h.deaths_are;
})

pub invariant_of-self-2 : goal.invariant_of-self-2
invariant_of-self-2 c =
    let old = c.args.self.now in
    let named = c.give_asked_name.ensures.uses in
    let held = c.push.ensures.uses in
    record {
      objects_fit = omega (arith, c.saturating_sub-self.ensures, old.objects_fit, named.objects_fit, held.objects_fit);
      references_fit = omega (arith, c.saturating_sub-self.ensures, old.references_fit, named.references_fit, held.references_fit);
      names_fit = omega (arith, c.saturating_sub-self-2.ensures, old.names_fit, named.names_fit old.named, held.names_fit old.named);
      deaths_fit = omega (arith, c.saturating_sub-self.ensures, old.deaths_fit);
    }

pub returns-clause-uses : goal.returns-clause-uses
unfolding rooms
returns-clause-uses c =
    let used = then_uses _ _ _ 0 0 1 0 1 0 c.give_asked_name.ensures.uses c.push.ensures.uses in
    record { objects_fit = used.objects_fit; references_fit = used.references_fit; names_fit = used.names_fit; deaths_fit = omega arith; deaths_count = omega arith }
