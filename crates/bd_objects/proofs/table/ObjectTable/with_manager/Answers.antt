use Rattle.bd_objects.proofs.Words.{Identity, Manager, Object, RecordsAre, Reference, [], ap, arith, object_in, reference_of, refl, rooms, subst, sym, true, with_manager, ℕ, ◌++◌, ◌∙◌, ◌∷◌}
use Rattle.bd_objects.proofs.{Homed.{here_last, plain_homed}, Spent.{then_uses}}
use Rattle.bd_objects.proofs.table.ObjectTable.with_manager.Goals as goal

-- the context manager's, of this process
abbrev its : Identity → ℕ → Object
its o p = record { id = o; owner = p; ptr = 0; cookie = 0; told_weak = true; told_strong = true }

abbrev managing : ℕ → Identity → Reference
managing place o = reference_of place 0 o true Manager

abbrev at_place : ℕ → Identity
at_place n = record { place = n; index = 0 }

pub returns-clause-stands : goal.returns-clause-stands
unfolding with_manager
returns-clause-stands c = λ s h m.
    let p = c.args.p in
    let o = c.managed-id.result in
    let u = c.push.new.self in
    let new = ap (object_in s.objects) c.managed-id.ensures ∙ m.id in
    let there = c.add_object-object.ensures.stands s.objects s.references (new, m.ptr) h.records_are in
    let pushed = c.push.ensures.stands (s.objects ++ its o p ∷ []) s.references
    (plain_homed c.add_object-object.new.self (s.objects ++ its o p ∷ []) s.references there (managing c.args.place o) (here_last s.objects (its o p)) (λ q. refl) (λ q. refl)) there in
    record {
      records_are = subst (λ n. RecordsAre u (s.objects ++ its (at_place n) p ∷ []) (s.references ++ managing n (at_place n) ∷ [])) (sym m.at)
          (subst (λ i. RecordsAre u (s.objects ++ its i p ∷ []) (s.references ++ managing c.args.place i ∷ [])) c.managed-id.ensures pushed);
      names_are = c.push.ensures.settled s.names (c.add_object-object.ensures.settled s.names h.names_are);
      deaths_are = h.deaths_are;
    }

pub invariant_of-self : goal.invariant_of-self
invariant_of-self c =
    let old = c.args.self.now in
    let made = c.add_object-object.ensures.uses in
    let held = c.push.ensures.uses in
    record {
      objects_fit = omega (arith, c.saturating_sub-self.ensures, old.objects_fit, made.objects_fit, held.objects_fit);
      references_fit = omega (arith, c.saturating_sub-self.ensures, old.references_fit, made.references_fit, held.references_fit);
      names_fit = omega (arith, old.names_fit, made.names_fit old.named, held.names_fit old.named);
      deaths_fit = omega (arith, c.saturating_sub-self.ensures, old.deaths_fit);
    }

pub returns-clause-uses : goal.returns-clause-uses
unfolding rooms
returns-clause-uses c =
    let used = then_uses _ _ _ 1 0 0 0 1 0 c.add_object-object.ensures.uses c.push.ensures.uses in
    record { objects_fit = used.objects_fit; references_fit = used.references_fit; names_fit = used.names_fit; deaths_fit = omega arith; deaths_count = omega arith }
