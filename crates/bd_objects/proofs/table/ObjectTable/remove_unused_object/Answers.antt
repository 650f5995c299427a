use Rattle.bd_objects.proofs.Words.{Bool, Identity, List, None, Object, RecordsAre, [], ap, cond, false, filter, not, object_in, objects_go_of, owner_due, refl, same, stays_in, subst, sym, true, ◌∙◌, ◌∷◌, ◌≡◌}
use Rattle.bd_objects.proofs.Apart.{apart_none, apart_some, unheld}
use Rattle.bd_objects.proofs.table.ObjectTable.remove_unused_object.Goals as goal

-- what is left out isn't found
none_left : (o : Identity) (xs : List Object) → object_in (filter (λ x. not (same x.id o)) xs) o ≡ None
none_left o [] = refl
none_left o (x ∷ xs) = at (same x.id o) refl (none_left o xs)
  where
    at : (b : Bool) → same x.id o ≡ b → object_in (filter (λ x. not (same x.id o)) xs) o ≡ None
        → object_in (cond (not b) (x ∷ filter (λ x. not (same x.id o)) xs) (filter (λ x. not (same x.id o)) xs)) o ≡ None
    at true e none = none
    at false e none = rw e none

pub returns-in_err-kept-clause-stands : goal.returns-in_err-kept-clause-stands
unfolding objects_go_of
returns-in_err-kept-clause-stands c = λ s h p. record {
  records_are = subst (λ xs. RecordsAre c.args.self.now.records xs s.references)
      (sym (apart_none s.objects c.args.o (stays_in s.processes s.references) (sym (c.in_err-kept.ensures.object s.objects s.references h.records_are)))) h.records_are;
  names_are = h.names_are;
  deaths_are = h.deaths_are;
}

pub returns-in_err-kept-clause-owner : goal.returns-in_err-kept-clause-owner
unfolding objects_go_of
returns-in_err-kept-clause-owner c = λ s h p.
    let none = sym (c.in_err-kept.ensures.object s.objects s.references h.records_are) in
    let same_objects = apart_none s.objects c.args.o (stays_in s.processes s.references) none in
    c.from_residual.ensures ∙ sym (ap (λ (xs : List Object). owner_due s (object_in xs c.args.o)) same_objects ∙ ap (owner_due s) none)

pub returns-then-not-stays-clause-stands : goal.returns-then-not-stays-clause-stands
unfolding objects_go_of
returns-then-not-stays-clause-stands c = λ s h p.
    let goes : stays_in s.processes s.references c.in_ok-kept.kept.object ≡ false =
    rw (sym (c.in_ok-kept.ensures.held s.objects s.references h.records_are)) (rw (sym (c.lives-lives.ensures s.processes p)) (sym c.stays.ensures ∙ c.if-not-stays.true)) in
    record {
      records_are = subst (λ xs. RecordsAre c.remove_object.new.self xs s.references)
          (sym (apart_some c.args.self.now.records s.objects s.references c.args.o c.in_ok-kept.kept.object (stays_in s.processes s.references) h.records_are (sym (c.in_ok-kept.ensures.object s.objects s.references h.records_are)) ∙ rw goes refl))
          (c.remove_object.ensures.stands s.objects s.references (unheld s.objects s.references c.args.o c.in_ok-kept.kept.object _ _ _ (sym (c.in_ok-kept.ensures.object s.objects s.references h.records_are)) (c.in_ok-kept.ensures.held s.objects s.references h.records_are) c.stays.ensures c.if-not-stays.true) h.records_are);
      names_are = c.remove_object.ensures.settled s.names h.names_are;
      deaths_are = h.deaths_are;
    }

pub returns-then-not-stays-clause-owner : goal.returns-then-not-stays-clause-owner
unfolding objects_go_of
returns-then-not-stays-clause-owner c = λ s h p.
    let goes : stays_in s.processes s.references c.in_ok-kept.kept.object ≡ false =
    rw (sym (c.in_ok-kept.ensures.held s.objects s.references h.records_are)) (rw (sym (c.lives-lives.ensures s.processes p)) (sym c.stays.ensures ∙ c.if-not-stays.true)) in
    let left = apart_some c.args.self.now.records s.objects s.references c.args.o c.in_ok-kept.kept.object (stays_in s.processes s.references) h.records_are (sym (c.in_ok-kept.ensures.object s.objects s.references h.records_are)) ∙ rw goes refl in
    sym (ap (λ (xs : List Object). owner_due s (object_in xs c.args.o)) left ∙ ap (owner_due s) (none_left c.args.o s.objects))

pub returns-clause-stands : goal.returns-clause-stands
unfolding objects_go_of
returns-clause-stands c = λ s h p.
    let stays : stays_in s.processes s.references c.in_ok-kept.kept.object ≡ true =
    rw (sym (c.in_ok-kept.ensures.held s.objects s.references h.records_are)) (rw (sym (c.lives-lives.ensures s.processes p)) (sym c.stays.ensures ∙ c.if-not-stays.false)) in
    record {
      records_are = subst (λ xs. RecordsAre c.args.self.now.records xs s.references)
          (sym (apart_some c.args.self.now.records s.objects s.references c.args.o c.in_ok-kept.kept.object (stays_in s.processes s.references) h.records_are (sym (c.in_ok-kept.ensures.object s.objects s.references h.records_are)) ∙ rw stays refl))
          h.records_are;
      names_are = h.names_are;
      deaths_are = h.deaths_are;
    }

pub returns-clause-owner : goal.returns-clause-owner
unfolding objects_go_of
returns-clause-owner c = λ s h p.
    let held = c.in_ok-kept.ensures.held s.objects s.references h.records_are in
    let strong = c.in_ok-kept.ensures.strong s.objects s.references h.records_are in
    let lives = c.lives-lives.ensures s.processes p in
    let found = sym (c.in_ok-kept.ensures.object s.objects s.references h.records_are) in
    let stays : stays_in s.processes s.references c.in_ok-kept.kept.object ≡ true = rw (sym held) (rw (sym lives) (sym c.stays.ensures ∙ c.if-not-stays.false)) in
    let left = apart_some c.args.self.now.records s.objects s.references c.args.o c.in_ok-kept.kept.object (stays_in s.processes s.references) h.records_are found ∙ rw stays refl in
    let due : owner_due s (object_in s.objects c.args.o) ≡ c.owner_to_tell.result = ap (owner_due s) found ∙ rw (sym held) (rw (sym strong) (rw (sym lives) (sym c.owner_to_tell.ensures))) in
    sym (ap (λ (xs : List Object). owner_due s (object_in xs c.args.o)) left ∙ due)
