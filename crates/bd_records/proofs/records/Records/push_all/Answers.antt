use Rattle.bd_records.proofs.Words.{AreNewIn, IsNewIn, List, Object, RecordsAre, [], ap, append_assoc, arith, drop, drop_more, get_or, length, subst, sym, take, take_all, take_more, ℕ, ◌++◌, ◌+◌, ◌<◌, ◌∙◌, ◌∷◌, ◌≡◌}
use Rattle.bd_records.proofs.records.Records.push_all.Goals as goal

-- the next of objects that are new comes
come_next : (P Q : List Object → Type 0) (made objects : List Object) (i : ℕ) (d : Object) → i < length made
    → P (objects ++ take i made) → AreNewIn (objects ++ take i made) (drop i made)
    → ((os : List Object) → IsNewIn os (get_or made i d) → P os → Q (os ++ get_or made i d ∷ []))
    → Q (objects ++ take (i + 1) made) × AreNewIn (objects ++ take (i + 1) made) (drop (i + 1) made)
come_next P Q made objects i d lt here new step =
    let x = get_or made i d in
    let n : IsNewIn (objects ++ take i made) x × AreNewIn ((objects ++ take i made) ++ x ∷ []) (drop (i + 1) made) =
    subst (AreNewIn (objects ++ take i made)) (drop_more made i d lt) new in
    let grown : (objects ++ take i made) ++ x ∷ [] ≡ objects ++ take (i + 1) made =
    append_assoc objects (take i made) (x ∷ []) ∙ ap (λ (ys : List Object). objects ++ ys) (sym (take_more made i d lt)) in
    (subst Q grown (step (objects ++ take i made) n.0 here), subst (λ (os : List Object). AreNewIn os (drop (i + 1) made)) grown n.1)

pub loop-x-preserved : goal.loop-x-preserved
loop-x-preserved c = record {
  stands = λ objects references new h.
      let k = c.loop-x.invariant.stands objects references new h in
      come_next (λ os. RecordsAre c.loop-x.self os references) (λ os. RecordsAre c.add_object.new.self os references) c.args.made.now objects c.loop-x.x-index _ (omega arith) k.0 k.1
      (λ os fresh r. c.add_object.ensures.stands os references fresh r);
  settled = λ names s. c.add_object.ensures.settled names (c.loop-x.invariant.settled names s);
  uses = record {
    objects_fit = omega (arith, c.loop-x.invariant.uses.objects_fit, c.add_object.ensures.uses.objects_fit);
    references_fit = omega (arith, c.loop-x.invariant.uses.references_fit, c.add_object.ensures.uses.references_fit);
    names_fit = λ p. omega (arith, c.loop-x.invariant.uses.names_fit p, c.add_object.ensures.uses.names_fit p);
  };
}

pub returns-clause-stands : goal.returns-clause-stands
returns-clause-stands c = λ objects l new h.
    let k = c.loop-x.invariant.stands objects l new h in
    subst (λ (ys : List Object). RecordsAre c.loop-x.self (objects ++ ys) l) (take_all c.loop-x.x-index c.args.made.now (omega (arith, c.loop-x-test.false))) k.0
