use Rattle.bd_objects.proofs.Words.{RecordsAre, arith, changed, is_told_by, subst, take_all, told_of}
use Rattle.bd_objects.proofs.Owners.{told_more, told_none}
use Rattle.bd_objects.proofs.reading.tell_owners.Goals as goal

pub loop-w-init : goal.loop-w-init
loop-w-init c = record {
  so_far = λ objects rs h. subst (λ xs. RecordsAre c.args.records.now xs rs) (told_none rs objects) h;
  names = λ names n. n;
  uses = record { objects_fit = omega arith; references_fit = omega arith; names_fit = λ q. omega arith };
}

pub loop-w-preserved : goal.loop-w-preserved
loop-w-preserved c =
    let inv = c.loop-w.invariant in
    let used = c.tell_owner.ensures.uses in
    record {
      so_far = λ objects rs h. subst (λ xs. RecordsAre c.tell_owner.new.records xs rs) (told_more rs objects c.args.taken.now c.loop-w.w-index _ (omega arith))
          (c.tell_owner.ensures.stands _ rs (inv.so_far objects rs h));
      names = λ names n. c.tell_owner.ensures.names names (inv.names names n);
      uses = record {
        objects_fit = omega (arith, inv.uses.objects_fit, used.objects_fit);
        references_fit = omega (arith, inv.uses.references_fit, used.references_fit);
        names_fit = λ q. omega (arith, inv.uses.names_fit q, used.names_fit q);
      };
    }

pub returns-clause-stands : goal.returns-clause-stands
returns-clause-stands c = λ objects l h.
    subst (λ ws. RecordsAre c.loop-w.records (changed (λ x. is_told_by ws x.id) (told_of l) objects) l) (take_all c.loop-w.w-index c.args.taken.now (omega arith)) (c.loop-w.invariant.so_far objects l h)
