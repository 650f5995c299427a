use Rattle.bd_objects.proofs.Words.{IsHomed, None, RecordsAre, ap, append-nil, arith, buffer_references, subst, sym, take, take_all, ◌++◌, ◌∙◌}
use Rattle.bd_objects.proofs.{BufferReferences.{carried_more}, Homed.{only_one, ready_homed}}
use Rattle.bd_objects.proofs.delivery.add_carried.Goals as goal

pub loop-i-init : goal.loop-i-init
loop-i-init c = record {
  so_far = λ objects rs names h n ready. subst (RecordsAre c.args.records.now objects) (sym (append-nil rs)) h;
  names = λ names n. n;
  room = record { objects_fit = omega arith; references_fit = omega arith; names_fit = λ q. omega arith };
}

pub loop-i-preserved : goal.loop-i-preserved
loop-i-preserved c =
    let inv = c.loop-i.invariant in
    let used = c.push.ensures.uses in
    record {
      so_far = λ objects rs names h n ready.
          let now = inv.so_far objects rs names h n ready in
          let r = only_one c.carried_reference.ensures in
          subst (RecordsAre c.push.new.self objects)
          (ap (λ one. (rs ++ buffer_references c.args.place c.args.q 0 (take c.loop-i.i c.args.items.now) None) ++ one) c.carried_reference.ensures
          ∙ carried_more c.args.place c.args.q rs c.args.items.now c.loop-i.i _ (omega arith))
          (c.push.ensures.stands objects _
          (subst (IsHomed c.loop-i.records objects) (sym r)
          (ready_homed c.loop-i.records objects _ names now (inv.names names n).stands c.args.q c.args.items.now c.loop-i.i _ (omega arith) ready c.args.place c.loop-i.i c.args.place _))
          now);
      names = λ names n. c.push.ensures.settled names (inv.names names n);
      room = record {
        objects_fit = omega (arith, inv.room.objects_fit, used.objects_fit);
        references_fit = omega (arith, inv.room.references_fit, used.references_fit);
        names_fit = λ q. omega (arith, inv.room.names_fit q, used.names_fit q);
      };
    }

pub returns-clause-stands : goal.returns-clause-stands
returns-clause-stands c = λ objects rs names h n ready.
    subst (λ xs. RecordsAre c.loop-i.records objects (rs ++ buffer_references c.args.place c.args.q 0 xs None)) (take_all c.loop-i.i c.args.items.now (omega arith))
    (c.loop-i.invariant.so_far objects rs names h n ready)
