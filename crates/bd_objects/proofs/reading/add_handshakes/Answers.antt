use Rattle.bd_objects.proofs.Words.{RecordsAre, append-nil, arith, refl, subst, sym, take}
use Rattle.bd_objects.proofs.{Handshakes.{handshakes_next}, Holding.{holds_alike}}
use Rattle.bd_objects.proofs.reading.add_handshakes.Goals as goal

pub loop-w-init : goal.loop-w-init
loop-w-init c = record {
  so_far = λ s at h. (subst (RecordsAre c.args.records.now s.objects) (sym (append-nil s.references)) h, refl);
  names = λ names n. n;
  bound = omega arith;
  room = record { objects_fit = omega arith; references_fit = omega arith; names_fit = λ q. omega arith };
}

pub loop-w-preserved : goal.loop-w-preserved
loop-w-preserved c =
    let inv = c.loop-w.invariant in
    let ws = c.args.taken.now in
    let i = c.loop-w.w-index in
    let step = c.add_handshakes_of-index.ensures in
    record {
      so_far = λ s at h.
          let so = inv.so_far s at h in
          handshakes_next s ws i _ _ _ _ (omega arith) so.1 (step.stands s _ at (holds_alike s (take i ws)) so.0);
      names = λ names n. step.names names (inv.names names n);
      bound = omega (arith, inv.bound, step.index);
      room = record {
        objects_fit = omega (arith, inv.room.objects_fit, step.uses.objects_fit);
        references_fit = omega (arith, inv.room.references_fit, step.uses.references_fit);
        names_fit = λ q. omega (arith, inv.room.names_fit q, step.uses.names_fit q);
      };
    }
