-- PlacesAreEarlier: from what holds between two steps (IsTidy), and from where threads and buffers come from.
use Rattle.bd_laws.proofs.words.Logic.{suc, ◌<◌, List, subst, sym, arith}
use Rattle.bd_laws.proofs.words.Types.{Entry, Identity, Reference}
use Rattle.bd_laws.proofs.words.Space.{Space, opening, after, next, space_after, change, counted}
use Rattle.bd_laws.proofs.words.Laws.{In, IsTidy, IsFramed, Framed, Here}
use Rattle.bd_laws.proofs.Machine.EveryStep.{every_list}
use Rattle.bd_laws.proofs.Machine.Steps.{next_steps}
use Rattle.bd_laws.proofs.Always.{step_tidy, opening_tidy}
use Rattle.bd_earlier.specs.Places.{IsOfEarlierSteps, PlacesAreEarlier}
use Rattle.bd_earlier.proofs.Threads.{Seated, next_seated}
use Rattle.bd_earlier.proofs.Buffers.{AllSent, Older, later, next_sent}

-- what holds between two steps, with the places of threads and buffers
record Placed (s : Space) : Type 0 where
  tidy : IsTidy s
  seated : Seated s.steps s.threads
  sent : AllSent s.steps s.buffers

opening_placed : Placed opening
opening_placed = record { tidy = opening_tidy; seated = λ t l. absurd l; sent = λ b l. absurd l }

older : (s : Space) → IsTidy s → Older s
older s h = record { born = h.before.received.born; objects = h.before.objects.kept.below }

next_placed : (s : Space) (e : Entry) → Placed s → Placed (next s e)
unfolding counted
next_placed s e h =
    let steps = next_steps s e in
    let more : s.steps < suc s.steps = omega arith in
    record {
      tidy = step_tidy s e h.tidy;
      seated = subst (λ n. Seated n (change s e.seat e.step).space.threads) (sym steps) (next_seated s h.seated e.seat h.tidy.before.received.born e.step);
      sent = subst (λ n. AllSent n (change s e.seat e.step).space.buffers) (sym steps) (later s.steps (suc s.steps) more _ (next_sent s (older s h.tidy) e.seat e.step h.sent));
    }

always_placed : (es : List Entry) → Placed (after opening es)
always_placed es = every_list Placed next_placed es opening opening_placed

-- ---- the law

here_below : (s : Space) → IsTidy s → (o : Identity) → Here s.objects o → o.place < s.steps
here_below s h o here = subst (λ (i : Identity). i.place < s.steps) here.2 (h.before.objects.kept.below here.0 here.1)

reference_below : (s : Space) → IsTidy s → (r : Reference) → In r s.references → r.object.place < s.steps
reference_below s h r l = here_below s h r.object (h.before.objects.kept.refs r l)

framed : (s : Space) → IsTidy s → Framed s.steps s.frames
unfolding IsFramed
framed s h = h.framed

placed_earlier : (s : Space) → Placed s → IsOfEarlierSteps s
placed_earlier s h =
    let before = h.tidy.before in
    let objects = before.objects in
    record {
      processes = before.received.born;
      threads = λ t l. (h.seated t l).0;
      threads_processes = λ t l. (h.seated t l).1;
      objects = objects.kept.below;
      owners = before.received.owners;
      manager = λ o e. let r = objects.kept.manages o e in subst (λ (i : Identity). i.place < s.steps) r.2 (reference_below s h.tidy r.0 r.1);
      names = λ m l. let r = objects.named m l in subst (λ (i : Identity). i.place < s.steps) r.2 (reference_below s h.tidy r.0 r.1);
      references = reference_below s h.tidy;
      buffers = before.turns.below;
      receivers = λ b l. (h.sent b l).receiver;
      senders = λ b l. (h.sent b l).sender;
      targets = λ b o l e. (h.sent b l).target o e;
      frames = (framed s h.tidy).below;
      handed_over = λ w b l e. before.turns.fresh b (w, l, e);
    }

pub places_earlier : PlacesAreEarlier
unfolding space_after
places_earlier h = placed_earlier (after opening h.entries) (always_placed h.entries)
