use Rattle.std.proofs.Common.{⊎_elim, inl, inr, ap, sym, subst, true, Some, ◌≡◌, ◌∙◌}
use Rattle.std.proofs.lemmas.Bool.{cases_eq}
use Rattle.std.specs.Prelude.{is_some}
use Rattle.bd_bridge.specs.{Suspects.{is_suspect}, Waiting.{at}}
use Rattle.bd_bridge.proofs.Forgetting.{goes_on, seen_again}
use Rattle.bd_bridge.proofs.bridge.Bridge.step.Goals as goal

pub returns-clause-watched : goal.returns-clause-watched
returns-clause-watched g c = λ h follows was.
    let e = g.E.Engine in
    let seat = c.args.seat in
    let table = c.args.self.now.waiters in
    let old = c.args.self.now.suspects in
    let new = c.mark_resting.new.suspects in
    let now = e.stepped h seat c.args.step (e.answer c.step-outcome.result c.step-outcome.new.kept) in
    record {
      placed = λ t w waits. c.step-outcome.ensures.stays h follows t w.process
          (⊎_elim (λ same. inr (c.requires.acts (ap (λ k. is_some (at table k)) (sym same) ∙ ap is_some waits))) (λ apart. inl apart) (cases_eq t seat))
          (was.placed t w waits);
      informed = λ t w waits. ⊎_elim
          (λ same. inr (inl (c.mark_resting.ensures.kept t (c.mark_reached.ensures.kept t (subst (λ k. is_suspect c.mark_seat.new.suspects k ≡ true) (sym same)
          (c.mark_seat.ensures.named w (subst (λ k. at table k ≡ Some w) same waits)))))))
          (λ apart. goes_on (e.Sees now) (e.Sees h) t w
          (c.step-outcome.ensures.reaches h follows t w.process w.is_rung apart (was.placed t w waits))
          (λ named. inl (c.mark_resting.ensures.kept t (c.mark_reached.ensures.named t w waits named)))
          (λ is. inl (seen_again old new t (λ s. c.mark_resting.ensures.kept t (c.mark_reached.ensures.kept t (c.mark_seat.ensures.kept t s))) (c.mark_resting.ensures.roused t w waits) is))
          (was.informed t w waits))
          (cases_eq t seat);
    }
