use Rattle.std.proofs.Common.{⊎_elim, inl, inr, ap, sym, subst, true, ◌≡◌, ◌∙◌}
use Rattle.std.proofs.lemmas.Bool.{cases_eq}
use Rattle.std.specs.Prelude.{is_some}
use Rattle.bd_bridge.specs.{Suspects.{is_suspect}, Reached.{names}, Waiting.{at}}
use Rattle.bd_bridge.proofs.Forgetting.{goes_on, seen_again}
use Rattle.bd_bridge.proofs.bridge.Bridge.serve.Goals as goal

pub returns-clause-watched : goal.returns-clause-watched
returns-clause-watched g c = λ h follows but.
    let e = g.E.Engine in
    let now = e.has_read h c.args.seat (e.answer c.read-read.result c.read-read.new.kept) in
    let table = c.settle_read.new.self.waiters in
    let old = c.settle_read.new.self.suspects in
    let new = c.mark_resting.new.suspects in
    let was = c.settle_read.ensures.watched h but in
    record {
      placed = λ t w waits. c.read-read.ensures.stays h follows t w.process (was.placed t w waits);
      informed = λ t w waits. ⊎_elim
          (λ same. inr (inl (c.mark_resting.ensures.kept t (c.mark_reached.ensures.kept t (subst (λ k. is_suspect old k ≡ true) (sym same)
          (c.settle_read.ensures.again (ap (λ k. is_some (at table k)) (sym same) ∙ ap is_some waits)))))))
          (λ apart. goes_on (e.Sees now) (e.Sees h) t w
          (c.read-read.ensures.reaches h follows t w.process w.is_rung apart (was.placed t w waits))
          (λ named. inl (c.mark_resting.ensures.kept t (c.mark_reached.ensures.named t w waits (subst (λ r. names r t w.process ≡ true) (sym c.settle_read.ensures.reached) named))))
          (λ is. inl (seen_again old new t (λ s. c.mark_resting.ensures.kept t (c.mark_reached.ensures.kept t s)) (c.mark_resting.ensures.roused t w waits) is))
          (was.informed t w waits))
          (cases_eq t c.args.seat);
    }
