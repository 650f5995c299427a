use Rattle.std.proofs.Common.{◌≡◌, ℕ, Option, length, refl, ap, subst, ◌∙◌}
use Rattle.std.specs.Prelude.{Some, Ok, IfSome}
use Rattle.bd_space.specs.Histories.{History, extended}
use Rattle.bd_space.specs.declared.step.Entry.{Entry}
use Rattle.bd_engine.specs.Follows.{Follows}
use Rattle.bd_bridge.specs.Forgotten.{NobodyIsForgotten}
use Rattle.bd_bridge_live.specs.Live.{FollowsTold, Sees, IsOf, CanRest, after_step, answer_of}
use Rattle.bd_c.specs.Told.{told_of_step}
use Rattle.bd_c.proofs.live.OwnedLive.make_bridged.Goals as goal

pub returns-in-Ok : goal.returns-in-Ok
returns-in-Ok c =
    let all = c.in-Ok.ensures.made in
    let kept = all.1 in
    let made = all.2 in
    let entry = all.0 in
    let answer = entry.answer in
    let live = c.step.new.self.engine.live in
    let told = subst (λ (o : Option Entry). IfSome o (λ e. (h : History) → Follows live h → c.tell_latest.result ≡ told_of_step e.answer c.len-from.result (length h.entries))) kept c.tell_latest.ensures in
    record {
      answer = answer;
      kept = kept ∙ (λ i. Some (record { seat = made.seat_is i; step = made.step_is i; answer = answer }));
      seats = made.seats;
      answered = λ h f. record {
        said = made.answer h f;
        shown = told (extended h c.args.seat c.args.step answer) (made.follows h f) ∙ ap (λ (n : ℕ). told_of_step answer n (length (extended h c.args.seat c.args.step answer).entries)) (c.len-from.ensures h f);
        ended = ap (λ v. v.items) c.swap.ensures.x_after ∙ made.ended h f;
        follows = made.follows h f;
      };
      notes = record { noted = refl; changed = refl };
      lists = record { reached = refl; whole = refl };
      recalls = λ alone. absurd (alone c.requires.bridged);
      waits = c.in-Ok.ensures.waiters;
      watches = λ bridged h w.
          let z = c.step.new.self in
          let now = subst (λ (o : Option Entry). FollowsTold z.engine (after_step h c.args.seat c.args.step (answer_of (Ok c.in-Ok.field-0) o))) kept (c.in-Ok.ensures.follows h w.follows) in
          let is = subst (λ (o : Option Entry). let h' = after_step h c.args.seat c.args.step (answer_of (Ok c.in-Ok.field-0) o) in NobodyIsForgotten (Sees h') (IsOf h') (CanRest h') z.waiters z.suspects z.resting)
          kept (c.in-Ok.ensures.watched h w.follows w.watched) in
          record {
            follows = record { follows = now.follows; recalls = now.recalls };
            watched = is;
          };
    }
