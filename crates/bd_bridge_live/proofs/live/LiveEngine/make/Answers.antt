use Rattle.std.proofs.Common.{◌≡◌, ◌∙◌, Bool, true, false, refl, inr}
use Rattle.bd_space.specs.Histories.{space_after}
use Rattle.bd_engine.specs.Reached.{has_work}
use Rattle.bd_bridge_live.proofs.Naming.{sees_on, any_names}
use Rattle.bd_bridge_live.proofs.live.LiveEngine.make.Goals as goal

known : {P : Type 0} (b : Bool) → (b ≡ true → P) → ((b ≡ true → ⊥) → P) → P
known true is not_so = is refl
known false is not_so = not_so (λ e. cc)

pub returns-in-Ok-clause-reaches : goal.returns-in-Ok-clause-reaches
returns-in-Ok-clause-reaches c = λ h k t p b apart of sees.
    let e = c.in-Ok.entry in
    known c.args.self.now.is_told
    (λ is. sees_on h c.args.seat c.args.step e.answer c.tell.new.reached
    (c.tell.ensures.named (has_work (space_after h)) _ is (c.in-Ok.ensures.told _ (k.recalls is)) (c.in-Ok.ensures.follows h k.follows))
    t p b apart of sees)
    (λ not_so. inr (any_names c.tell.new.reached t p (c.tell.ensures.unknown not_so)))

pub returns-in-Ok-clause-made : goal.returns-in-Ok-clause-made
returns-in-Ok-clause-made c = (
  c.in-Ok.entry,
  refl,
  record {
    seat_is = c.in-Ok.ensures.seat;
    step_is = c.in-Ok.ensures.step;
    seats = c.tell.ensures.seats ∙ c.in-Ok.ensures.seats;
    answer = c.in-Ok.ensures.answer;
    follows = λ h f. c.tell.ensures.follows _ (c.in-Ok.ensures.follows h f);
    ended = λ h f. c.tell.ensures.ended ∙ c.in-Ok.ensures.ended h f;
  },
)
