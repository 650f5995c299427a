use Rattle.std.proofs.Common.{◌≡◌, ◌⊎◌, true, sym, subst}
use Rattle.bd_space.specs.declared.step.Step.TheVariants.{Read}
use Rattle.bd_space.specs.Histories.{History}
use Rattle.bd_bridge.specs.Reached.{names}
use Rattle.bd_bridge_live.specs.Live.{Sees, answer_of}
use Rattle.bd_bridge_live.proofs.Naming.{of_step, read_is, stays_read}
use Rattle.bd_bridge_live.proofs.live.LiveEngineEngine.read.Goals as goal

pub returns-clause-follows : goal.returns-clause-follows
returns-clause-follows c = λ h k.
    let is = of_step _ _ _ _ _ _ _ c.make.ensures.made in
    rw (read_is h c.args.seat (Read c.args.room) (answer_of c.make.result c.make.new.kept) is) (c.make.ensures.follows h k)

pub returns-clause-reaches : goal.returns-clause-reaches
returns-clause-reaches c = λ h k t p b apart of sees.
    let is = of_step _ _ _ _ _ _ _ c.make.ensures.made in
    subst (λ (n : History). Sees n t b ⊎ (names c.make.new.reached t p ≡ true)) (sym (read_is h c.args.seat (Read c.args.room) (answer_of c.make.result c.make.new.kept) is))
    (c.make.ensures.reaches h k t p b apart of sees)

pub returns-clause-stays : goal.returns-clause-stays
returns-clause-stays c = λ h k t p of.
    stays_read h c.args.seat c.args.room (answer_of c.make.result c.make.new.kept) (of_step _ _ _ _ _ _ _ c.make.ensures.made) t p of
