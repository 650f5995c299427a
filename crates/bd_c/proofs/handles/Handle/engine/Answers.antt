use Rattle.std.proofs.Common.{◌∙◌, ap, inr, rules, sym}
use Rattle.std.specs.Prelude.{⊤, Some}
use Rattle.bd_c.specs.Behind.{live_of}
use Rattle.bd_c.specs.declared.held.Held.TheVariants.{Live}
use Rattle.bd_c.specs.declared.live.OwnedLive.{OwnedLive}
use Rattle.bd_c.proofs.Behind.{not_of, lent_back}
use Rattle.bd_c.proofs.handles.Handle.engine.Goals as goal

pub returns-in_default : goal.returns-in_default
returns-in_default c =
    let x = c.in_ok-live.field-0.now in let is = c.in_ok-live.ensures.held in
    (λ i. inr (lent_back c.args.self.now x is i), record { lends = tt; engine = not_of live_of c.args.self.now.held x (λ _. ⊤) is (search rules) })

pub returns-in-Live : goal.returns-in-Live
returns-in-Live c = (
  rw c.in-Live.is,
  record { lends = tt; engine = c.in_ok-live.ensures.held ∙ ap Some c.in-Live.is ∙ ap (λ (x : OwnedLive). Some (Live x)) (sym c.in-Live.live-is) },
)
