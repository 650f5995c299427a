use Rattle.std.proofs.Common.{rules, inr}
use Rattle.std.specs.Prelude.{⊤}
use Rattle.bd_c.specs.Behind.{sendings_of}
use Rattle.bd_c.proofs.Behind.{not_of, lent_back}
use Rattle.bd_c.proofs.handles.Handle.sendings.Goals as goal

pub returns-in_default : goal.returns-in_default
returns-in_default c =
    let x = c.in_ok-sendings.field-0.now in let is = c.in_ok-sendings.ensures.held in
    (λ i. inr (lent_back c.args.self.now x is i), record { lends = tt; sendings = not_of sendings_of c.args.self.now.held x (λ _. ⊤) is (search rules) })
