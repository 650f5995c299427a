use Rattle.std.proofs.Common.{◌∙◌, sym, arith}
use Rattle.bd_space.specs.declared.space.Work.{Work}
use Rattle.bd_todo.specs.{Registered.{Registered}, Spots.{is_sought}}
use Rattle.bd_todo.proofs.WorksStand.{only_goes}
use Rattle.bd_todo.proofs.table.WorkTable.withdraw_from.Goals as goal

pub returns-then-is_sought_at-clause-stands : goal.returns-then-is_sought_at-clause-stands
unfolding Registered
returns-then-is_sought_at-clause-stands c = λ l h.
    only_goes c.args.self.now c.remove_at.new.self (λ (w : Work). is_sought c.args.key w.kind) l c.args.spot.slot h (sym c.is_sought_at.ensures ∙ c.if-is_sought_at.true)
    (let one = sym (h.registered.counted c.args.key) ∙ sym c.requires in let is = c.if-spot-eq1.true in omega (arith, one, is)) c.remove_at.ensures.rows
