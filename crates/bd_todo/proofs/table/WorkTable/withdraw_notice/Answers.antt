use Rattle.std.proofs.Common.{ap, subst, not, filter, nat_lt, ◌∙◌}
use Rattle.bd_space.specs.declared.space.Work.{Work}
use Rattle.bd_todo.specs.{FoundCounts.{found_at}, Spots.{is_sought}, Stands.{WorksAre}}
use Rattle.bd_todo.proofs.WorksStand.{has_notice_is, notice_goes}
use Rattle.bd_todo.proofs.table.WorkTable.withdraw_notice.Goals as goal

pub returns-clause-had : goal.returns-clause-had
returns-clause-had c = λ l h.
    c.withdraw.ensures.had ∙ ap (λ k. nat_lt 0 (found_at c.args.self.now.register.spots k)) c.sought_notice.ensures ∙ has_notice_is c.args.self.now c.args.object l h

pub returns-clause-stands : goal.returns-clause-stands
returns-clause-stands c = λ l h.
    subst (WorksAre c.withdraw.new.self) (ap (λ k. filter (λ (w : Work). not (is_sought k w.kind)) l) c.sought_notice.ensures ∙ notice_goes c.args.object l) (c.withdraw.ensures.stands l h)
