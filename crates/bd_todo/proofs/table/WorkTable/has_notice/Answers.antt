use Rattle.std.proofs.Common.{◌∙◌, ap, nat_lt}
use Rattle.bd_todo.specs.FoundCounts.{found_at}
use Rattle.bd_todo.proofs.WorksStand.{has_notice_is}
use Rattle.bd_todo.proofs.table.WorkTable.has_notice.Goals as goal

pub returns : goal.returns
returns c = λ l h. c.has.ensures ∙ ap (λ k. nat_lt 0 (found_at c.args.self.now.register.spots k)) c.sought_notice.ensures ∙ has_notice_is c.args.self.now c.args.object l h
