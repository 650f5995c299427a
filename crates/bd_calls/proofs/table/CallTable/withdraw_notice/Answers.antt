use Rattle.std.proofs.Common.{sym, subst, ◌∙◌}
use Rattle.bd_ways.proofs.Ranges.{filter_none}
use Rattle.bd_space.specs.Todo.{has_work_in, is_notice}
use Rattle.bd_calls.specs.{Marks.{RecallsIn}, Ready.{AreSeen}, Told.{Recalls}}
use Rattle.bd_calls.proofs.table.CallTable.withdraw_notice.Goals as goal

pub returns-else-withdraw_notice-clause-stands : goal.returns-else-withdraw_notice-clause-stands
returns-else-withdraw_notice-clause-stands c = λ s stands.
    let none = sym (c.withdraw_notice.ensures.had s.todo stands.todo_are) ∙ c.if-withdraw_notice.false in
    record {
      threads_are = stands.threads_are;
      frames_are = stands.frames_are;
      todo_are = c.withdraw_notice.ensures.stands s.todo stands.todo_are;
      turns_are = stands.turns_are;
      ready_are = subst (λ ws. AreSeen c.args.self.now.ready s.threads (has_work_in ws)) (sym (filter_none (λ w. is_notice c.args.object w.kind) s.todo none)) stands.ready_are;
    }

pub returns-else-withdraw_notice-clause-told : goal.returns-else-withdraw_notice-clause-told
unfolding Recalls
returns-else-withdraw_notice-clause-told c = λ told h. subst (λ t. RecallsIn c.args.self.now.marks t told) (sym (c.withdraw_notice.ensures.same c.if-withdraw_notice.false)) h
