use Rattle.bd_step.proofs.{Words.{List, StandsAt, Work, false, subst, true}, Changing.{with_calls}, Deliveries.{withdrawn}}
use Rattle.bd_step.proofs.tables.Tables.withdraw_notice.Goals as goal

pub returns-then-takes_notice-clause-stands : goal.returns-then-takes_notice-clause-stands
returns-then-takes_notice-clause-stands c = λ n s h.
    subst (λ (todo : List Work). StandsAt n (record c.args.self.now { calls = c.withdraw_notice.new.self }) (record s { todo = todo })) (withdrawn s.objects s.todo c.args.x.now true (c.if-takes_notice.ensures n s h))
    (with_calls n c.args.self.now s c.withdraw_notice.new.self s.threads s.frames _ h (c.withdraw_notice.ensures.stands s h.calls_stand))

pub returns-else-takes_notice-clause-stands : goal.returns-else-takes_notice-clause-stands
returns-else-takes_notice-clause-stands c = λ n s h.
    subst (λ (todo : List Work). StandsAt n c.args.self.now (record s { todo = todo })) (withdrawn s.objects s.todo c.args.x.now false (c.if-takes_notice.ensures n s h)) h
