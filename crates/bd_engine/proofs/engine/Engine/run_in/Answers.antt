use Rattle.bd_engine.proofs.{Runs.{one_full, one_some}, Words.{FullOnly, HasRun, History, IfErr, IfOk, IsAtLimit, subst}}
use Rattle.bd_engine.proofs.engine.Engine.run_in.Goals as goal

pub returns-in-Some-clause-ok : goal.returns-in-Some-clause-ok
returns-in-Some-clause-ok c =
    subst (λ (h : History). IfOk c.single.result (λ span. HasRun h c.single.new.self c.args.seat c.args.request.now c.single.new.told span.from span.to)) c.self.view_is
    (c.single.ensures.ok _ (λ s. c.in-Some.ensures.step.runs s c.args.seat))

pub returns-in-Some-clause-full : goal.returns-in-Some-clause-full
returns-in-Some-clause-full c =
    subst (λ (h : History). IfErr c.single.result (λ why. FullOnly why (IsAtLimit h c.args.seat c.args.request.now))) c.self.view_is
    (one_full _ _ _ _ c.in-Some.ensures.step _ c.single.ensures.full)

pub returns-in-Some-clause-some : goal.returns-in-Some-clause-some
returns-in-Some-clause-some c = one_some _ c.args.seat _ _ c.in-Some.ensures.step _
