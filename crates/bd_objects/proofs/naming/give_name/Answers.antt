use Rattle.bd_objects.proofs.Words.{IsFull, Since, subst, sym, with_name_unless, with_number}
use Rattle.bd_objects.proofs.Results.{then_err, then_ok}
use Rattle.bd_objects.proofs.naming.give_name.Goals as goal

pub returns-clause-stands : goal.returns-clause-stands
returns-clause-stands c = then_ok c.give_name.result (λ f objects l other h. f objects l (other c.if-own.false) h) c.give_name.ensures.stands

pub returns-clause-names : goal.returns-clause-names
returns-clause-names c = then_ok c.give_name.result
    (λ f base l h. subst (λ own. Since c.give_name.new.self base (with_name_unless own c.args.manager c.args.p l c.args.o)) (sym c.if-own.false)
    (subst (λ b. Since c.give_name.new.self base (with_number b c.args.p l c.args.o)) c.is_managers.ensures (f base l h)))
    c.give_name.ensures.names

pub returns-clause-full : goal.returns-clause-full
returns-clause-full c = then_err c.give_name.result (λ f l h. subst (λ b. IsFull b c.args.p l c.args.o) c.is_managers.ensures (f l h)) c.give_name.ensures.full
