use Rattle.bd_objects.proofs.Words.{Settled, owned_in, subst, sym, with_name_unless, ◌∙◌}
use Rattle.bd_objects.proofs.{Giving.{is_named, known_stays}, Results.{on_err}}
use Rattle.bd_objects.proofs.naming.give_asked_name.Goals as goal

pub returns-then-eq-clause-names : goal.returns-then-eq-clause-names
returns-then-eq-clause-names c = λ objects references l h n.
    let named = sym (c.named_object.ensures l n.stands) ∙ is_named c.named_object.result c.args.o (sym c.eq.ensures ∙ c.if-eq.true) in
    subst (Settled c.args.records.now) (sym (known_stays (owned_in objects c.args.p c.args.o) c.args.manager c.args.p c.args.n l c.args.o named)) n

pub returns-clause-names : goal.returns-clause-names
returns-clause-names c = λ objects references l h n.
    subst (λ own. Settled c.settle_names.new.self (with_name_unless own c.args.manager c.args.p l c.args.o)) (c.owns-own.ensures objects references h)
    (c.settle_names.ensures.names l _ (c.in_ok-give_name.ensures.names l l n))

pub returns-in_err-give_name-clause-full : goal.returns-in_err-give_name-clause-full
returns-in_err-give_name-clause-full c = on_err c.from_residual.result c.in_err-give_name.ensures.full

pub returns-clause-stands : goal.returns-clause-stands
returns-clause-stands c = λ objects l h.
    c.settle_names.ensures.stands objects l (c.in_ok-give_name.ensures.stands objects l (λ e. sym (c.owns-own.ensures objects l h) ∙ e) h)
