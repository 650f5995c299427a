use Rattle.bd_records.proofs.Words.{None, RecordsAre, Reference, Some, ap, filter, is_asked_by, is_named_at, named_by, not, subst, sym, ◌&&◌, ◌∙◌, ◌≡◌}
use Rattle.bd_records.proofs.AskedFor.{kept_unnamed}
use Rattle.bd_records.proofs.records.Records.drop_asked_at.Goals as goal

pub returns-in_default-clause-stands : goal.returns-in_default-clause-stands
returns-in_default-clause-stands c = λ objects l h.
    let none : named_by c.args.self.now.names c.args.p c.args.n ≡ None = sym c.named.ensures ∙ c.in_default.is in
    subst (RecordsAre c.args.self.now objects) (sym (ap (λ w. filter (λ (r : Reference). not (is_named_at w r.object && is_asked_by c.args.p r.holder)) l) none ∙ kept_unnamed c.args.p l)) h

pub returns-in-Some-clause-stands : goal.returns-in-Some-clause-stands
returns-in-Some-clause-stands c = λ objects l h.
    let some : named_by c.args.self.now.names c.args.p c.args.n ≡ Some c.in-Some.o = sym c.named.ensures ∙ c.in-Some.is in
    subst (RecordsAre c.drop_all_asked.new.self objects) (sym (ap (λ w. filter (λ (r : Reference). not (is_named_at w r.object && is_asked_by c.args.p r.holder)) l) some)) (c.drop_all_asked.ensures.stands objects l h)
