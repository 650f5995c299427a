use Rattle.bd_step.proofs.Words.{IsCopy, List, Option, ap, length, subst, sym, translation, ℕ, ◌∙◌}
use Rattle.bd_step.proofs.tables.Tables.put_right.Goals as goal

pub returns-in-Some-clause-translated : goal.returns-in-Some-clause-translated
returns-in-Some-clause-translated c = λ bytes is n s h.
    let same = subst (λ (o : Option (List ℕ)). IsCopy o bytes c.args.items.now) c.in-Some.is is in
    c.translation.ensures.translated n s h ∙ ap (λ (xs : List ℕ). translation s c.args.q xs c.args.items.now) same

pub returns-in-Some-clause-len : goal.returns-in-Some-clause-len
returns-in-Some-clause-len c = λ bytes is.
    let same = subst (λ (o : Option (List ℕ)). IsCopy o bytes c.args.items.now) c.in-Some.is is in
    c.translation.ensures.len ∙ ap length same

pub returns-in-None-clause-translated : goal.returns-in-None-clause-translated
unfolding translation
returns-in-None-clause-translated c = λ bytes is n s h.
    let none = subst (λ (o : Option (List ℕ)). IsCopy o bytes c.args.items.now) c.in-None.is is in
    sym (ap (translation s c.args.q bytes) none)
