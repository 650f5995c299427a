use Rattle.bd_records.proofs.Words.{None, Some, ap, cond, number_at, object_of, option_map, subst, sym, value_at, ◌∙◌, ◌≡◌}
use Rattle.bd_records.proofs.{Given.{here}, Stepping.{not_shown}}
use Rattle.bd_records.proofs.keys.remove_at.Goals as goal

pub returns-in-Some-clause-gone : goal.returns-in-Some-clause-gone
returns-in-Some-clause-gone c = λ x shown.
    let p = c.args.p in
    let is : Some c.in-Some.row.object ≡ Some x = sym (ap (option_map object_of) (sym c.get.ensures ∙ c.in-Some.is)) ∙ shown in
    let one : c.in-Some.row.object ≡ x = cc in
    subst (λ y. number_at c.remove_number.new.numbers p y ≡ None) one
    (c.remove_number.ensures.at p c.in-Some.row.object ∙ ap (λ b. cond b None (number_at c.args.numbers.now p c.in-Some.row.object)) (here p c.in-Some.row.object))

pub returns-in-None-clause-gone : goal.returns-in-None-clause-gone
returns-in-None-clause-gone c = λ x shown. not_shown (value_at c.args.rows.now c.args.p c.args.n) x (sym c.get.ensures ∙ c.in-None.is) shown
