use Rattle.bd_records.proofs.Words.{AreBlank, ap, arith, asked_of, carried_of, is_owner, managed_of, of_strength, option_map, owed_of, refl, subst, sym, total_of, ◌∙◌, ◌≤◌}
use Rattle.bd_records.proofs.{Coming.{object_of}, Tallies.{none_of_either}}
use Rattle.bd_records.proofs.records.Records.new.Goals as goal

pub returns-clause-stands : goal.returns-clause-stands
returns-clause-stands c = record {
  objects_are = λ o. sym (ap (option_map object_of) (c.new.ensures o));
  owners = λ p o. sym (ap (is_owner p) (c.new.ensures o));
  own = c.new-4.ensures;
  counts = record {
    totals = λ o s. ap (λ w. of_strength s (total_of w)) (c.new.ensures o) ∙ none_of_either s;
    owed = λ o s. ap (λ w. of_strength s (owed_of w)) (c.new.ensures o) ∙ none_of_either s;
    managed = λ o s. ap (λ w. of_strength s (managed_of w)) (c.new.ensures o) ∙ none_of_either s;
    asked = λ p o s. ap (λ w. of_strength s (asked_of w)) (c.new-2.ensures.names p o) ∙ none_of_either s;
    unasked = λ p o s own. refl;
    carried = λ p o s free. ap (λ w. of_strength s (carried_of w)) (c.new-2.ensures.names p o) ∙ none_of_either s;
    carried_few = λ p o s. subst (λ n. n ≤ 0) (sym (ap (λ w. of_strength s (carried_of w)) (c.new-2.ensures.names p o) ∙ none_of_either s)) (omega arith);
  };
  held = c.new-5.ensures;
  few = omega arith;
}

pub returns-clause-settled : goal.returns-clause-settled
returns-clause-settled c = record {
  stands = record {
    sound = record { one_number = λ p n. omega arith; one_name = λ p o. omega arith };
    objects_are = λ p n. sym (c.new-2.ensures.named p n);
    numbers_are = λ p o. sym (c.new-2.ensures.numbers p o);
    fits = refl;
  };
  grows = sym c.new-3.ensures.items;
  blank = subst (AreBlank c.new-2.result) (sym c.new-3.ensures.items) tt;
}
