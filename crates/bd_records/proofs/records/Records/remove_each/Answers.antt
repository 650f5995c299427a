use Rattle.bd_records.proofs.Words.{RecordsAre, Reference, ap, arith, false, filter, is_held, is_of_buffer, length, list_any, subst, sym, true, ◌∙◌, ◌≡◌}
use Rattle.bd_records.proofs.{Buffering.{of_held}, Given.{uses_nothing}, Lists.{any_empty, any_kept, find_kept, first_kept, first_less, found_is, none_first, nothing_goes, rest_same}}
use Rattle.bd_records.proofs.records.Records.remove_each.Goals as goal

pub loop-preserved : goal.loop-preserved
loop-preserved c = record {
  uses = uses_nothing _ _ _ c.loop.invariant.uses c.pop_held.ensures.uses;
  names = λ l h. c.pop_held.ensures.names l (c.loop.invariant.names l h);
  settled = λ names s. c.pop_held.ensures.settled names (c.loop.invariant.settled names s);
  left = λ objects l h.
      let m = c.loop.invariant.left objects l h in
      let b = c.args.b in
      let test = (λ (x : Reference). is_of_buffer b x.holder) in
      let any : list_any test m.0 ≡ true = sym (c.pop_held.ensures.any objects m.0 m.1) ∙ c.if-not-pop_held.false in
      let f = found_is test m.0 any in
      let less = ap length (first_kept test is_held (of_held b) m.0) in
      let one = first_less test (filter is_held m.0) f.0 (find_kept test is_held (of_held b) m.0 ∙ f.1) in
      let few = m.3 in
      (_, c.pop_held.ensures.stands objects m.0 m.1, rest_same test m.0 ∙ m.2, omega (arith, less, one, few));
}

pub returns-then-not-pop_held-clause-stands : goal.returns-then-not-pop_held-clause-stands
returns-then-not-pop_held-clause-stands c = λ objects l h.
    let m = c.loop.invariant.left objects l h in
    let test = (λ (x : Reference). is_of_buffer c.args.b x.holder) in
    let none : list_any test m.0 ≡ false = sym (c.pop_held.ensures.any objects m.0 m.1) ∙ c.if-not-pop_held.true in
    subst (RecordsAre c.pop_held.new.self objects) (none_first test m.0 none ∙ sym (nothing_goes test m.0 none) ∙ m.2) (c.pop_held.ensures.stands objects m.0 m.1)

pub returns-clause-stands : goal.returns-clause-stands
returns-clause-stands c = λ objects l h.
    let m = c.loop.invariant.left objects l h in
    let test = (λ (x : Reference). is_of_buffer c.args.b x.holder) in
    let all = c.len-end.ensures l h.held in
    let few = m.3 in
    let none : list_any test m.0 ≡ false = sym (any_kept test is_held (of_held c.args.b) m.0) ∙ any_empty test (filter is_held m.0) (omega (arith, few, all)) in
    subst (RecordsAre c.loop.self objects) (sym (nothing_goes test m.0 none) ∙ m.2) m.1
