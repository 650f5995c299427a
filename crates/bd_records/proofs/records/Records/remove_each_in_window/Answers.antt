use Rattle.bd_records.proofs.Words.{RecordsAre, Reference, ap, arith, false, filter, is_held, is_in_window, length, list_any, list_of, subst, sym, true, ◌∙◌, ◌≡◌}
use Rattle.bd_records.proofs.{Buffering.{in_held}, Emptied.{emptied_all, emptied_next}, Given.{uses_nothing}, Lists.{any_empty, any_kept, find_kept, first_kept, first_less, found_is, none_first, nothing_goes, rest_same}}
use Rattle.bd_records.proofs.records.Records.remove_each_in_window.Goals as goal

pub loop-preserved : goal.loop-preserved
loop-preserved c = record {
  uses = uses_nothing _ _ _ c.loop.invariant.uses c.pop_in_window.ensures.uses;
  names = λ l h. c.pop_in_window.ensures.names l (c.loop.invariant.names l h);
  settled = λ names s. c.pop_in_window.ensures.settled names (c.loop.invariant.settled names s);
  left = λ objects l h.
      let m = c.loop.invariant.left objects l h in
      let b = c.args.p in
      let test = (λ (x : Reference). is_in_window b x.holder) in
      let any : list_any test m.0 ≡ true = sym (c.pop_in_window.ensures.any objects m.0 m.1) ∙ c.if-not-pop_in_window.false in
      let f = found_is test m.0 any in
      let less = ap length (first_kept test is_held (in_held b) m.0) in
      let one = first_less test (filter is_held m.0) f.0 (find_kept test is_held (in_held b) m.0 ∙ f.1) in
      let few = m.3 in (
        _,
        c.pop_in_window.ensures.stands objects m.0 m.1,
        rest_same test m.0 ∙ m.2,
        omega (arith, less, one, few),
        λ k here. emptied_next k b (list_of c.loop.self.held k) _ m.0
            (λ r first lay none. c.pop_in_window.ensures.gone objects m.0 r k m.1 first lay none) (c.pop_in_window.ensures.fewer k) f.0 f.1 (m.4 k here),
      );
}

pub returns-then-not-pop_in_window-clause-stands : goal.returns-then-not-pop_in_window-clause-stands
returns-then-not-pop_in_window-clause-stands c = λ objects l h.
    let m = c.loop.invariant.left objects l h in
    let test = (λ (x : Reference). is_in_window c.args.p x.holder) in
    let none : list_any test m.0 ≡ false = sym (c.pop_in_window.ensures.any objects m.0 m.1) ∙ c.if-not-pop_in_window.true in
    subst (RecordsAre c.pop_in_window.new.self objects) (none_first test m.0 none ∙ sym (nothing_goes test m.0 none) ∙ m.2) (c.pop_in_window.ensures.stands objects m.0 m.1)

pub returns-clause-stands : goal.returns-clause-stands
returns-clause-stands c = λ objects l h.
    let m = c.loop.invariant.left objects l h in
    let test = (λ (x : Reference). is_in_window c.args.p x.holder) in
    let all = c.len-end.ensures l h.held in
    let few = m.3 in
    let none : list_any test m.0 ≡ false = sym (any_kept test is_held (in_held c.args.p) m.0) ∙ any_empty test (filter is_held m.0) (omega (arith, few, all)) in
    subst (RecordsAre c.loop.self objects) (sym (nothing_goes test m.0 none) ∙ m.2) m.1

pub returns-then-not-pop_in_window-clause-gone : goal.returns-then-not-pop_in_window-clause-gone
returns-then-not-pop_in_window-clause-gone c = λ objects l b h lies.
    let m = c.loop.invariant.left objects l h in
    let none = sym (c.pop_in_window.ensures.any objects m.0 m.1) ∙ c.if-not-pop_in_window.true in
    c.pop_in_window.ensures.fewer b (emptied_all c.args.p b (list_of c.loop.self.held b) m.0 l lies none m.2 (m.4 b lies.any))

pub returns-clause-gone : goal.returns-clause-gone
returns-clause-gone c = λ objects l b h lies.
    let m = c.loop.invariant.left objects l h in
    let test = (λ (x : Reference). is_in_window c.args.p x.holder) in
    let all = c.len-end.ensures l h.held in
    let few = m.3 in
    let none : list_any test m.0 ≡ false = sym (any_kept test is_held (in_held c.args.p) m.0) ∙ any_empty test (filter is_held m.0) (omega (arith, few, all)) in
    emptied_all c.args.p b (list_of c.loop.self.held b) m.0 l lies none m.2 (m.4 b lies.any)
