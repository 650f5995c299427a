use Rattle.bd_records.proofs.Words.{CountsAre, None, Option, Reference, Some, ap, arith, buffer_of_holder, false, find, is_in_window, is_some, list_any, name_at, option_map, refl, row_at, subst, sym, unwrap_or, without_first, ◌∙◌, ◌≡◌}
use Rattle.bd_records.proofs.{Given.{settled_kept}, Lists.{first_shorter, found_some, none_first}, Tallies.{count_first, on, turned_stands}}
use Rattle.bd_records.proofs.records.Records.pop_in_window.Goals as goal

pub returns-in-Some-clause-stands : goal.returns-in-Some-clause-stands
returns-in-Some-clause-stands c = λ objects l h.
    let test = (λ (x : Reference). is_in_window c.args.p x.holder) in
    let found : find test l ≡ Some c.in-Some.r = sym (c.pop_in_window.ensures.first l h.held) ∙ c.in-Some.is in
    let n = first_shorter test l in
    turned_stands false c.args.self.now _ objects l (without_first test l) c.in-Some.r h (λ e. absurd cc) (λ g. count_first test (on g) l c.in-Some.r found) c.turn.ensures.objects c.turn.ensures.names refl
    (c.close_of.ensures.stands _ (c.pop_in_window.ensures.stands l h.held)) (omega (arith, n, h.few))

pub returns-in-Some-clause-any : goal.returns-in-Some-clause-any
returns-in-Some-clause-any c = λ objects l h.
    let test = (λ (x : Reference). is_in_window c.args.p x.holder) in
    ap is_some (sym c.in-Some.is ∙ c.pop_in_window.ensures.first l h.held) ∙ found_some test l

pub returns-in-None-clause-any : goal.returns-in-None-clause-any
returns-in-None-clause-any c = λ objects l h.
    let test = (λ (x : Reference). is_in_window c.args.p x.holder) in
    ap is_some (sym c.in-None.is ∙ c.pop_in_window.ensures.first l h.held) ∙ found_some test l

pub returns-in-None-clause-stands : goal.returns-in-None-clause-stands
returns-in-None-clause-stands c = λ objects l h.
    let t = c.args.self.now in
    let test = (λ (x : Reference). is_in_window c.args.p x.holder) in
    let none : list_any test l ≡ false = sym (found_some test l) ∙ ap is_some (sym (c.pop_in_window.ensures.first l h.held) ∙ c.in-None.is) in
    let same = sym (none_first test l none) in
    record {
      objects_are = h.objects_are;
      owners = h.owners;
      own = h.own;
      counts = subst (CountsAre (row_at t.objects) (name_at t.names) objects) same h.counts;
      held = c.pop_in_window.ensures.stands l h.held;
      few = (let n = first_shorter test l in let a = h.few in omega (arith, n, a));
    }

pub returns-in-Some-clause-settled : goal.returns-in-Some-clause-settled
returns-in-Some-clause-settled c = settled_kept c.args.self.now _ c.turn.ensures.kept refl

pub returns-in-Some-clause-gone : goal.returns-in-Some-clause-gone
returns-in-Some-clause-gone c = λ objects l r b h first at none.
    let test = (λ (x : Reference). is_in_window c.args.p x.holder) in
    let same : Some c.in-Some.r ≡ Some r = sym c.in-Some.is ∙ c.pop_in_window.ensures.first l h.held ∙ first in
    let lay = subst (λ (o : Option Reference). option_map (λ (x : Reference). buffer_of_holder x.holder) o ≡ Some (Some b)) (sym same) (ap Some at) in
    c.close_of.ensures.gone b (without_first test l) (ap (λ o. unwrap_or o None) lay) (c.pop_in_window.ensures.stands l h.held) none

pub returns-in-None-clause-gone : goal.returns-in-None-clause-gone
returns-in-None-clause-gone c = λ objects l r b h first at none.
    let same = sym c.in-None.is ∙ c.pop_in_window.ensures.first l h.held ∙ first in
    absurd cc

pub returns-in-Some-clause-fewer : goal.returns-in-Some-clause-fewer
returns-in-Some-clause-fewer c = λ b none. c.close_of.ensures.fewer b (c.pop_in_window.ensures.lists b ∙ none)

pub returns-in-None-clause-fewer : goal.returns-in-None-clause-fewer
returns-in-None-clause-fewer c = λ b none. c.pop_in_window.ensures.lists b ∙ none
