use Rattle.bd_records.proofs.Words.{CountsAre, Reference, Some, ap, arith, false, find, is_of_buffer, is_some, list_any, name_at, refl, row_at, subst, sym, without_first, ◌∙◌, ◌≡◌}
use Rattle.bd_records.proofs.{Given.{settled_kept}, Lists.{first_shorter, found_some, none_first}, Tallies.{count_first, on, turned_stands}}
use Rattle.bd_records.proofs.records.Records.pop_held.Goals as goal

pub returns-in-Some-clause-stands : goal.returns-in-Some-clause-stands
returns-in-Some-clause-stands c = λ objects l h.
    let test = (λ (x : Reference). is_of_buffer c.args.b x.holder) in
    let found : find test l ≡ Some c.in-Some.r = sym (c.pop.ensures.first l h.held) ∙ c.in-Some.is in
    let n = first_shorter test l in
    turned_stands false c.args.self.now _ objects l (without_first test l) c.in-Some.r h (λ e. absurd cc) (λ g. count_first test (on g) l c.in-Some.r found) c.turn.ensures.objects c.turn.ensures.names refl
    (c.pop.ensures.stands l h.held) (omega (arith, n, h.few))

pub returns-in-Some-clause-any : goal.returns-in-Some-clause-any
returns-in-Some-clause-any c = λ objects l h.
    let test = (λ (x : Reference). is_of_buffer c.args.b x.holder) in
    ap is_some (sym c.in-Some.is ∙ c.pop.ensures.first l h.held) ∙ found_some test l

pub returns-in-None-clause-any : goal.returns-in-None-clause-any
returns-in-None-clause-any c = λ objects l h.
    let test = (λ (x : Reference). is_of_buffer c.args.b x.holder) in
    ap is_some (sym c.in-None.is ∙ c.pop.ensures.first l h.held) ∙ found_some test l

pub returns-in-None-clause-stands : goal.returns-in-None-clause-stands
returns-in-None-clause-stands c = λ objects l h.
    let t = c.args.self.now in
    let test = (λ (x : Reference). is_of_buffer c.args.b x.holder) in
    let none : list_any test l ≡ false = sym (found_some test l) ∙ ap is_some (sym (c.pop.ensures.first l h.held) ∙ c.in-None.is) in
    let same = sym (none_first test l none) in
    record {
      objects_are = h.objects_are;
      owners = h.owners;
      own = h.own;
      counts = subst (CountsAre (row_at t.objects) (name_at t.names) objects) same h.counts;
      held = c.pop.ensures.stands l h.held;
      few = (let n = first_shorter test l in let a = h.few in omega (arith, n, a));
    }

pub returns-in-Some-clause-settled : goal.returns-in-Some-clause-settled
returns-in-Some-clause-settled c = settled_kept c.args.self.now _ c.turn.ensures.kept refl
