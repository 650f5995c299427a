use Rattle.std.proofs.Common.{◌∙◌, sym, refl, ap, length, subst, arith}
use Rattle.bd_space.specs.Todo.{is_on}
use Rattle.bd_todo.specs.Stands.{WorksAre}
use Rattle.bd_todo.proofs.{OnList.{nothing_goes, no_first, rest_same, one_less}, Rows.{works_length}, WorksStand.{none_left}}
use Rattle.bd_todo.proofs.table.WorkTable.pop_all.Goals as goal

pub loop-init : goal.loop-init
loop-init c = record { uses = omega arith; left = λ l h. (l, h, refl, omega arith) }

pub loop-preserved : goal.loop-preserved
loop-preserved c = record {
  uses = omega arith;
  left = λ l h.
      let m = c.loop.invariant.left l h in
      let less = one_less (is_on c.args.list) m.0 (sym (c.pop.ensures.popped m.0 m.1) ∙ c.if-not-pop.false) in
      let few = m.3 in
      (_, c.pop.ensures.stands m.0 m.1, rest_same (is_on c.args.list) m.0 ∙ m.2, omega (arith, less, few));
}

pub returns-then-not-pop-clause-stands : goal.returns-then-not-pop-clause-stands
returns-then-not-pop-clause-stands c = λ l h.
    let m = c.loop.invariant.left l h in
    let none = sym (c.pop.ensures.popped m.0 m.1) ∙ c.if-not-pop.true in
    subst (WorksAre c.pop.new.self) (no_first (is_on c.args.list) m.0 none ∙ sym (nothing_goes (is_on c.args.list) m.0 none) ∙ m.2) (c.pop.ensures.stands m.0 m.1)

pub returns-clause-stands : goal.returns-clause-stands
returns-clause-stands c = λ l h.
    let m = c.loop.invariant.left l h in
    let few = m.3 in
    let all = c.len-end.ensures h.queues_stand.rows h.queues_stand.shows.holds in
    let n = works_length h.queues_stand.rows in let is = ap length h.queues_stand.works_are in
    subst (WorksAre c.loop.self) (sym (none_left (is_on c.args.list) m.0 (omega (arith, few, all, n, is))) ∙ m.2) m.1
