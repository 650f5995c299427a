use Rattle.std.proofs.{Common.{◌∙◌, ap, arith, refl, subst, get_or}, lemmas.List.{drop_more}}
use Rattle.bd_space.specs.{declared.space.Work.{Work}, declared.space.TodoList.TheVariants.{OfThread}, declared.space.WorkKind.TheVariants.{Notice}}
use Rattle.bd_space.specs.Todo.{without_taken}
use Rattle.bd_todo.specs.Stands.{WorksAre}
use Rattle.bd_todo.proofs.Fronts.{without_taken_cons, taken_all}
use Rattle.bd_todo.proofs.table.WorkTable.remove_taken.Goals as goal

-- where there is none
abbrev blank : Work
blank = record { id = record { place = 0; index = 0 }; list = OfThread 0; kind = Notice (record { place = 0; index = 0 }) }

pub loop-item-init : goal.loop-item-init
loop-item-init c = record { uses = omega arith; left = λ l h. (l, h, refl) }

pub loop-item-preserved : goal.loop-item-preserved
loop-item-preserved c = record {
  uses = omega arith;
  left = λ l h.
      let m = c.loop-item.invariant.left l h in
      (_, c.remove_item.ensures.stands m.0 m.1, m.2 ∙ ap (λ ds. without_taken ds m.0) (drop_more c.args.taken.now c.loop-item.item-index blank (omega arith)) ∙ without_taken_cons (get_or c.args.taken.now c.loop-item.item-index blank) _ m.0);
}

pub returns-clause-stands : goal.returns-clause-stands
returns-clause-stands c = λ l h.
    let m = c.loop-item.invariant.left l h in
    subst (WorksAre c.loop-item.self) (taken_all c.args.taken.now c.loop-item.item-index l m.0 (omega arith) m.2) m.1
