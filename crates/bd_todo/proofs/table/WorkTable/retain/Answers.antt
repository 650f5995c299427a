use Rattle.std.proofs.Common.{◌≤◌, ◌+◌, ◌∙◌, not, filter, ap, sym, refl, subst, arith}
use Rattle.bd_space.specs.{declared.space.Work.{Work}, Words.{is_some_and}}
use Rattle.bd_todo.specs.Stands.{work_room}
use Rattle.bd_todo.proofs.{Sweeping.{Swept, seen_first, keys_below, swept_kept, swept_cut, swept_all}, WorksStand.{rows_are, works_of}}
use Rattle.bd_todo.proofs.table.WorkTable.retain.Goals.{in-Some+then-not-f, in-Some+else-not-f, in_default}
use Rattle.bd_todo.proofs.table.WorkTable.retain.Goals as goal

pub loop-x-init : goal.loop-x-init
loop-x-init g c = record { uses = omega arith; same = refl; swept = λ p h rs s. record { left = rs; are = s; of_them = λ k on. on; same = refl; none_seen = seen_first (λ w. not (p w)) rs } }

pub loop-x-preserved : goal.loop-x-preserved
loop-x-preserved g c = record {
  uses = elim c.match-get.branch as (λ _. work_room c.args.self.now ≤ work_room c.match-get.self) [
    | in-Some+then-not-f w ↦ rw w.self-is (let u = w.remove_at.ensures.uses in omega arith)
    | in-Some+else-not-f w ↦ rw w.self-is c.loop-x.invariant.uses
    | in_default w ↦ rw w.self-is c.loop-x.invariant.uses
  ];
  same = refl;
  swept = λ p h rs s.
      let now = c.loop-x.invariant.swept p h rs s in
      let stays = λ (o : _). is_some_and o (λ (v : Work). not (p v)) in
      elim c.match-get.branch as (λ _. Swept p (c.loop-x.x + 1) c.match-get.self rs) [
        | in-Some+then-not-f w ↦
            subst (λ u. Swept p (c.loop-x.x + 1) u rs) (sym w.self-is)
            (swept_cut p c.loop-x.x c.loop-x.self rs now w.remove_at.new.self w.in-Some.work (sym c.get.ensures ∙ w.in-Some.is) (sym (h _ _ w.f.ensures) ∙ w.if-not-f.true) w.remove_at.ensures.rows)
        | in-Some+else-not-f w ↦
            subst (λ u. Swept p (c.loop-x.x + 1) u rs) (sym w.self-is)
            (swept_kept p c.loop-x.x c.loop-x.self rs now (ap stays (sym c.get.ensures ∙ w.in-Some.is) ∙ ap not (sym (h _ _ w.f.ensures) ∙ w.if-not-f.false)))
        | in_default w ↦
            subst (λ u. Swept p (c.loop-x.x + 1) u rs) (sym w.self-is)
            (swept_kept p c.loop-x.x c.loop-x.self rs now (ap stays (sym c.get.ensures ∙ w.in_default.is)))
      ];
}

pub returns-clause-stands : goal.returns-clause-stands
returns-clause-stands g c = λ p h l s.
    let rs = s.queues_stand.rows in
    let now = c.loop-x.invariant.swept p h rs (rows_are c.args.self.now l s) in
    let below = keys_below c.args.self.now.queues rs s.queues_stand.shows c.loop-x.x (λ k is. let b = c.slots-x-end.ensures k is in omega (arith, b)) in
    works_of c.loop-x.self now.left (filter p l) now.are (swept_all p c.loop-x.x c.loop-x.self rs now below ∙ ap (filter p) s.queues_stand.works_are)
