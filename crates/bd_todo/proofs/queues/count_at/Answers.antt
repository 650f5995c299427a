use Rattle.std.proofs.Common.{◌≡◌, ◌∙◌, ◌==◌, ◌+◌, ◌≤◌, ap, sym, count_by, arith}
use Rattle.bd_space.specs.declared.space.Work.{Work}
use Rattle.bd_todo.specs.Rows.{seen_by}
use Rattle.bd_todo.proofs.{Rows.{work_is}, Sweeping.{seen_first, seen_more, seen_all, keys_below}}
use Rattle.bd_todo.proofs.queues.count_at.Goals.{then-is_made_at, else-is_made_at}
use Rattle.bd_todo.proofs.queues.count_at.Goals as goal

pub loop-x-init : goal.loop-x-init
loop-x-init c = record { few = omega arith; so_far = λ rs s. sym (seen_first (λ (w : Work). w.id.place == c.args.place) rs) }

pub loop-x-preserved : goal.loop-x-preserved
loop-x-preserved c = record {
  few = elim c.if-is_made_at.branch as (λ _. c.if-is_made_at.count ≤ c.loop-x.x + 1) [
    | then-is_made_at w ↦ let e = w.count-is in omega (arith, e)
    | else-is_made_at w ↦ let e = w.count-is in omega (arith, e)
  ];
  so_far = λ rs s.
      let more = (seen_more (λ (w : Work). w.id.place == c.args.place) c.loop-x.x rs s.holds.apart) in
      let here = rw (work_is c.args.queues.now rs s c.loop-x.x) at c.is_made_at.ensures in
      let was = c.loop-x.invariant.so_far rs s in
      elim c.if-is_made_at.branch as (λ _. c.if-is_made_at.count ≡ seen_by (λ w. w.id.place == c.args.place) (c.loop-x.x + 1) rs) [
        | then-is_made_at w ↦ grind (arith, w.count-is, w.if-is_made_at.true, here, more, was)
        | else-is_made_at w ↦ grind (arith, w.count-is, w.if-is_made_at.false, here, more, was)
      ];
}

pub returns : goal.returns
returns c = λ todo s.
    c.loop-x.invariant.so_far s.rows s.shows
    ∙ seen_all (λ (w : Work). w.id.place == c.args.place) c.loop-x.x s.rows (keys_below c.args.queues.now s.rows s.shows c.loop-x.x (λ k is. let low = c.slots-x-end.ensures k is in omega (arith, low)))
    ∙ ap (count_by (λ (w : Work). w.id.place == c.args.place)) s.works_are
