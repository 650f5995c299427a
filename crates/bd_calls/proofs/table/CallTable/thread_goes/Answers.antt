use Rattle.std.proofs.Common.{◌==◌, ◌∙◌, ap, not, filter}
use Rattle.bd_ways.specs.Words.{Thread, OfThread, Work}
use Rattle.bd_space.specs.{ThreadExits.{thread_goes, is_lost_with}, Todo.{is_on}}
use Rattle.bd_calls.proofs.{OneWay.{left_stand, turn_is_of}, Marking.{told_on, cleared_beside}}
use Rattle.bd_calls.specs.Told.{Recalls}
use Rattle.bd_calls.proofs.table.CallTable.thread_goes.Goals as goal

pub returns-clause-stands : goal.returns-clause-stands
unfolding thread_goes
returns-clause-stands c =
    λ s stands.
    let seat = c.args.seat in
    let list = OfThread seat in
    record {
      threads_are = c.remove.ensures.listed ∙ ap (filter (λ (t : Thread). not (t.seat == seat))) stands.threads_are;
      frames_are = c.leave_frames.ensures.frames s.todo stands.todo_are _ stands.frames_are;
      todo_are = c.clear_list.ensures.stands _ stands.todo_are;
      turns_are = left_stand c.remove_turns_on.new.turns (λ b. not (is_lost_with s.todo list b.made)) (λ t. not (is_lost_with s.todo list t.made))
          (λ b t h. ap (λ m. not (is_lost_with s.todo list m)) (turn_is_of b t h).0) s.buffers (c.remove_turns_on.ensures.turns s.todo stands.todo_are _ stands.turns_are);
      ready_are = c.forget_all.ensures _ _;
    }

pub returns-clause-told : goal.returns-clause-told
unfolding Recalls
returns-clause-told c = λ told k.
    let list = OfThread c.args.seat in
    told_on c.mark.new.self _ _ (λ ws. filter (λ (w : Work). not (is_on list w)) ws) told c.clear_list.ensures.stands
    (λ ws other out. cleared_beside ws list other (c.mark.ensures.marked other out).1) (c.mark.ensures.recalls told k)
