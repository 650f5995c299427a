use Rattle.bd_ways.specs.Words.{OfProcess, Work}
use Rattle.bd_space.specs.{ProcessExits.{without_process}, Todo.{is_on}}
use Rattle.bd_calls.proofs.{OneWay.{left_stand, turn_is_of}, Marking.{told_on, cleared_beside}}
use Rattle.std.proofs.Common.{◌==◌, ap, not, filter}
use Rattle.bd_calls.specs.Told.{Recalls}
use Rattle.bd_calls.proofs.table.CallTable.end_process.Goals as goal

pub returns-clause-stands : goal.returns-clause-stands
unfolding without_process
returns-clause-stands c =
    λ s stands.
    record {
      threads_are = stands.threads_are;
      frames_are = c.lose_unread.ensures.frames s.todo stands.todo_are _ stands.frames_are;
      todo_are = c.clear_list.ensures.stands _ stands.todo_are;
      turns_are = left_stand c.remove_received.new.self (λ b. not (b.receiver == c.args.process)) (λ t. not (t.receiver == c.args.process))
          (λ b t h. ap (λ p. not (p == c.args.process)) (turn_is_of b t h).1) s.buffers (c.remove_received.ensures.stands _ stands.turns_are);
      ready_are = c.forget_all.ensures _ _;
    }

pub returns-clause-told : goal.returns-clause-told
unfolding Recalls
returns-clause-told c = λ told k.
    let list = OfProcess c.args.process in
    told_on c.mark.new.self _ _ (λ ws. filter (λ (w : Work). not (is_on list w)) ws) told c.clear_list.ensures.stands
    (λ ws other out. cleared_beside ws list other (c.mark.ensures.marked other out).1) (c.mark.ensures.recalls told k)
