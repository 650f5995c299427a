use Rattle.std.proofs.Common.{sym, subst, map}
use Rattle.bd_ways.specs.Words.{Work, first_of}
use Rattle.bd_space.specs.{Todo.{hands_out}, ReadItems.{read_by, buffer_taken}, Todo.{without_taken}}
use Rattle.bd_turns.specs.Stands.{TurnsAre}
use Rattle.bd_calls.proofs.{OneWay.{turns_handed}, Seats.{told_same, taken_told}, Marking.{told_on, taken_beside}}
use Rattle.bd_calls.specs.Told.{Recalls}
use Rattle.bd_calls.proofs.table.CallTable.read_by.Goals as goal

pub returns-clause-stands : goal.returns-clause-stands
unfolding read_by buffer_taken
returns-clause-stands c =
    λ s stands.
    let made = first_of (map (λ (w : Work). hands_out w.kind) c.args.taken.now) in
    record {
      threads_are = stands.threads_are;
      frames_are = c.serve.ensures.frames _ stands.frames_are;
      todo_are = c.remove_taken.ensures.stands _ stands.todo_are;
      turns_are = subst (TurnsAre c.hand_out_taken.new.turns) (sym (turns_handed s.buffers made)) (c.hand_out_taken.ensures.turns _ stands.turns_are);
      ready_are = told_same c.note_lists_of.new.self s.threads _ _ (taken_told c.args.taken.now s.todo)
          (c.note_lists_of.ensures s.threads _ _ (c.remove_taken.ensures.stands _ stands.todo_are) stands.ready_are);
    }

pub returns-clause-told : goal.returns-clause-told
unfolding Recalls
returns-clause-told c = λ told k.
    told_on c.mark_lists_of.new.self _ _ (λ ws. without_taken c.args.taken.now ws) told c.remove_taken.ensures.stands
    (λ ws list out. taken_beside c.args.taken.now ws list (c.mark_lists_of.ensures.marked list out).1) (c.mark_lists_of.ensures.recalls told k)
