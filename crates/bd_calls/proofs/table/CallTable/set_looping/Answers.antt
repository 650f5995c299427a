use Rattle.bd_space.specs.Steps.{with_looping}
use Rattle.bd_calls.proofs.Seats.{kept_beside, turned_other}
use Rattle.bd_calls.proofs.table.CallTable.set_looping.Goals as goal

pub returns-clause-stands : goal.returns-clause-stands
unfolding with_looping
returns-clause-stands c = λ s stands.
    let seat = c.args.seat in
    let looping = c.args.looping in
    record {
      threads_are = rw stands.threads_are at c.set_looping.ensures.listed;
      frames_are = stands.frames_are;
      todo_are = stands.todo_are;
      turns_are = stands.turns_are;
      ready_are = kept_beside c.args.self.now.ready c.forget_seat.new.self s.threads _ _ seat c.forget_seat.ensures (turned_other looping s.threads seat) stands.ready_are;
    }
