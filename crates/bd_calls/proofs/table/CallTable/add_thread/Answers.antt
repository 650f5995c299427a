use Rattle.std.proofs.Common.{ℕ, ◌==◌, ◌++◌, ◌∷◌, [], false, ap, sym, ◌∙◌}
use Rattle.bd_ways.specs.Words.{Thread}
use Rattle.bd_space.specs.Steps.{with_thread}
use Rattle.bd_keys.proofs.{Rising.{filter_none}, Found.{none_found}}
use Rattle.bd_calls.proofs.Seats.{kept_beside, pushed_other}
use Rattle.bd_calls.proofs.table.CallTable.add_thread.Goals as goal

pub returns-clause-stands : goal.returns-clause-stands
unfolding with_thread
returns-clause-stands c = λ s stands new.
    let seat = c.args.seat in
    let one : ℕ → Thread = λ made. record { made = made; seat = seat; process = c.args.process; looping = false } in
    record {
      threads_are = (rw (stands.threads_are, filter_none (λ (t : Thread). t.seat) seat s.threads (none_found (λ (t : Thread). t.seat == seat) s.threads new.1))
          at c.push.ensures.listed) ∙ ap (λ made. s.threads ++ one made ∷ []) (sym new.0);
      frames_are = stands.frames_are;
      todo_are = stands.todo_are;
      turns_are = stands.turns_are;
      ready_are = kept_beside c.args.self.now.ready c.forget_seat.new.self s.threads _ _ seat c.forget_seat.ensures (pushed_other s.threads (one s.steps)) stands.ready_are;
    }
