use Rattle.std.proofs.Common.{◌∙◌, ◌==◌, ap, sym, subst, ◌++◌}
use Rattle.std.specs.Option.{option_to_list}
use Rattle.bd_ways.specs.Words.{is_some_and, list_any}
use Rattle.bd_space.specs.{Turns.{turns_of}, Delivery.{add_buffer}}
use Rattle.bd_turns.specs.Stands.{TurnsAre}
use Rattle.bd_calls.proofs.OneWay.{turn_new, turns_add}
use Rattle.bd_calls.proofs.table.CallTable.add_turn.Goals as goal

pub returns-clause-stands : goal.returns-clause-stands
unfolding add_buffer
returns-clause-stands c =
    λ s b stands is before. record {
      threads_are = stands.threads_are;
      frames_are = stands.frames_are;
      todo_are = stands.todo_are;
      turns_are = subst (TurnsAre c.push_turn.new.turns) (ap (λ o. turns_of s.buffers ++ option_to_list o) is ∙ sym (turns_add s.buffers b))
          (c.push_turn.ensures.turns _ (ap (λ o. is_some_and o (λ t. list_any (λ u. u.made == t.made) (turns_of s.buffers))) is ∙ turn_new s.buffers b before) stands.turns_are);
      ready_are = stands.ready_are;
    }
