use Rattle.std.proofs.Common.{[], false, refl, arith}
use Rattle.bd_turns.specs.Entries.{by_object, by_window}
use Rattle.bd_turns.proofs.table.TurnTable.new.Goals as goal

pub returns : goal.returns
returns c = record {
  entries = [];
  are = record {
    on_objects = c.new-2.ensures c.new.ensures by_object (λ _. false);
    in_windows = c.new-4.ensures c.new-3.ensures by_window (λ _. false);
    distinct = λ i j d lt h. absurd (omega arith);
    spots_are = c.new-5.ensures;
  };
  turns_are = refl;
}
