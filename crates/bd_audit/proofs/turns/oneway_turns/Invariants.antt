use Rattle.bd_laws.proofs.words.Logic.{◌≡◌, true, take, list_all}
use Rattle.bd_spelling.specs.Records.{history_in}
use Rattle.bd_audit.specs.Replays.{beginning}
use Rattle.bd_audit.specs.TurnSearch.{turns_on, has_ended}
use Rattle.bd_audit.proofs.turns.oneway_turns.Given as goal

abbrev pub invariant-loop-entry : goal.invariant-loop-entry
invariant-loop-entry l = record {
  engine : l.engine ≡ beginning l.entry-index (history_in l.fn.record);
  turns : l.list.turns.items ≡ turns_on l.object l.engine;
  ended : list_all has_ended (take l.list.ended l.list.turns.items) ≡ true;
}
