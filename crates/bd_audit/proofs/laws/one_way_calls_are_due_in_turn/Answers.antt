use Rattle.bd_space.specs.Histories.{space_after}
use Rattle.bd_laws.proofs.Always.{always_tidy}
use Rattle.bd_audit.proofs.OneWayCallsAreDueInTurn.DueInTurn.{on_lists, in_turn}
use Rattle.bd_audit.proofs.laws.one_way_calls_are_due_in_turn.Goals as goal

pub returns : goal.returns
returns c = λ h lawful. let before = (always_tidy h).before in (on_lists (space_after h) before, in_turn (space_after h) before.turns)
