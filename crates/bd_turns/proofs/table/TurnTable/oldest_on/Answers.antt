use Rattle.std.proofs.Common.{false, ap, map, find, ◌∙◌}
use Rattle.bd_space.specs.Words.{same}
use Rattle.bd_turns.specs.Entries.{by_object, call_row}
use Rattle.bd_turns.proofs.Changes.{calls_are}
use Rattle.bd_turns.proofs.table.TurnTable.oldest_on.Goals as goal

pub returns : goal.returns
returns c = λ l h.
    c.front.ensures by_object (λ _. false) (map call_row h.entries) h.are.on_objects
    ∙ ap (find (λ t. same t.target c.args.object)) (calls_are h.entries ∙ h.turns_are)
