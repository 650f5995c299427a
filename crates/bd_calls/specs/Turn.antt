-- One-way calls that are handed out.
use Rattle.std.specs.Prelude.{ℕ, ◌==◌, List, Option, Some, None}
use Rattle.bd_ways.specs.Words.{Turn, changed}
use Rattle.bd_turns.specs.Turn.{hand_turn}

-- the one made here is handed out, if there is one
abbrev pub handed_turns : Option ℕ → List Turn → List Turn
handed_turns None turns = turns
handed_turns (Some made) turns = changed (λ t. t.made == made) hand_turn turns
