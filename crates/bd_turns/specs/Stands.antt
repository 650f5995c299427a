-- What a table of one-way calls stands for: the one-way calls of the space, in its order.
use Rattle.std.specs.Prelude.{◌≡◌, List, map}
use Rattle.bd_ways.specs.Words.{Turn}
use Rattle.bd_keys.specs.Tables as tables
use Rattle.bd_turns.specs.{declared.table.TurnTable.{TurnTable}, Entries.{Entry, EntriesAre}}

pub record TurnsAre (t : TurnTable) (l : List Turn) : Type 0 where
  pub entries : List Entry
  pub are : EntriesAre t entries
  pub turns_are : map (λ e. e.turn) entries ≡ l

-- of every list that the table stands for x is what f says
abbrev pub Tells : {A : Type 0} → TurnTable → A → (List Turn → A) → Type 0
Tells t = tables.Tells (TurnsAre t)

-- every list that the table stood for was changed by f
abbrev pub Makes : TurnTable → TurnTable → (List Turn → List Turn) → Type 0
Makes t u = tables.Makes (TurnsAre t) (TurnsAre u)
