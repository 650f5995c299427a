-- How many one-way calls a table may still take without memory, how many it has, and what a change takes of that.
use Rattle.std.specs.{Prelude.{ℕ, min}, HashMap.{spare}}
use Rattle.bd_keys.specs.Tables as tables
use Rattle.bd_turns.specs.declared.table.TurnTable.{TurnTable}
use Rattle.bd_chains.specs.Lists.{lists_room}
use Rattle.bd_turns.specs.Spots.{spot_room, spot_count}

unfoldable pub turn_room : TurnTable → ℕ
turn_room t = min (min (lists_room t.objects.chains (spare t.objects.numbers.all)) (lists_room t.windows.chains (spare t.windows.numbers.all))) (spot_room t.spots)

-- each by its own place
unfoldable pub turn_count : TurnTable → ℕ
turn_count t = spot_count t.spots

abbrev pub Uses : TurnTable → TurnTable → ℕ → Type 0
Uses = tables.Uses turn_room turn_count
