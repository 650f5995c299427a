-- Whose window a buffer is in, by where it was made.
use Rattle.std.specs.{Prelude.{ℕ, ◌≡◌, ◌==◌, List, None, option_map, if◌then◌else◌}, List.{list_any}}
use Rattle.bd_ways.specs.Words.{Buffer}
use Rattle.bd_space.specs.Returns.{buffer_in}
use Rattle.bd_keys.specs.{declared.key.WordKey.{WordKey}, declared.map.WordMap.{WordMap}, Look.{look}}

-- the place alone tells buffers apart
abbrev pub home_key : ℕ → WordKey
home_key made = record { process = 0; word = made }

-- each live buffer is in its receiver's window, and nothing is noted of places where none that lives was made
abbrev pub AreHomes : WordMap ℕ → List Buffer → Type 0
AreHomes homes buffers = (m : ℕ) → look homes (home_key m) ≡ option_map (λ b. b.receiver) (buffer_in buffers m)

-- the homes of the buffers that were made at these places go, and no others
abbrev pub Forgets : List ℕ → WordMap ℕ → WordMap ℕ → Type 0
Forgets places old new = (m : ℕ) → look new (home_key m) ≡ (if list_any (λ n. n == m) places then None else look old (home_key m))
