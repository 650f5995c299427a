-- The objects that a parcel makes: those whose ptrs rise are found by halves, and those that come after, by owner and ptr.
use Rattle.std.specs.Prelude.{ℕ, ◌≡◌, ◌<◌, List, AllPairs, Option, drop}
use Rattle.bd_ways.specs.Words.{Object}
use Rattle.bd_space.specs.References.{own_in}
use Rattle.bd_keys.specs.declared.key.WordKey.{WordKey}
use Rattle.bd_keys.specs.declared.map.WordMap.{WordMap}
use Rattle.bd_keys.specs.Look.{look}

-- so many need no map
abbrev pub few : ℕ
few = 8

abbrev pub key_of : Object → WordKey
key_of x = record { process = x.owner; word = x.ptr }

abbrev pub own_at : List Object → WordKey → Option Object
own_at objects k = own_in objects k.process k.word

-- each has a higher ptr than those before it
abbrev pub IsRising : List Object → Type 0
IsRising objects = AllPairs (λ a b. a.ptr < b.ptr) objects

-- at each owner and ptr the map has the first of those after so many
abbrev pub Finds : ℕ → List Object → WordMap Object → Type 0
Finds first objects later = (k : WordKey) → look later k ≡ own_at (drop first objects) k
