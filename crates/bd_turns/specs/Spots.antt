-- Where calls stand, by where they were made.
use Rattle.std.specs.{Prelude.{ℕ, ◌==◌, ◌+◌, Bool, false, Option, Some, None, if◌then◌else◌}, HashMap.{HashMap, get_by, spare, hash_map_len}}
use Rattle.bd_ways.specs.Words.{Turn}
use Rattle.bd_turns.specs.declared.spot.{Mark.{Mark}, Spot.{Spot}, Lone.{Lone}, Spots.{Spots}}

abbrev pub in_map : {S : Type 0} → HashMap ℕ Spot S → ℕ → Option Spot
in_map spots made = get_by (λ k. made == k) spots

-- the one that stands apart, if it was made there, else this
abbrev pub lone_or : Option Lone → ℕ → Option Spot → Option Spot
lone_or None made o = o
lone_or (Some l) made o = if l.made == made then Some l.spot else o

abbrev pub spot_at : Spots → ℕ → Option Spot
spot_at s made = lone_or s.lone made (in_map s.others made)

abbrev pub is_lone_of : Option Lone → ℕ → Bool
is_lone_of None made = false
is_lone_of (Some l) made = l.made == made

abbrev pub is_lone : Spots → ℕ → Bool
is_lone s made = is_lone_of s.lone made

abbrev pub spot_room : Spots → ℕ
spot_room s = spare s.others

-- so many at most
abbrev pub lone_count : Option Lone → ℕ
lone_count None = 0
lone_count (Some l) = 1

abbrev pub spot_count : Spots → ℕ
spot_count s = lone_count s.lone + hash_map_len s.others

abbrev pub mark_of : Turn → Mark
mark_of t = record { made = t.made; receiver = t.receiver }
