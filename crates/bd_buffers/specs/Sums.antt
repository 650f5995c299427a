-- How much of a window the one-way buffers of each sender take.
use Rattle.std.specs.Prelude.{ℕ, ◌≡◌, ◌==◌, List, Option, Some, None, unwrap_or, if◌then◌else◌}
use Rattle.bd_ways.specs.Words.{Buffer}
use Rattle.bd_space.specs.Spam.{one_way_from}
use Rattle.bd_keys.specs.{declared.key.WordKey.{WordKey}, declared.map.WordMap.{WordMap}, Look.{look}}

-- the place of the sender's process alone tells it apart
abbrev pub sender_key : ℕ → WordKey
sender_key sender = record { process = 0; word = sender }

-- a sum is noted where it isn't 0
abbrev pub noted : ℕ → Option ℕ
noted n = if n == 0 then None else Some n

-- what is noted of a sender
abbrev pub sum_at : WordMap ℕ → ℕ → ℕ
sum_at sums sender = unwrap_or (look sums (sender_key sender)) 0

-- each sender's sum is what f says, and of those that f says 0 of nothing is noted
abbrev pub AreNoted : WordMap ℕ → (ℕ → ℕ) → Type 0
AreNoted sums f = (m : ℕ) → look sums (sender_key m) ≡ noted (f m)

-- it is what its live one-way buffers take
abbrev pub AreSums : List Buffer → WordMap ℕ → Type 0
AreSums buffers sums = AreNoted sums (one_way_from buffers)
