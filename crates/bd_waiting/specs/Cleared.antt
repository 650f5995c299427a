-- Who is told that a death notification was taken back, and when.
use Rattle.std.specs.Prelude.{ℕ, Bool, not, nat_le, nat_lt, ◌&&◌, ◌||◌, if◌then◌else◌}
use Rattle.bd_reader.specs.declared.facts.{Facts.{Facts}}
use Rattle.bd_waiting.specs.declared.cleared.{Cleared.{Cleared}, Clearing.{Clearing}}
use Rattle.bd_waiting.specs.declared.cleared.Clearing.TheVariants as clearing

-- It stands on the list of its process among all else, in the order of the steps.
abbrev pub is_next_by : Facts → Cleared → Bool
is_next_by f c = f.is_idle && not f.is_left && not c.has_own && (not c.has_oldest || nat_lt c.place c.oldest)

abbrev pub is_there_by : Facts → Cleared → Bool
is_there_by f c = f.is_there || is_next_by f c

abbrev pub clears_by : Bool → Bool → ℕ → Clearing
clears_by item cleared index =
    if nat_le 16 index then clearing.IsTold
    else if not item then clearing.IsNotTold
    else if cleared then clearing.IsTold
    else clearing.LooksOn
