-- Which seats may have a thread of which process.
use Rattle.std.specs.Prelude.{ℕ, ◌≡◌, ◌==◌, ◌<◌, ◌-◌, ◌^◌, Bool, true, false, List, Option, None, Some, get_or}
use Rattle.std.specs.Int.{bit_at}
use Rattle.bd_ways.specs.Words.{is_some_and}
use Rattle.bd_calls.specs.{declared.seen.Seen.{Seen}, declared.groups.Group.{Group}}

-- what is kept is of a thread of this process
abbrev pub is_member : ℕ → Option Seen → Bool
is_member process None = false
is_member process (Some x) = is_some_and x.thread (λ t. t.process == process)

-- any seat may have a thread of it
abbrev pub whole : Group
whole = record { process = 2 ^ 64 - 1; seats = 2 ^ 32 - 1 }

-- the word has each seat that is kept to have a thread of the process
abbrev pub HasMembers : ℕ → List (Option Seen) → ℕ → Type 0
HasMembers process seats word = (i : ℕ) → i < 32 → is_member process (get_or seats i None) ≡ true → bit_at word i ≡ 1

abbrev pub AreGrouped : List (Option Seen) → List Group → Type 0
AreGrouped seats groups = (k : ℕ) → HasMembers (get_or groups k whole).process seats (get_or groups k whole).seats

-- what is kept of this seat may be kept of it: the group of its process, if there is one, has the seat
abbrev pub IsGrouped : List Group → ℕ → Option Seen → Type 0
IsGrouped groups at seen = (k : ℕ) → is_member (get_or groups k whole).process seen ≡ true → bit_at (get_or groups k whole).seats at ≡ 1
