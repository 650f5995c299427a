-- Numbers by which notifications that are due are put in order.
use Rattle.std.specs.Prelude.{ℕ, ◌+◌, ◌*◌, ◌%◌, ◌^◌, ◌==◌, ◌&&◌, not, Bool, List, [], ◌∷◌, map, filter, Option, Some, None, is_some, if◌then◌else◌}
use Rattle.bd_ways.specs.Words.{list_any, Object, DeathNotification, is_some_and}
use Rattle.bd_space.specs.{ProcessExits.{is_armed}}
use Rattle.bd_deaths.specs.declared.{kept.Kept.{Kept}, kept.Watch.{Watch}, table.DeathTable.{DeathTable}}
use Rattle.bd_deaths.specs.Entries.{Entry, death_of, kept_at}
use Rattle.bd_deaths.specs.Due.{is_due}

-- the serial number above the slot
abbrev pub number_of : Kept → ℕ → ℕ
number_of k at = k.serial * 2 ^ 64 + at

abbrev pub is_for_another : ℕ → DeathNotification → Bool
is_for_another p x = not (x.process == p) && is_armed x.phase

abbrev pub number_if : ℕ → ℕ → Option Kept → Option ℕ
number_if p at None = None
number_if p at (Some k) = if is_for_another p k.death then Some (number_of k at) else None

abbrev pub number_at : DeathTable → ℕ → ℕ → Option ℕ
number_at t p at = number_if p at (kept_at t at)

abbrev pub has : List ℕ → ℕ → Bool
has ns n = list_any (λ m. m == n) ns

-- the number is that of the watch's notification
abbrev pub is_at : DeathTable → ℕ → ℕ → Watch → Bool
is_at t p n w = is_some_and (number_at t p w.at) (λ m. m == n)

abbrev pub is_any_at : DeathTable → ℕ → Watch → Bool
is_any_at t p w = is_some (number_at t p w.at)

-- it is due, of another
abbrev pub is_due_entry : List Object → ℕ → Entry → Bool
is_due_entry objects p e = not ((death_of e).process == p) && is_due objects p (death_of e)

abbrev pub is_due_number : List Object → ℕ → ℕ → Entry → Bool
is_due_number objects p n e = is_due_entry objects p e && (number_of e.kept e.at == n)

abbrev pub due_numbers : List Object → ℕ → List Entry → List ℕ
due_numbers objects p es = map (λ e. number_of e.kept e.at) (filter (is_due_entry objects p) es)

abbrev pub in_list : Option Kept → List DeathNotification → List DeathNotification
in_list None xs = xs
in_list (Some k) xs = k.death ∷ xs

-- the notifications in the slots of these numbers
abbrev pub deaths_at : DeathTable → List ℕ → List DeathNotification
deaths_at t [] = []
deaths_at t (n ∷ ns) = in_list (kept_at t (n % 2 ^ 64)) (deaths_at t ns)
