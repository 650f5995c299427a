-- The only notification on a name.
use Rattle.std.specs.Prelude.{ℕ, ◌==◌, if◌then◌else◌, List, Option, None, count_by}
use Rattle.bd_ways.specs.Words.{Identity, DeathNotification}
use Rattle.bd_space.specs.Deaths.{is_uncleared_on, uncleared_in}

-- the only uncleared one on p's name of o, where there is just one
abbrev pub only_uncleared_in : List DeathNotification → ℕ → Identity → Option DeathNotification
only_uncleared_in deaths p o =
    if count_by (is_uncleared_on p o) deaths == 1 then uncleared_in deaths p o else None
