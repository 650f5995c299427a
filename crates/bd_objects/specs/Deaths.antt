-- The death notifications that go with a name.
use Rattle.std.specs.Prelude.{ℕ, ◌&&◌, ◌==◌, not, if◌then◌else◌, Bool, List, Option, None, option_and_then}
use Rattle.bd_ways.specs.Words.{list_any, Identity, Name, DeathNotification, when, Space}
use Rattle.bd_space.specs.Notices.{is_name_of}
use Rattle.bd_ways.specs.Local.{at_name, deaths_go_of}
use Rattle.bd_deaths.specs.Only.{only_uncleared_in}

-- it is on p's name of o, uncleared, and the name is gone
abbrev pub is_lost : List Name → ℕ → Identity → DeathNotification → Bool
is_lost names p o x = at_name p o x.process x.object && not x.cleared && not (is_name_of names x.process x.object)

-- where the only uncleared one on p's name of o was made, if the name is gone, and none that stays was made there
abbrev pub only_lost : Space → ℕ → Identity → Option ℕ
only_lost s p o =
    if is_name_of s.names p o then None
    else option_and_then
    (λ x. when (not (list_any (λ y. y.made == x.made) (deaths_go_of (at_name p o) s).deaths)) x.made)
    (only_uncleared_in s.deaths p o)
