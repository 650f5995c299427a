-- What a table of death notifications stands for: those of a space, in its order.
use Rattle.std.specs.Prelude.{◌≡◌, List, map}
use Rattle.bd_ways.specs.Words.{DeathNotification}
use Rattle.bd_keys.specs.Tables as tables
use Rattle.bd_deaths.specs.{declared.table.DeathTable.{DeathTable}, Entries.{Entry, EntriesAre, death_of}, Shared.{AreShared}}

pub record DeathsAre (t : DeathTable) (l : List DeathNotification) : Type 0 where
  pub entries : List Entry
  pub are : EntriesAre t entries
  pub deaths_are : map death_of entries ≡ l
  pub shared : AreShared t.cookies l

-- of every list that the table stands for x is what f says
abbrev pub Tells : {A : Type 0} → DeathTable → A → (List DeathNotification → A) → Type 0
Tells t = tables.Tells (DeathsAre t)

-- every list that the table stood for was changed by f
abbrev pub Makes : DeathTable → DeathTable → (List DeathNotification → List DeathNotification) → Type 0
Makes t u = tables.Makes (DeathsAre t) (DeathsAre u)
