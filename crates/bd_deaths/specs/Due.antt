-- The death notifications by which the end of a process is told.
use Rattle.std.specs.Prelude.{ℕ, ◌==◌, ◌&&◌, not, Bool, List, filter}
use Rattle.bd_ways.specs.Words.{list_any, Identity, Object, DeathNotification, Queued, changed}
use Rattle.bd_space.specs.References.{owned_in}
use Rattle.bd_space.specs.ProcessExits.{is_armed}
use Rattle.bd_ways.specs.Local.{is_among}

-- it is armed, on an object of p
abbrev pub is_due : List Object → ℕ → DeathNotification → Bool
is_due objects p x = is_armed x.phase && owned_in objects p x.object

-- at this place
abbrev pub is_due_at : List Object → ℕ → ℕ → DeathNotification → Bool
is_due_at objects p made x = is_due objects p x && (made == x.made)

-- the notifications of others that are due
abbrev pub due_in : List Object → ℕ → List DeathNotification → List DeathNotification
due_in objects p l = filter (λ x. not (x.process == p) && is_due objects p x) l

-- it has the place of one of these that is due
abbrev pub is_queued_in : List DeathNotification → List Object → ℕ → DeathNotification → Bool
is_queued_in deaths objects p y = list_any (is_due_at objects p y.made) deaths

-- it is armed, on one of these objects
abbrev pub is_armed_on : List Identity → DeathNotification → Bool
is_armed_on os x = is_armed x.phase && is_among os x.object

-- those are queued that are armed, on one of these objects
abbrev pub queued_on : List Identity → List DeathNotification → List DeathNotification
queued_on os l = changed (is_armed_on os) (λ x. record x { phase = Queued }) l
