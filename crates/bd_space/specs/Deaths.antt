-- Death notifications: what BC_REQUEST_DEATH_NOTIFICATION, BC_CLEAR_DEATH_NOTIFICATION and BC_DEAD_BINDER_DONE check and change.
use Rattle.std.specs.Prelude.{ℕ, ◌==◌, Bool, true, false, not, ◌&&◌, List, [], ◌∷◌, ◌++◌, Option, Result, find, filter, is_some, if◌then◌else◌}
use Rattle.bd_space.specs.{Words.{Note, Identity, DeathNotification, Phase, Armed, Queued, Told, Done, OfProcess, OfThread, WorkKind, is_some_and, same, ok_or, unless, when, and_then, changed, Space}, Seats.lives_in, References.object_in, Names.named, Todo.owe}

-- the uncleared notification that stands on a process's name of the object
abbrev pub is_uncleared_on : ℕ → Identity → DeathNotification → Bool
is_uncleared_on p o x = not x.cleared && (x.process == p) && same x.object o

abbrev pub uncleared_in : List DeathNotification → ℕ → Identity → Option DeathNotification
uncleared_in deaths p o = find (is_uncleared_on p o) deaths

abbrev pub is_notification : ℕ → DeathNotification → Bool
is_notification made x = x.made == made

unfoldable pub without_death : Space → ℕ → Space
without_death s made = record s { deaths = filter (λ x. not (is_notification made x)) s.deaths }

unfoldable pub with_phase : Space → ℕ → Phase → Space
with_phase s made phase = record s { deaths = changed (is_notification made) (λ x. record x { phase = phase }) s.deaths }

-- ---- asking

unfoldable pub request_check : Space → ℕ → ℕ → Result Identity Note
request_check s p n =
    and_then (ok_or (named s p n) Note.NoSuchNumber)
    (λ o. unless (when (is_some (uncleared_in s.deaths p o)) Note.AlreadyAsked) o)

unfoldable pub with_death : Space → ℕ → Identity → ℕ → Phase → Space
with_death s p o cookie phase =
    record s { deaths = s.deaths ++ record { made = s.steps; process = p; object = o; cookie = cookie; phase = phase; cleared = false } ∷ [] }

-- armed while the owner lives; else the process is told at once
unfoldable pub requested : Space → ℕ → Identity → ℕ → Space
requested s p o cookie =
    if is_some_and (object_in s.objects o) (λ x. lives_in s.processes x.owner) then with_death s p o cookie Armed
    else owe (with_death s p o cookie Queued) (OfProcess p) (WorkKind.Death s.steps)

-- ---- clearing

-- the notification that stands on the name, which has to have this cookie
unfoldable pub clear_check : Space → ℕ → ℕ → ℕ → Result DeathNotification Note
clear_check s p n cookie =
    and_then (ok_or (named s p n) Note.NoSuchNumber)
    (λ o. and_then (ok_or (uncleared_in s.deaths p o) Note.NoneAsked) (λ x. unless (when (not (x.cookie == cookie)) Note.NoneAsked) x))

abbrev pub is_out : Phase → Bool
is_out Queued = true
is_out Told = true
is_out _ = false

-- queued or told it is marked, and no longer belongs to the name
unfoldable pub mark_cleared : Space → ℕ → Space
mark_cleared s made = record s { deaths = changed (is_notification made) (λ x. record x { cleared = true }) s.deaths }

-- it goes, and the thread is told
unfoldable pub death_ended : Space → ℕ → DeathNotification → Space
death_ended s seat x = owe (without_death s x.made) (OfThread seat) (WorkKind.Cleared x.cookie)

-- armed or done it goes
unfoldable pub cleared : Space → ℕ → DeathNotification → Space
cleared s seat x = if is_out x.phase then mark_cleared s x.made else death_ended s seat x

-- ---- acknowledging

abbrev pub is_told : Phase → Bool
is_told Told = true
is_told _ = false

abbrev pub is_told_with : ℕ → ℕ → DeathNotification → Bool
is_told_with p cookie x = is_told x.phase && (x.process == p) && (x.cookie == cookie)

-- the least told notification with this cookie
unfoldable pub told_death : Space → ℕ → ℕ → Option DeathNotification
told_death s p cookie = find (is_told_with p cookie) s.deaths

-- a marked one goes, and the thread is told; else it is done
unfoldable pub death_done : Space → ℕ → DeathNotification → Space
death_done s seat x = if x.cleared then death_ended s seat x else with_phase s x.made Done
