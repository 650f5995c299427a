-- How many notifications of a process have a cookie, and how many of these are told.
use Rattle.std.specs.Prelude.{ℕ, ◌≡◌, ◌&&◌, Bool, List, Option, Some, None, count_by, if◌then◌else◌}
use Rattle.bd_ways.specs.Words.{DeathNotification}
use Rattle.bd_space.specs.Deaths.{is_told}
use Rattle.bd_keys.specs.declared.{key.WordKey.{WordKey}, map.WordMap.{WordMap}}
use Rattle.bd_keys.specs.{Keys.{same_word}, Look.{look}}
use Rattle.bd_deaths.specs.declared.sharers.Sharers.{Sharers}

abbrev pub cookie_of : DeathNotification → WordKey
cookie_of x = record { process = x.process; word = x.cookie }

abbrev pub has_cookie : WordKey → DeathNotification → Bool
has_cookie k x = same_word (cookie_of x) k

abbrev pub is_told_of : WordKey → DeathNotification → Bool
is_told_of k x = is_told x.phase && has_cookie k x

abbrev pub one_if : Bool → ℕ
one_if b = if b then 1 else 0

abbrev pub count_of : Option Sharers → ℕ
count_of None = 0
count_of (Some s) = s.count

abbrev pub told_of : Option Sharers → ℕ
told_of None = 0
told_of (Some s) = s.told

abbrev pub count_at : WordMap Sharers → WordKey → ℕ
count_at m k = count_of (look m k)

abbrev pub told_at : WordMap Sharers → WordKey → ℕ
told_at m k = told_of (look m k)

-- a cookie that none has leaves nothing behind
abbrev pub AreKept : WordMap Sharers → Type 0
AreKept m = (k : WordKey) → count_at m k ≡ 0 → look m k ≡ None

-- the map counts these
pub record AreShared (m : WordMap Sharers) (l : List DeathNotification) : Type 0 where
  pub counted : (k : WordKey) → count_at m k ≡ count_by (has_cookie k) l
  pub tolds : (k : WordKey) → told_at m k ≡ count_by (is_told_of k) l
  pub kept : AreKept m
