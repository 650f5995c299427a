-- What a table's functions say of the spaces that it stands for.
use Rattle.std.specs.Prelude.{ℕ, ◌≡◌}
use Rattle.bd_ways.specs.Words.{Space}
use Rattle.bd_keys.specs.Tables as tables

-- Of every space for which a table stands (P) its answer x is what f says of the space.
abbrev pub Tells : {A : Type 0} → (Space → Type 0) → A → (Space → A) → Type 0
Tells = tables.Tells

-- A change makes of every space for which the table stood the space that f makes of it, and for that the table stands afterwards.
abbrev pub Makes : (Space → Type 0) → (Space → Type 0) → (Space → Space) → Type 0
Makes = tables.Makes

-- ---- where a caller says besides what the table doesn't have

-- `Tells`, for those spaces alone of which C holds.
abbrev pub TellsWhere : {A : Type 0} → (Space → Type 0) → (Space → Type 0) → A → (Space → A) → Type 0
TellsWhere P C x f = (s : Space) → P s → C s → x ≡ f s

-- `Makes`, for those spaces alone of which C holds.
abbrev pub MakesWhere : (Space → Type 0) → (Space → Type 0) → (Space → Type 0) → (Space → Space) → Type 0
MakesWhere P C Q f = (s : Space) → P s → C s → Q (f s)

-- The next step has this place in the history.
abbrev pub IsAt : ℕ → Space → Type 0
IsAt place s = s.steps ≡ place

-- `Makes`, for those spaces alone whose next step has this place.
abbrev pub MakesAt : ℕ → (Space → Type 0) → (Space → Type 0) → (Space → Space) → Type 0
MakesAt place P Q f = MakesWhere P (IsAt place) Q f
