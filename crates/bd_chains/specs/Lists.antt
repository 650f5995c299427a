-- Lists that are found by what their values have in common: N is the number of each that has one.
use Rattle.std.specs.Prelude.{ℕ, ◌≡◌, Bool, true, List, [], ◌∷◌, Option, Some, min}
use Rattle.bd_chains.specs.{declared.chains.Chains.{Chains}, Rows.{Row}, Columns.{is_open, Holds, room_of}}

module _ {K T : Type 0} (key : T → K) (counts : T → Bool) where
  -- each is on the list of its key, which counts it if it is to
  abbrev pub AreListed : (K → Option ℕ) → List (Row T) → Type 0
  AreListed N [] = Unit {0}
  AreListed N (r ∷ rs) = ((N (key r.held.value) ≡ Some r.list) × (r.held.counted ≡ counts r.held.value)) × AreListed N rs

  -- the rows are those of the lists, and a number is of one list alone
  pub record Shows (same : K → K → Bool) (N : K → Option ℕ) (t : Chains T) (rs : List (Row T)) : Type 0 where
    pub holds : Holds t rs
    pub listed : AreListed N rs
    pub opened : (k : K) (n : ℕ) → N k ≡ Some n → is_open t n ≡ true
    pub one_list : (k l : K) (n : ℕ) → N k ≡ Some n → N l ≡ Some n → same k l ≡ true

-- so many values more take no memory, each maybe the first of its list
abbrev pub lists_room : {T : Type 0} → Chains T → ℕ → ℕ
lists_room t numbers = min (room_of t) numbers
