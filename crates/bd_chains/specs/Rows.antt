-- Values of any lists as rows, each behind those that came before it.
use Rattle.std.specs.Prelude.{ℕ, ◌==◌, ◌+◌, Bool, false, ◌&&◌, List, [], ◌∷◌, Option, Some, None, if◌then◌else◌}
use Rattle.bd_chains.specs.declared.links.Held.{Held}

-- one of them: its slot, its list and what it holds
pub record Row (T : Type 0) : Type 0 where
  pub key : ℕ
  pub list : ℕ
  pub held : Held T

-- a link written after a key on list l is the one after o on list m: None stands for the list itself
abbrev pub hits : ℕ → Option ℕ → ℕ → Option ℕ → Bool
hits l None m None = l == m
hits l None m (Some y) = false
hits l (Some x) m None = false
hits l (Some x) m (Some y) = x == y

module _ {T : Type 0} where
  abbrev pub keys : List (Row T) → List ℕ
  keys [] = []
  keys (r ∷ rs) = r.key ∷ keys rs

  -- the keys of one list
  abbrev pub ring : ℕ → List (Row T) → List ℕ
  ring l [] = []
  ring l (r ∷ rs) = if r.list == l then r.key ∷ ring l rs else ring l rs

  abbrev pub values : List (Row T) → List T
  values [] = []
  values (r ∷ rs) = r.held.value ∷ values rs

  -- the values of one list
  abbrev pub values_on : ℕ → List (Row T) → List T
  values_on l [] = []
  values_on l (r ∷ rs) = if r.list == l then r.held.value ∷ values_on l rs else values_on l rs

  -- the list and the value of a slot
  abbrev pub row_at : ℕ → List (Row T) → Option (ℕ × Held T)
  row_at k [] = None
  row_at k (r ∷ rs) = if r.key == k then Some (r.list, r.held) else row_at k rs

  -- what f says of a list, or d where there is none
  abbrev pub on_some : {A : Type 0} → A → (ℕ → List (Row T) → A) → Option ℕ → List (Row T) → A
  on_some d f None rs = d
  on_some d f (Some l) rs = f l rs

  -- how many of one list are counted
  abbrev pub counted_on : ℕ → List (Row T) → ℕ
  counted_on l [] = 0
  counted_on l (r ∷ rs) = if (r.list == l) && r.held.counted then counted_on l rs + 1 else counted_on l rs

  abbrev pub drop_key : ℕ → List (Row T) → List (Row T)
  drop_key x [] = []
  drop_key x (r ∷ rs) = if r.key == x then drop_key x rs else r ∷ drop_key x rs
