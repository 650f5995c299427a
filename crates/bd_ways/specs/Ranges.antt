-- Parts of a list with all that pass a test.
use Rattle.std.specs.Prelude.{ℕ, ◌≡◌, ◌≤◌, Bool, false, List, take, drop}
use Rattle.std.specs.List.{list_any, between}

-- all that pass lie between the two indices
pub record IsWithin {A : Type 0} (q : A → Bool) (from to : ℕ) (l : List A) : Type 0 where
  pub before : list_any q (take from l) ≡ false
  pub after : list_any q (drop to l) ≡ false

-- a part of the list, with all that pass
pub record IsPartOf {A : Type 0} (q : A → Bool) (part l : List A) : Type 0 where
  pub from : ℕ
  pub to : ℕ
  pub order : from ≤ to
  pub within : IsWithin q from to l
  pub is : part ≡ between from to l
