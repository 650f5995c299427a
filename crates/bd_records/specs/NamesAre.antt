-- When the records are those of a space's names.
use Rattle.std.specs.Prelude.{List, false, ℕ, ◌≡◌}
use Rattle.bd_ways.specs.Words.{Identity, Name}
use Rattle.bd_space.specs.Names.{has_number_past_limit, named_in, number_in}
use Rattle.bd_records.specs.{Names.{named_by, number_of}, Sound.{Sound}, declared.names.Names.{Names}}

pub record NamesAre (t : Names) (l : List Name) : Type 0 where
  pub sound : Sound l
  pub objects_are : (p n : ℕ) → named_in l p n ≡ named_by t p n
  pub numbers_are : (p : ℕ) (o : Identity) → number_in l p o ≡ number_of t p o
  pub fits : has_number_past_limit l ≡ false

-- the same names
abbrev pub KeepsNames : Names → Names → Type 0
KeepsNames old new = (l : List Name) → NamesAre old l → NamesAre new l
