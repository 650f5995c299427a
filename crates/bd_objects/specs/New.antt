-- What a caller says of what a table takes in: that it is new, and that what it refers to is there.
use Rattle.std.specs.Prelude.{ℕ, ◌≡◌, ◌++◌, true, false, List, Option, Some, None, is_some, find}
use Rattle.bd_ways.specs.Words.{list_all, Identity, Item, Object, Space}
use Rattle.bd_ways.specs.Tables.{IsAt}
use Rattle.bd_space.specs.References.{object_in, own_in, owned_in}
use Rattle.bd_space.specs.Deaths.{is_notification, uncleared_in}
use Rattle.bd_records.specs.New.{AreNewIn}
use Rattle.bd_objects.specs.Stands.{HasManager}

-- nothing was made at this place before, and the process has no object with ptr 0
pub record IsNewManager (place p : ℕ) (s : Space) : Type 0 where
  pub at : IsAt place s
  pub id : object_in s.objects (record { place = place; index = 0 }) ≡ None
  pub ptr : own_in s.objects p 0 ≡ None

-- the objects that a delivery makes at this place are new
pub record MakesNew (place : ℕ) (managed : Option Identity) (made : List Object) (s : Space) : Type 0 where
  pub at : IsAt place s
  pub manages : HasManager managed s
  pub new : AreNewIn s.objects made

-- the object is there
abbrev pub IsHere : Identity → List Object → Type 0
IsHere o objects = is_some (object_in objects o) ≡ true

-- by the step of this place, with this context manager's object: the process asks for an object that is there, and isn't its own
pub record IsAsked (place : ℕ) (managed : Option Identity) (p : ℕ) (o : Identity) (s : Space) : Type 0 where
  pub at : IsAt place s
  pub manages : HasManager managed s
  pub here : IsHere o s.objects
  pub others : owned_in s.objects p o ≡ false

-- what a delivery at this place makes is new, and with that all is there that its buffer is to refer to
pub record IsDelivered (place : ℕ) (managed : Option Identity) (made : List Object) (items : List Item) (target : Option Identity) (s : Space) : Type 0 where
  pub makes : MakesNew place managed made s
  pub carried : list_all (λ x. is_some (object_in (s.objects ++ made) x.object)) items ≡ true
  pub aimed : (o : Identity) → target ≡ Some o → IsHere o (s.objects ++ made)

-- no notification was made at this place before, and the process has no uncleared one on the object
pub record IsNewDeath (place p : ℕ) (o : Identity) (s : Space) : Type 0 where
  pub at : IsAt place s
  pub made : find (is_notification place) s.deaths ≡ None
  pub asked : uncleared_in s.deaths p o ≡ None
