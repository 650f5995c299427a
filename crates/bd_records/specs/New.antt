-- Objects that are new.
use Rattle.std.specs.Prelude.{List, None, [], true, ◌++◌, ◌∷◌, ◌≡◌}
use Rattle.bd_ways.specs.{Local.{is_among}, Words.{Identity, Object}}
use Rattle.bd_space.specs.References.{object_in, own_in}

-- No object of the list has the identity of this one, and its owner has none there with its pointer.
abbrev pub IsNewIn : List Object → Object → Type 0
IsNewIn objects x = (object_in objects x.id ≡ None) × (own_in objects x.owner x.ptr ≡ None)

-- Each of these objects is new, beside the list and beside those before it.
abbrev pub AreNewIn : List Object → List Object → Type 0
AreNewIn objects [] = Unit {0}
AreNewIn objects (x ∷ xs) = IsNewIn objects x × AreNewIn (objects ++ x ∷ []) xs

-- Each identity of the second list stands in the first, too.
abbrev pub HasAll : List Identity → List Identity → Type 0
HasAll these others = (o : Identity) → is_among others o ≡ true → is_among these o ≡ true
