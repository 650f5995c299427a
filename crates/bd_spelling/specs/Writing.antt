-- What a writer was given, and when writing a record fails.
use Rattle.std.specs.Prelude.{◌≡◌, ℕ, List, ◌++◌, Result, Ok, Err, Option, Some, None}
use Rattle.std.specs.Io.KnownBytes.{Appends}
use Rattle.bd_spelling.specs.declared.fault.WriteError.{WriteError}
use Rattle.bd_spelling.specs.declared.fault.WriteError.TheVariants.{Unspellable, Refused}

-- What a writer was given, if it is known, has become longer by a beginning of these bytes.
abbrev pub Begins : Option (List ℕ) → Option (List ℕ) → List ℕ → Type 0
Begins old new bytes = (front rest : List ℕ) × (bytes ≡ front ++ rest) × Appends old new front

-- What a writer was given has become longer by all of these bytes, or by a beginning of them at an error.
abbrev pub Sends : {X E : Type 0} → Option (List ℕ) → Option (List ℕ) → Result X E → List ℕ → Type 0
Sends old new (Ok x) bytes = Appends old new bytes
Sends old new (Err e) bytes = Begins old new bytes

-- A result of writing: it is `Unspellable` only where what was to be written has no spelling, and good only where it has one.
abbrev pub Spells : {X : Type 0} → Result X WriteError → Type 0 → Type 0
Spells (Ok x) P = P
Spells (Err Unspellable) P = P → ⊥
Spells (Err Refused) P = Unit {0}

-- The length of a spelling: given where what is measured has one, and None where it has none.
abbrev pub Measures : Option ℕ → Type 0 → ℕ → Type 0
Measures (Some n) P len = P × (n ≡ len)
Measures None P len = P → ⊥
