-- Whose objects those are on which notifications stand.
use Rattle.std.specs.Prelude.{List}
use Rattle.bd_ways.specs.Words.{Object, Reference}
use Rattle.bd_records.specs.{declared.records.Records.{Records}, Records.{RecordsAre}}

-- the records are those of these objects, and of some references
abbrev pub ObjectsAre : Records → List Object → Type 0
ObjectsAre t objects = (l : List Reference) × RecordsAre t objects l
