-- What an object table stands for: the objects of a space, with the references to them and their names, which have records, and
-- their death notifications, in a table of their own.
use Rattle.std.specs.Prelude.{ℕ, ◌≡◌, List, Option}
use Rattle.bd_ways.specs.Words.{Identity, Object, Reference, Name, DeathNotification, Space}
use Rattle.bd_ways.specs.Tables.{IsAt}
use Rattle.bd_processes.specs.declared.table.ProcessTable.{ProcessTable}
use Rattle.bd_processes.specs.Stands.{ProcessesAre}
use Rattle.bd_records.specs.{Records.{RecordsAre}, Since.{Settled}}
use Rattle.bd_deaths.specs.Stands.{DeathsAre}
use Rattle.bd_objects.specs.declared.table.ObjectTable.{ObjectTable}

pub record Stands (t : ObjectTable) (objects : List Object) (references : List Reference) (names : List Name)
    (deaths : List DeathNotification) : Type 0 where
  pub records_are : RecordsAre t.records objects references
  pub names_are : Settled t.records names
  pub deaths_are : DeathsAre t.deaths deaths

abbrev pub StandsFor : ObjectTable → Space → Type 0
StandsFor t s = Stands t s.objects s.references s.names s.deaths

-- the new table stands for what the old one does
abbrev pub IsKept : ObjectTable → ObjectTable → Type 0
IsKept old new = (s : Space) → StandsFor old s → StandsFor new s

-- ---- what the table doesn't have, and a caller says

-- whose live processes the table has
abbrev pub HasProcesses : ProcessTable → Space → Type 0
HasProcesses processes s = ProcessesAre processes s.processes

-- this is the context manager's object
abbrev pub HasManager : Option Identity → Space → Type 0
HasManager manager s = s.manager ≡ manager

-- both
abbrev pub IsAtWith : ℕ → Option Identity → Space → Type 0
IsAtWith place manager s = IsAt place s × HasManager manager s
