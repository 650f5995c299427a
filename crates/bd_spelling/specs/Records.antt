-- The history that a record tells.
use Rattle.bd_space.specs.Histories.{History, history_of}
use Rattle.bd_spelling.specs.declared.record.Record.{Record}

abbrev pub history_in : Record → History
history_in r = history_of r.seats r.entries
