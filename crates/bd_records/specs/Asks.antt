-- What processes asked for, by the records of their names.
use Rattle.std.specs.Prelude.{Bool, not, ℕ}
use Rattle.bd_ways.specs.Words.{Identity}
use Rattle.bd_records.specs.{Count.{is_empty}, Counting.{asked_of}, Names.{name_at}, declared.names.Names.{Names}}

abbrev pub asks : Names → ℕ → Identity → Bool
asks t p o = not (is_empty (asked_of (name_at t p o)))
