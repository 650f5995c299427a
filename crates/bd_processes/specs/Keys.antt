-- By what a pid is found.
use Rattle.std.specs.Prelude.{ℕ}
use Rattle.bd_keys.specs.declared.key.WordKey.{WordKey}

abbrev pub pid_key : ℕ → WordKey
pid_key pid = record { process = 0; word = pid }
