-- A one-way call that is handed out.
use Rattle.std.specs.Prelude.{true}
use Rattle.bd_ways.specs.Words.{Turn}

abbrev pub hand_turn : Turn → Turn
hand_turn t = record t { handed = true }
