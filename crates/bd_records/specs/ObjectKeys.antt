-- By what an object is found: its identity, or its owner and the ptr by which that knows it.
use Rattle.std.specs.Prelude.{Bool, Option, Some, None, cond}
use Rattle.bd_ways.specs.Words.{Identity, Object}
use Rattle.bd_keys.specs.declared.key.WordKey.{WordKey}

abbrev pub id_key : Object → Identity
id_key x = x.id

abbrev pub own_key : Object → WordKey
own_key x = record { process = x.owner; word = x.ptr }

-- What an option holds, if that passes the test, and else nothing.
abbrev pub kept : {A : Type 0} → (A → Bool) → Option A → Option A
kept q None = None
kept q (Some x) = cond (q x) (Some x) None
