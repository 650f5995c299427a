-- Changes of a table that take no room, one after the other.
use Rattle.std.proofs.Common.{ℕ, arith}
use Rattle.bd_keys.specs.Tables.{Uses}

pub uses_none : {T : Type 0} {room count : T → ℕ} (t : T) → Uses room count t t 0
uses_none t = record { room = omega arith; count = omega arith }

pub uses_then : {T : Type 0} {room count : T → ℕ} {t u v : T} → Uses room count t u 0 → Uses room count u v 0
    → Uses room count t v 0
uses_then a b = record { room = omega (arith, a.room, b.room); count = omega (arith, a.count, b.count) }
