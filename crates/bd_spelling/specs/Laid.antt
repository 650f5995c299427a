-- Bytes in memory of the caller's.
use Rattle.std.specs.Prelude.{ℕ, ◌≡◌, ◌+◌, ◌++◌, List, length, take, drop, if◌then◌else◌, nat_le}

-- the bytes stand at this place, and end at that; what lies before and behind them hasn't changed
pub record IsLaid (at : ℕ) (bytes old new : List ℕ) (end : ℕ) : Type 0 where
  pub ends : end ≡ at + length bytes
  pub front : take end new ≡ take at old ++ bytes
  pub rest : drop end new ≡ drop end old
  pub same : length new ≡ length old

-- with room for all of them the memory begins with the bytes; with less nothing has changed
abbrev pub IsLaidIfRoom : List ℕ → List ℕ → List ℕ → Type 0
IsLaidIfRoom bytes old new = new ≡ (if nat_le (length bytes) (length old) then bytes ++ drop (length bytes) old else old)
