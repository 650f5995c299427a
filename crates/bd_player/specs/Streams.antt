-- The returns of a stream, one after the other.
use Rattle.std.specs.Prelude.{ℕ, zero, suc, List, [], ◌∷◌, length, drop, Result, Ok, Err}
use Rattle.bd_uapi.specs.declared.command.Return.{Return}
use Rattle.bd_uapi.specs.declared.fault.Fault.{Fault}
use Rattle.bd_codec.specs.Reading.{return_at}

-- the return that was read, if one was, and then those behind its bytes
abbrev pub next_of : (ℕ → List Return) → Result (Return × ℕ) Fault → List Return
next_of behind (Ok (r, len)) = r ∷ behind len
next_of behind (Err f) = []

-- the returns that are read one after the other, at most so many
abbrev pub returns_to : ℕ → List ℕ → List Return
returns_to zero bytes = []
returns_to (suc n) bytes = next_of (λ len. returns_to n (drop len bytes)) (return_at bytes)

-- all that a stream spells, each of which takes a byte or more
abbrev pub returns_in : List ℕ → List Return
returns_in bytes = returns_to (length bytes) bytes
