-- Numbers of several parts.
use Rattle.std.specs.Prelude.{ℕ, ◌+◌, ◌*◌, ◌%◌, ◌^◌}

-- a number above another one of 32 bits, as one number: another for each two
abbrev pub pair : ℕ → ℕ → ℕ
pair high low = high * 2 ^ 32 + low

-- A number above another one of 64 bits, as one number: another for each two.
abbrev pub wide : ℕ → ℕ → ℕ
wide high low = high * 2 ^ 64 + low

-- a number of 128 bits for three numbers, the same for the same three
unfoldable pub mixed : ℕ → ℕ → ℕ → ℕ
mixed process place index = (place + process * 2 ^ 64 + index * 48965697300015686351278882912) % 2 ^ 128
