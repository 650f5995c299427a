-- Bytes in hex: two digits a byte, or a dash for none.
use Rattle.std.specs.Prelude.{ℕ, ◌+◌, ◌-◌, ◌*◌, ◌/◌, ◌%◌, nat_lt, nat_le, ◌&&◌, List, [], ◌∷◌, length, Option, Some, None, if◌then◌else◌}
use Rattle.std.specs.List.{flat_map}
use Rattle.std.specs.Str.{bytes_eq}
use Rattle.bd_script.specs.Words.{◌>>=◌}

abbrev pub digit_of : ℕ → Option ℕ
digit_of b = if nat_le 48 b && nat_le b 57 then Some (b - 48) else if nat_le 97 b && nat_le b 102 then Some (b - 97 + 10) else None

abbrev pub hex_digit : ℕ → ℕ
hex_digit n = if nat_lt n 10 then 48 + n else 97 - 10 + n

-- the two digits of a byte
abbrev pub hex_pair : ℕ → List ℕ
hex_pair b = hex_digit (b / 16) ∷ hex_digit (b % 16) ∷ []

abbrev pub hex_word : List ℕ → List ℕ
hex_word [] = 45 ∷ []
hex_word (b ∷ bs) = flat_map hex_pair (b ∷ bs)

-- the bytes that pairs of digits spell
abbrev pub pairs_of : List ℕ → Option (List ℕ)
pairs_of [] = Some []
pairs_of (high ∷ []) = None
pairs_of (high ∷ low ∷ rest) = do
  h ← digit_of high
  l ← digit_of low
  bytes ← pairs_of rest
  Some ((h * 16 + l) ∷ bytes)

-- the bytes that a word spells, if there are at most 4194304
abbrev pub hex_of : List ℕ → Option (List ℕ)
hex_of word =
    if bytes_eq word (45 ∷ []) then Some []
    else if nat_lt 0 (length word) && nat_le (length word) 8388608 then pairs_of word
    else None
