-- Decimal numbers in text.
use Rattle.std.specs.Prelude.{ℕ, ◌+◌, ◌*◌, ◌-◌, nat_lt, nat_le, ◌&&◌, Bool, List, [], ◌∷◌, length, Option, Some, None, if◌then◌else◌}
use Rattle.std.specs.List.{list_all}

abbrev pub is_digit : ℕ → Bool
is_digit b = nat_le 48 b && nat_le b 57

-- the number of decimal digits that stand behind those of n
abbrev pub decimal : ℕ → List ℕ → ℕ
decimal n [] = n
decimal n (b ∷ bs) = decimal (10 * n + (b - 48)) bs

-- the number with one more digit, if it is one and 64 bits are enough
abbrev pub with_digit : ℕ → ℕ → Option ℕ
with_digit n b = if is_digit b && nat_lt (10 * n + (b - 48)) 18446744073709551616 then Some (10 * n + (b - 48)) else None

-- 1 to 20 digits, and the number that they spell at most this
unfoldable pub number_of : ℕ → List ℕ → Option ℕ
number_of most word =
    if nat_le 1 (length word) && nat_le (length word) 20 && (list_all is_digit word && nat_le (decimal 0 word) most)
    then Some (decimal 0 word) else None
