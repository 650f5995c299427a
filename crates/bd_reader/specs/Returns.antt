-- The returns that a thread reads and is told, one behind the other, as an engine gives them.
use Rattle.std.specs.Prelude.{◌+◌, ◌-◌, ◌/◌, ◌%◌, ◌^◌, ℕ, zero, suc, List, [], ◌∷◌, length, drop, Option, Some, None, Bool, false, nat_le, ◌==◌, ◌&&◌, ◌||◌, if◌then◌else◌}
use Rattle.bd_uapi.specs.Bytes.{word_at}
use Rattle.bd_reader.specs.declared.reader.Reader.{Reader}
use Rattle.bd_reader.specs.Readers.{is_completion, read, told}

-- its code, and behind that so many bytes as this has in its bits from 16 to 29
abbrev pub size_of : ℕ → ℕ
size_of code = 4 + code / 2 ^ 16 % 2 ^ 14

-- BR_TRANSACTION and BR_REPLY
abbrev pub is_call : ℕ → Bool
is_call code = (code == 0x80407202) || (code == 0x80407203)

abbrev pub is_whole : List ℕ → Bool
is_whole bytes = nat_le 4 (length bytes) && nat_le (size_of (word_at 0 bytes)) (length bytes)

-- by TF_ONE_WAY among the flags of a BR_TRANSACTION's record
abbrev pub is_one_way : List ℕ → Bool
is_one_way bytes = (word_at 0 bytes == 0x80407202) && (word_at 24 bytes % 2 == 1)

-- the return that bytes begin with: its code, and whether it is a one-way call
abbrev pub first_in : List ℕ → Option (ℕ × Bool)
first_in bytes = if is_whole bytes then Some (word_at 0 bytes, is_one_way bytes) else None

-- so many at most
abbrev pub returns_among : ℕ → List ℕ → List (ℕ × Bool)
returns_among zero bytes = []
returns_among (suc n) bytes = if is_whole bytes then (word_at 0 bytes, is_one_way bytes) ∷ returns_among n (drop (size_of (word_at 0 bytes)) bytes) else []

-- the returns that bytes begin with, as far as they are whole
abbrev pub returns_in : List ℕ → List (ℕ × Bool)
returns_in bytes = returns_among (length bytes) bytes

abbrev pub size_of_all : List (ℕ × Bool) → ℕ
size_of_all [] = 0
size_of_all (r ∷ rs) = size_of r.0 + size_of_all rs

-- ---- what is read

abbrev pub read_all : List (ℕ × Bool) → Reader → Reader
read_all [] s = s
read_all (r ∷ rs) s = read_all rs (read r.0 r.1 s)

-- A call or a reply ends a read.
abbrev pub up_to_call : List (ℕ × Bool) → List (ℕ × Bool)
up_to_call [] = []
up_to_call (r ∷ rs) = r ∷ (if is_call r.0 then [] else up_to_call rs)

-- where it begins, or all of them end
abbrev pub call_at : List (ℕ × Bool) → ℕ
call_at [] = 0
call_at (r ∷ rs) = if is_call r.0 then 0 else size_of r.0 + call_at rs

-- ---- what is told

-- One more is told while 76 bytes are left.
abbrev pub fits : ℕ → ℕ → Bool
fits code room = nat_le 76 room && nat_le (size_of code) room

-- the code of the next that is told
abbrev pub next_into : ℕ → Option (ℕ × Bool) → Option ℕ
next_into room None = None
next_into room (Some r) = if fits r.0 room then Some r.0 else None

abbrev pub fitting : ℕ → List (ℕ × Bool) → List (ℕ × Bool)
fitting room [] = []
fitting room (r ∷ rs) = if fits r.0 room then r ∷ fitting (room - size_of r.0) rs else []

abbrev pub told_all : List (ℕ × Bool) → Reader → Reader
told_all [] s = s
told_all (r ∷ rs) s = told_all rs (told r.0 s)

abbrev pub has_call : List (ℕ × Bool) → Bool
has_call [] = false
has_call (r ∷ rs) = is_call r.0 || has_call rs

abbrev pub has_completion : List (ℕ × Bool) → Bool
has_completion [] = false
has_completion (r ∷ rs) = is_completion r.0 || has_completion rs

-- these were told, and the thread was told of all that it has sent by them
abbrev pub is_all_told : List (ℕ × Bool) → Reader → Bool
is_all_told rs s = has_completion rs && (s.untold == 0)
