-- How a script's text is cut.
use Rattle.std.specs.Prelude.{ℕ, List, [], ◌∷◌, length, Option, Some, None, not, nat_le, ◌==◌, if◌then◌else◌}
use Rattle.std.specs.List.{filter, slice_split}
use Rattle.std.specs.Str.{bytes_eq}
use Rattle.bd_script.specs.Words.{◌>>=◌, long_of}

-- the lines, between newlines
abbrev pub lines : List ℕ → List (List ℕ)
lines text = slice_split (λ b. b == 10) text

-- the words of a line, between one or more spaces
abbrev pub words : List ℕ → List (List ℕ)
words line = filter (λ word. not (length word == 0)) (slice_split (λ b. b == 32) line)

-- numbers of 64 bits, if each of the words spells one
abbrev pub longs_of : List (List ℕ) → Option (List ℕ)
longs_of [] = Some []
longs_of (word ∷ words) = do
  n ← long_of word
  ns ← longs_of words
  Some (n ∷ ns)

-- at most 524288 numbers with commas between them, or a dash for none
abbrev pub offsets_of : List ℕ → Option (List ℕ)
offsets_of word =
    if bytes_eq word (45 ∷ []) then Some []
    else if nat_le (length (slice_split (λ b. b == 44) word)) 524288 then longs_of (slice_split (λ b. b == 44) word)
    else None
