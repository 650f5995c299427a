-- What a whole script says.
use Rattle.std.specs.Prelude.{◌≡◌, ℕ, ◌+◌, List, [], ◌∷◌, ◌++◌, ⊤, Option, Some, None, Result, Ok, Err, Bool, true, ◌==◌, ◌||◌, nat_le, nat_lt, if◌then◌else◌, codes}
use Rattle.std.specs.List.{list_any}
use Rattle.std.specs.Str.{bytes_eq}
use Rattle.bd_uapi.specs.Limits.{most_seats}
use Rattle.bd_script.specs.declared.script.Line.{Line}
use Rattle.bd_script.specs.declared.script.Script.{Script}
use Rattle.bd_script.specs.declared.script.ScriptError.{ScriptError}
use Rattle.bd_script.specs.declared.script.ScriptError.TheVariants as error
use Rattle.bd_script.specs.declared.script.Trouble.{Trouble}
use Rattle.bd_script.specs.declared.script.Trouble.TheVariants.{Bad, Memory}
use Rattle.bd_script.specs.Numbers.{number_of}
use Rattle.bd_script.specs.Words.{◌>>=◌}
use Rattle.bd_script.specs.Text.{lines, words}
use Rattle.bd_script.specs.Requests.{verb_of}

-- a byte that is bad wherever it stands: outside ASCII, a TAB, a CR
abbrev pub is_bad : ℕ → Bool
is_bad b = nat_le 128 b || (b == 9) || (b == 13)

-- A line does nothing: it is empty, or a comment.
abbrev pub is_idle : List ℕ → Bool
is_idle [] = true
is_idle (b ∷ bs) = b == 35

-- the line `seats N`
abbrev pub seats_by : List (List ℕ) → Option ℕ
seats_by (name ∷ count ∷ []) = if bytes_eq name (codes "seats") then (do
  seats ← number_of most_seats count
  if seats == 0 then None else Some seats) else None
seats_by _ = None

unfoldable pub seats_of : List ℕ → Option ℕ
seats_of line = seats_by (words line)

-- the line `SEAT VERB ..` with this number, where there are so many seats
abbrev pub line_by : ℕ → ℕ → List (List ℕ) → Option Line
line_by seats number (count ∷ name ∷ args) = do
  seat ← number_of most_seats count
  verb ← if nat_lt seat seats then verb_of name args else None
  Some (record { number = number; seat = seat; verb = verb })
line_by seats number _ = None

unfoldable pub line_of : ℕ → ℕ → List ℕ → Option Line
line_of seats number line = line_by seats number (words line)

-- what was read so far: how many seats there are, 0 before that is said, and the lines that run
pub record Read : Type 0 where
  pub seats : ℕ
  pub lines : List Line

abbrev pub read : Script → Read
read script = record { seats = script.seats; lines = script.lines.items }

-- What was read, with one line more, if that line isn't bad.
unfoldable pub with_line : ℕ → List ℕ → Read → Option Read
with_line number line so_far =
    if list_any is_bad line then None
    else if is_idle line then Some so_far
    else if so_far.seats == 0 then (do
      seats ← seats_of line
      Some (record { seats = seats; lines = so_far.lines }))
    else (do
      one ← line_of so_far.seats number line
      Some (record { seats = so_far.seats; lines = so_far.lines ++ one ∷ [] }))

-- what a script says, or its first bad line, where the lines from this number on are these
abbrev pub goes_on : (Read → Result Read ℕ) → ℕ → Option Read → Result Read ℕ
goes_on rest number None = Err number
goes_on rest number (Some so_far) = rest so_far

abbrev pub read_from : ℕ → List (List ℕ) → Read → Result Read ℕ
read_from number [] so_far = Ok so_far
read_from number (line ∷ more) so_far = goes_on (read_from (number + 1) more) number (with_line number line so_far)

-- a script says how many seats there are
abbrev pub ends : Result Read ℕ → Result Read ℕ
ends (Ok so_far) = if so_far.seats == 0 then Err 0 else Ok so_far
ends (Err number) = Err number

-- what a text says, or the number of its first bad line
unfoldable pub script_of : List ℕ → Result Read ℕ
script_of text = ends (read_from 1 (lines text) (record { seats = 0; lines = [] }))

-- what is told of a line's trouble
abbrev pub error_at : Trouble → ℕ → ScriptError
error_at Bad number = error.Line number
error_at Memory number = error.Memory

-- The result says what was read, or names the first bad line, unless memory was refused.
abbrev pub SaysAs : Result Script ScriptError → Result Read ℕ → Type 0
SaysAs (Ok script) said = said ≡ Ok (read script)
SaysAs (Err (error.Line number)) said = said ≡ Err number
SaysAs (Err error.Memory) said = ⊤
