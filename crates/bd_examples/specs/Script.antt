-- Short words for what worked examples are made of: parcels by their hex digits, records, steps and what is read.
use Rattle.std.specs.Prelude.{ℕ, ◌+◌, ◌-◌, ◌*◌, ◌==◌, nat_lt, List, [], ◌∷◌, ◌++◌, length, map, Some, None, if◌then◌else◌, pos, codes}
use Rattle.std.specs.List.{concat}
use Prim.Native.String.{String}
use Rattle.bd_uapi.specs.declared.command.TransactionData.{TransactionData}
use Rattle.bd_uapi.specs.declared.command.Command as command
use Rattle.bd_uapi.specs.declared.command.Command.TheVariants as commands
use Rattle.bd_uapi.specs.declared.command.Return.{Return}
use Rattle.bd_uapi.specs.declared.command.Return.TheVariants.{Noop}
use Rattle.std.specs.Int.{bytes_low_first}
use Rattle.bd_codec.specs.Spelling.{return_bytes}
use Rattle.bd_space.specs.declared.step.StepAnswer.{StepAnswer}
use Rattle.bd_space.specs.declared.step.StepAnswer.TheVariants.{Got}
use Rattle.bd_space.specs.declared.step.Parcel.{Parcel}
use Rattle.bd_space.specs.declared.step.Step.{Step}
use Rattle.bd_space.specs.declared.step.Step.TheVariants.{Open, SetManager, Command}
use Rattle.bd_space.specs.Words.{round_up}

abbrev pub digit : ℕ → ℕ
digit c = if nat_lt c 58 then (c - 48) else (c - 87)

-- The bytes that a text says by pairs of hex digits, with blanks between pairs.
abbrev pub unhex : List ℕ → List ℕ
unhex [] = []
unhex (a ∷ []) = []
unhex (a ∷ b ∷ cs) = if a == 32 then unhex (b ∷ cs) else ((16 * digit a + digit b) ∷ unhex cs)

abbrev pub hex : String → List ℕ
hex t = unhex (codes t)

-- A transaction's record as its receiver reads it: its data is so long, it has so many objects, and its buffer lies at that place of the
-- receiver's window.
abbrev pub seen : ℕ → ℕ → ℕ → ℕ → ℕ → ℕ → ℕ → ℕ → ℕ → TransactionData
seen target cookie code flags pid euid size objects place = record {
  target = target;
  cookie = cookie;
  code = code;
  flags = record { 0 = flags };
  sender_pid = pos pid;
  sender_euid = euid;
  data_size = size;
  offsets_size = 8 * objects;
  buffer = 65536 + place;
  offsets = 65536 + place + round_up size;
}

-- A transaction's record as its sender writes it: the data is at the front of the area, and the offsets are behind it.
abbrev pub sending : ℕ → ℕ → ℕ → List ℕ → List ℕ → TransactionData
sending target code flags bytes offsets =
    record (seen target 0 code flags 0 0 (length bytes) (length offsets) 0) { buffer = 0; offsets = round_up (length bytes) }

abbrev pub parcel : List ℕ → List ℕ → Parcel
parcel bytes offsets = record { bytes = bytes; offsets = concat (map (bytes_low_first 0 8) offsets) }

abbrev pub act : command.Command → Step
act c = Command c None

abbrev pub tx : ℕ → ℕ → ℕ → List ℕ → List ℕ → Step
tx target code flags bytes offsets = Command (commands.Transaction (sending target code flags bytes offsets)) (Some (parcel bytes offsets))

abbrev pub reply : ℕ → ℕ → List ℕ → List ℕ → Step
reply code flags bytes offsets = Command (commands.Reply (sending 0 code flags bytes offsets)) (Some (parcel bytes offsets))

abbrev pub enter : Step
enter = act commands.EnterLooper

abbrev pub base : List (ℕ × Step)
base = (0, Open 100 1000 4096) ∷ (0, SetManager) ∷ (0, enter) ∷ (1, Open 200 2000 4096) ∷ []

abbrev pub OBJ : List ℕ
OBJ = hex "852a6273000000000010000000000000 0020000000000000"

abbrev pub HOBJ : List ℕ
HOBJ = hex "852a6873000000000100000000000000 0000000000000000"

abbrev pub OBJ2 : List ℕ
OBJ2 = hex "852a6273000000000810000000000000 0820000000000000"

abbrev pub HOBJ2 : List ℕ
HOBJ2 = hex "852a6873000000000200000000000000 0000000000000000"

abbrev pub OBJ3 : List ℕ
OBJ3 = hex "852a6273000000001010000000000000 1020000000000000"

-- An object of the sender's own with pointer 0 and cookie 0; sent by the manager's process it is the manager's object.
abbrev pub OBJ0 : List ℕ
OBJ0 = hex "852a6273000000000000000000000000 0000000000000000"

-- The first object, sent weakly; below, a weak handle of number 1, as which its receiver reads it.
abbrev pub WOBJ : List ℕ
WOBJ = hex "852a6277000000000010000000000000 0020000000000000"

abbrev pub WHOBJ : List ℕ
WHOBJ = hex "852a6877000000000100000000000000 0000000000000000"

abbrev pub zeros : ℕ → List ℕ
zeros n = bytes_low_first 0 n 0

-- The answer to a read: the stream begins with a BR_NOOP, then come these returns, and beside it there is the parcel.
abbrev pub reads : List Return → List ℕ → List ℕ → StepAnswer
reads rs bytes offsets = Got (return_bytes Noop ++ concat (map return_bytes rs)) bytes (concat (map (bytes_low_first 0 8) offsets))
