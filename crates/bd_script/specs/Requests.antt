-- What the verbs ask for.
use Rattle.std.specs.Prelude.{ℕ, ◌+◌, ◌-◌, ◌*◌, ◌%◌, ◌==◌, Bool, List, [], ◌∷◌, ◌++◌, length, replicate, pos, Option, Some, None, codes, if◌then◌else◌}
use Rattle.std.specs.List.{flat_map}
use Rattle.std.specs.Option.{option_map, unwrap_or}
use Rattle.std.specs.Str.{bytes_eq}
use Rattle.bd_uapi.specs.Bytes.{long}
use Rattle.bd_uapi.specs.declared.command.TransactionData.{TransactionData}
use Rattle.bd_uapi.specs.declared.command.Command.{Command}
use Rattle.bd_uapi.specs.declared.command.Command.TheVariants as command
use Rattle.bd_codec.specs.Spelling.{command_bytes}
use Rattle.bd_space.specs.declared.step.Request.{Request}
use Rattle.bd_space.specs.declared.step.Request.TheVariants as request
use Rattle.bd_script.specs.declared.script.Verb.{Verb}
use Rattle.bd_script.specs.declared.script.Verb.TheVariants as verb
use Rattle.bd_script.specs.Hex.{hex_of}
use Rattle.bd_script.specs.Numbers.{number_of}
use Rattle.bd_script.specs.Words.{◌>>=◌, one_of, two_of, three_of, four_of, word_of, long_of}
use Rattle.bd_script.specs.Text.{offsets_of}

-- ---- transactions and replies

-- the data, and zeros up to a multiple of 8
abbrev pub padded : List ℕ → List ℕ
padded bytes = bytes ++ replicate ((8 - length bytes % 8) % 8) 0

-- the area: the padded data, and then each offset in eight bytes
abbrev pub area_of : List ℕ → List ℕ → List ℕ
area_of bytes offsets = padded bytes ++ flat_map long offsets

-- the record: the offsets stand behind the padded data, and what the verb doesn't name is 0
abbrev pub data_of : ℕ → ℕ → ℕ → List ℕ → List ℕ → TransactionData
data_of target code flags bytes offsets = record {
  target = target;
  cookie = 0;
  code = code;
  flags = record { 0 = flags };
  sender_pid = pos 0;
  sender_euid = 0;
  data_size = length bytes;
  offsets_size = 8 * length offsets;
  buffer = 0;
  offsets = length (padded bytes);
}

-- a write of one command
abbrev pub write_of : Command → List ℕ → Request
write_of c area = request.Write (command_bytes c) area

-- with a target it is a transaction, with none a reply
abbrev pub command_with : Option ℕ → TransactionData → Command
command_with None sent = command.Reply sent
command_with (Some target) sent = command.Transaction sent

abbrev pub send : Option ℕ → ℕ → ℕ → List ℕ → List ℕ → Request
send target code flags bytes offsets =
    write_of (command_with target (data_of (unwrap_or target 0) code flags bytes offsets)) (area_of bytes offsets)

-- the words are code, flags, data and offsets
abbrev pub sent : Option ℕ → List (List ℕ) → Option Request
sent target args = do
  words ← four_of args
  code ← word_of words.0
  flags ← word_of words.1
  bytes ← hex_of words.2
  offsets ← offsets_of words.3
  Some (send target code flags bytes offsets)

abbrev pub tx_of : List (List ℕ) → Option Request
tx_of [] = None
tx_of (word ∷ args) = do
  target ← long_of word
  sent (Some target) args

-- ---- other verbs, by the words behind them

abbrev pub alone : {A : Type 0} → A → List (List ℕ) → Option A
alone x [] = Some x
alone x (word ∷ words) = None

-- one number, of 32 bits
abbrev pub one_number_of : List (List ℕ) → Option ℕ
one_number_of args = one_of args >>= word_of

-- one number, 0 for off or 1 for on
abbrev pub one_switch_of : List (List ℕ) → Option Bool
one_switch_of args = do
  word ← one_of args
  n ← number_of 1 word
  Some (n == 1)

-- one number, of 64 bits
abbrev pub one_long_of : List (List ℕ) → Option ℕ
one_long_of args = one_of args >>= long_of

-- two numbers, each read in its way
abbrev pub two_numbers_of : (List ℕ → Option ℕ) → (List ℕ → Option ℕ) → List (List ℕ) → Option (ℕ × ℕ)
two_numbers_of first second args = do
  words ← two_of args
  m ← first words.0
  n ← second words.1
  Some (m, n)

abbrev pub pointer_and_cookie_of : List (List ℕ) → Option (ℕ × ℕ)
pointer_and_cookie_of args = two_numbers_of long_of long_of args

abbrev pub handle_and_cookie_of : List (List ℕ) → Option (ℕ × ℕ)
handle_and_cookie_of args = two_numbers_of word_of long_of args

abbrev pub one_number : {A : Type 0} → (ℕ → A) → List (List ℕ) → Option A
one_number f args = option_map f (one_number_of args)

abbrev pub one_switch : {A : Type 0} → (Bool → A) → List (List ℕ) → Option A
one_switch f args = option_map f (one_switch_of args)

abbrev pub one_long : {A : Type 0} → (ℕ → A) → List (List ℕ) → Option A
one_long f args = option_map f (one_long_of args)

abbrev pub pointer_and_cookie : {A : Type 0} → (ℕ → ℕ → A) → List (List ℕ) → Option A
pointer_and_cookie f args = option_map (λ (p : ℕ × ℕ). f p.0 p.1) (pointer_and_cookie_of args)

abbrev pub handle_and_cookie : {A : Type 0} → (ℕ → ℕ → A) → List (List ℕ) → Option A
handle_and_cookie f args = option_map (λ (p : ℕ × ℕ). f p.0 p.1) (handle_and_cookie_of args)

abbrev pub open_of : List (List ℕ) → Option Request
open_of args = do
  words ← three_of args
  pid ← word_of words.0
  euid ← word_of words.1
  window ← word_of words.2
  Some (request.Open pid euid window)

abbrev pub stream_and_area : List (List ℕ) → Option Request
stream_and_area args = do
  words ← two_of args
  stream ← hex_of words.0
  area ← hex_of words.1
  Some (request.Write stream area)

-- ---- the verbs

-- verbs, and what each makes of the words behind it
abbrev pub Rows : Type 0 → Type 0
Rows A = List (List ℕ × (List (List ℕ) → Option A))

abbrev pub among : {A : Type 0} → Rows A → (List (List ℕ) → Option A) → List ℕ → List (List ℕ) → Option A
among [] otherwise name args = otherwise args
among (row ∷ rows) otherwise name args = if bytes_eq name row.0 then row.1 args else among rows otherwise name args

-- the commands that stand alone in a write
abbrev pub command_rows : Rows Command
command_rows =
    (codes "enter", alone command.EnterLooper)
    ∷ (codes "exitloop", alone command.ExitLooper)
    ∷ (codes "free", one_long command.FreeBuffer)
    ∷ (codes "increfs", one_number command.Increfs)
    ∷ (codes "acquire", one_number command.Acquire)
    ∷ (codes "release", one_number command.Release)
    ∷ (codes "decrefs", one_number command.Decrefs)
    ∷ []

abbrev pub longer_command_rows : Rows Command
longer_command_rows =
    (codes "increfsdone", pointer_and_cookie command.IncrefsDone)
    ∷ (codes "acquiredone", pointer_and_cookie command.AcquireDone)
    ∷ (codes "askdeath", handle_and_cookie command.RequestDeathNotification)
    ∷ (codes "cleardeath", handle_and_cookie command.ClearDeathNotification)
    ∷ (codes "deaddone", one_long command.DeadBinderDone)
    ∷ []

unfoldable pub longer_command_of : List ℕ → List (List ℕ) → Option Command
longer_command_of name args = among longer_command_rows (λ _. None) name args

unfoldable pub command_of : List ℕ → List (List ℕ) → Option Command
command_of name args = among command_rows (longer_command_of name) name args

abbrev pub request_rows : Rows Request
request_rows =
    (codes "open", open_of)
    ∷ (codes "attach", one_number request.Attach)
    ∷ (codes "manager", alone request.SetManager)
    ∷ (codes "spam", one_switch request.SetSpam)
    ∷ (codes "read", one_number request.Read)
    ∷ (codes "exitthread", alone request.ExitThread)
    ∷ (codes "exitprocess", alone request.ExitProcess)
    ∷ []

abbrev pub write_rows : Rows Request
write_rows =
    (codes "write", stream_and_area)
    ∷ (codes "tx", tx_of)
    ∷ (codes "reply", sent None)
    ∷ []

-- the write of a verb; that of a command has nothing in the area
unfoldable pub write_with : List ℕ → List (List ℕ) → Option Request
write_with name args = among write_rows (λ words. option_map (λ c. write_of c []) (command_of name words)) name args

-- the request of a verb
unfoldable pub request_of : List ℕ → List (List ℕ) → Option Request
request_of name args = among request_rows (write_with name) name args

abbrev pub post_of : List (List ℕ) → Option Verb
post_of [] = None
post_of (name ∷ args) = option_map verb.Post (request_of name args)

abbrev pub verb_rows : Rows Verb
verb_rows =
    (codes "look", alone verb.Look)
    ∷ (codes "await", one_number verb.Await)
    ∷ (codes "serve", alone verb.Serve)
    ∷ (codes "collect", alone verb.Collect)
    ∷ (codes "withdraw", alone verb.Withdraw)
    ∷ (codes "post", post_of)
    ∷ []

-- what a line's verb does, with the words behind it
unfoldable pub verb_of : List ℕ → List (List ℕ) → Option Verb
verb_of name args = among verb_rows (λ words. option_map verb.Call (request_of name words)) name args
