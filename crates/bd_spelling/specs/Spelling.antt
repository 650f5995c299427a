-- The one spelling of each entry, which the versions of the format share.
use Rattle.std.specs.Prelude.{◌≡◌, ℕ, ◌<◌, ◌^◌, Bool, true, false, List, [], ◌∷◌, ◌++◌, length, Option, Some, None}
use Rattle.bd_uapi.specs.Bytes.{word}
use Rattle.bd_uapi.specs.declared.command.Command.{Command}
use Rattle.bd_uapi.specs.declared.command.Command.TheVariants as command
use Rattle.bd_codec.specs.Spelling.{command_bytes, IsCommand}
use Rattle.bd_space.specs.declared.step.Parcel.{Parcel}
use Rattle.bd_space.specs.declared.step.Step.{Step}
use Rattle.bd_space.specs.declared.step.Step.TheVariants as step
use Rattle.bd_space.specs.declared.step.StepAnswer.{StepAnswer}
use Rattle.bd_space.specs.declared.step.StepAnswer.TheVariants as answer
use Rattle.bd_space.specs.declared.step.Entry.{Entry}
use Rattle.bd_spelling.specs.declared.versions.Version.{Version}
use Rattle.bd_spelling.specs.declared.versions.Version.TheVariants.{One, Two, Three}
use Rattle.bd_spelling.specs.Codes.{bit, note_number, cause_number, fault_number}

-- a length in four bytes, and that many bytes
abbrev pub block : List ℕ → List ℕ
block bytes = word (length bytes) ++ bytes

-- ---- steps and answers

-- Whether a journal of this version can have the step SetSpam.
abbrev pub has_spam : Version → Bool
has_spam One = false
has_spam Two = true
has_spam Three = true

-- a parcel can stand beside a transaction and a reply
abbrev pub carries : Command → Bool
carries (command.Transaction t) = true
carries (command.Reply t) = true
carries (command.FreeBuffer p) = false
carries (command.Increfs n) = false
carries (command.Acquire n) = false
carries (command.Release n) = false
carries (command.Decrefs n) = false
carries (command.IncrefsDone p c) = false
carries (command.AcquireDone p c) = false
carries command.EnterLooper = false
carries command.ExitLooper = false
carries (command.RequestDeathNotification n c) = false
carries (command.ClearDeathNotification n c) = false
carries (command.DeadBinderDone c) = false

abbrev pub parcel_bytes : Option Parcel → List ℕ
parcel_bytes None = 0 ∷ []
parcel_bytes (Some p) = 1 ∷ block p.bytes ++ block p.offsets

abbrev pub step_bytes : Step → List ℕ
step_bytes (step.Open pid euid window) = 0 ∷ word pid ++ word euid ++ word window
step_bytes (step.Attach pid) = 1 ∷ word pid
step_bytes step.SetManager = 2 ∷ []
step_bytes (step.Command c parcel) = 3 ∷ block (command_bytes c) ++ parcel_bytes parcel
step_bytes (step.Read limit) = 4 ∷ word limit
step_bytes step.ExitThread = 5 ∷ []
step_bytes step.ExitProcess = 6 ∷ []
step_bytes (step.SetSpam on) = 7 ∷ bit on ∷ []

abbrev pub answer_bytes : StepAnswer → List ℕ
answer_bytes answer.Opened = 0 ∷ []
answer_bytes answer.Set = 1 ∷ []
answer_bytes answer.Exited = 2 ∷ []
answer_bytes answer.Accepted = 3 ∷ []
answer_bytes (answer.Noted n) = 4 ∷ note_number n ∷ []
answer_bytes (answer.Stopped x) = 5 ∷ cause_number x ∷ []
answer_bytes (answer.Got stream bytes offsets) = 6 ∷ block stream ++ block bytes ++ block offsets
answer_bytes (answer.Refused f) = 7 ∷ fault_number f ∷ []

abbrev pub entry_bytes : Entry → List ℕ
entry_bytes e = word e.seat ++ block (step_bytes e.step) ++ block (answer_bytes e.answer)

-- ---- what has a spelling in a version: each number and length has its width, as each number of the types has, a parcel
-- stands beside no other command, and the version has the step and so many seats

abbrev pub IsBlock : List ℕ → Type 0
IsBlock bytes = length bytes < 2 ^ 32

abbrev pub IsParcel : Command → Option Parcel → Type 0
IsParcel c None = Unit {0}
IsParcel c (Some p) = (carries c ≡ true) × IsBlock p.bytes × IsBlock p.offsets

-- spam says whether there is a byte for SetSpam
abbrev pub IsStepWith : Bool → Step → Type 0
IsStepWith spam (step.Open pid euid window) = (pid < 2 ^ 32) × (euid < 2 ^ 32) × (window < 2 ^ 32)
IsStepWith spam (step.Attach pid) = pid < 2 ^ 32
IsStepWith spam step.SetManager = Unit {0}
IsStepWith spam (step.SetSpam on) = spam ≡ true
IsStepWith spam (step.Command c parcel) = IsCommand c × IsParcel c parcel
IsStepWith spam (step.Read limit) = limit < 2 ^ 32
IsStepWith spam step.ExitThread = Unit {0}
IsStepWith spam step.ExitProcess = Unit {0}

abbrev pub IsStepIn : Version → Step → Type 0
IsStepIn v s = IsStepWith (has_spam v) s

abbrev pub IsAnswer : StepAnswer → Type 0
IsAnswer answer.Opened = Unit {0}
IsAnswer answer.Set = Unit {0}
IsAnswer answer.Exited = Unit {0}
IsAnswer answer.Accepted = Unit {0}
IsAnswer (answer.Noted n) = Unit {0}
IsAnswer (answer.Stopped x) = Unit {0}
IsAnswer (answer.Got stream bytes offsets) = IsBlock stream × IsBlock bytes × IsBlock offsets
IsAnswer (answer.Refused f) = Unit {0}

pub record IsEntryWith (spam : Bool) (seats : ℕ) (e : Entry) : Type 0 where
  pub seat : e.seat < seats
  pub step : IsStepWith spam e.step
  pub step_block : IsBlock (step_bytes e.step)
  pub answer : IsAnswer e.answer
  pub answer_block : IsBlock (answer_bytes e.answer)

abbrev pub IsEntryIn : Version → ℕ → Entry → Type 0
IsEntryIn v seats e = IsEntryWith (has_spam v) seats e

-- the bytes spell the step's command; of a step without one they say nothing
abbrev pub SpellsCommand : Step → List ℕ → Type 0
SpellsCommand (step.Command c parcel) bytes = (bytes ≡ command_bytes c) × IsCommand c
SpellsCommand (step.Open pid euid window) bytes = Unit {0}
SpellsCommand (step.Attach pid) bytes = Unit {0}
SpellsCommand step.SetManager bytes = Unit {0}
SpellsCommand (step.SetSpam on) bytes = Unit {0}
SpellsCommand (step.Read limit) bytes = Unit {0}
SpellsCommand step.ExitThread bytes = Unit {0}
SpellsCommand step.ExitProcess bytes = Unit {0}

-- The step can be written, in the versions that are written today.
abbrev pub IsStep : Step → Type 0
IsStep s = IsStepWith true s

abbrev pub IsEntry : ℕ → Entry → Type 0
IsEntry seats e = IsEntryWith true seats e
