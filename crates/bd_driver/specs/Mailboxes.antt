-- Mailboxes.
use Rattle.std.specs.Prelude.{◌≡◌, ℕ, ◌+◌, ◌-◌, ◌≤◌, List, [], ◌++◌, length, ◌⊎◌}
use mathlib.Core.Option.{Option, none, some}
use lib.ListN.{get_elem?}
use Rattle.bd_space.specs.{declared.step.Entry.{Entry}, declared.step.Request.{Request}, declared.step.Answer.{Answer}}
use Rattle.bd_space.specs.{Histories.{HasPlace, BeginsWith, history_of}, Runs.{AllBy, IsRun, HasEntry, IsAtLimit}}
use Rattle.bd_driver.specs.{Views.{places}, declared.view.Handover.{Handover}, declared.view.Handover.TheVariants.{Shut, Open, Waiting}}
use Rattle.bd_driver.specs.{declared.view.Picking.{Picking}, declared.view.Picking.TheVariants.{Nothing, Picked}, declared.outcome.Why.{Why}}
use Rattle.bd_driver.specs.{declared.outcome.Why.TheVariants.{Taken, NoMemory, HistoryFull, Withdrawn}, declared.outcome.Outcome.{Outcome}}
use Rattle.bd_driver.specs.{declared.outcome.Outcome.TheVariants.{Done, Back, Handed}, declared.slot.Slot.{Slot}}
use Rattle.bd_driver.specs.declared.slot.Slot.TheVariants.{Posted, Answered, Empty}

-- What a mailbox is to the rule. Posted and after, it has the request and how long the history was that its poster had
-- seen; once picked, where its published entries start and how many there are.
pub data Mailbox : Type 0 where
  shut : Mailbox
  empty : Mailbox
  posted : Request → ℕ → Mailbox
  picked : Request → ℕ → ℕ → ℕ → Mailbox
  answered : Request → ℕ → Outcome → Mailbox

-- The word of a mailbox, by its state.
abbrev pub mark : Mailbox → ℕ
mark shut = 0
mark empty = 0
mark (posted r n) = 1
mark (picked r n start count) = 2
mark (answered r n o) = 3

-- what is at home in the mailbox's slot
abbrev pub inside_of : Mailbox → Option Slot
inside_of shut = some Empty
inside_of empty = none
inside_of (posted r n) = some (Posted r)
inside_of (picked r n start count) = none
inside_of (answered r n o) = some (Answered o)

abbrev pub answer_places : Outcome → List ℕ
answer_places (Done answer start end) = places start (end - start)
answer_places (Back r why) = []
answer_places Handed = []

-- published places that are not yet the poster's own
abbrev pub pending : Mailbox → List ℕ
pending shut = []
pending empty = []
pending (posted r n) = []
pending (picked r n start count) = places start count
pending (answered r n o) = answer_places o

-- what a post says that its seat had seen, by length
abbrev pub since_of : Mailbox → ℕ
since_of shut = 0
since_of empty = 0
since_of (posted r n) = n
since_of (picked r n start count) = 0
since_of (answered r n o) = 0

-- from start up to end stands this seat's run of the request, and start isn't below n
pub record RunAt (seats : ℕ) (entries : List Entry) (who : ℕ) (r : Request) (n : ℕ) (answer : Answer) (start end : ℕ) : Type 0 where
  pub before : List Entry
  pub run : List Entry
  pub after : List Entry
  pub parts : entries ≡ (before ++ run) ++ after
  pub starts : start ≡ length before
  pub ends : end ≡ start + length run
  pub late : n ≤ start
  pub by_seat : AllBy who run
  pub is_run : IsRun (history_of seats before) who r run answer

-- For what reason a request that was picked comes back, of just the history at hand, after which its run would have an
-- entry: memory is wanting only where one more has a place there, and the history full only at its limit.
abbrev pub IsReason : ℕ → List Entry → ℕ → Request → Why → Type 0
IsReason seats entries who r Taken = ⊥
IsReason seats entries who r NoMemory = HasPlace (history_of seats entries) × HasEntry (history_of seats entries) who r
IsReason seats entries who r HistoryFull = IsAtLimit (history_of seats entries) who r × HasEntry (history_of seats entries) who r
IsReason seats entries who r Withdrawn = ⊥

-- The reason held of a beginning of the entries that isn't shorter than n.
abbrev pub HadReason : ℕ → List Entry → ℕ → Request → ℕ → Why → Type 0
HadReason seats entries who r n why = (before : List Entry) × BeginsWith entries before × (n ≤ length before) × IsReason seats before who r why

abbrev pub IsTold : ℕ → List Entry → ℕ → Request → ℕ → Outcome → Type 0
IsTold seats entries who r n (Done answer start end) = RunAt seats entries who r n answer start end
IsTold seats entries who r n (Back back why) = (back ≡ r) × HadReason seats entries who r n why
IsTold seats entries who r n Handed = ⊥

-- how a mailbox ties what its seat has handed over to the entries
abbrev pub MailboxFits : ℕ → List Entry → ℕ → Handover → Mailbox → Type 0
MailboxFits seats entries who h shut = h ≡ Shut
MailboxFits seats entries who h empty = h ≡ Open
MailboxFits seats entries who h (posted r n) = (h ≡ Waiting r n) × (n ≤ length entries)
MailboxFits seats entries who h (picked r n start count) = (h ≡ Waiting r n) × (n ≤ length entries) × ((count ≡ 0) ⊎ ((answer : Answer) × RunAt seats entries who r n answer start (start + count)))
MailboxFits seats entries who h (answered r n o) = (h ≡ Waiting r n) × IsTold seats entries who r n o

-- the mailbox that a view names as picked is in this state
abbrev pub PickFits : List Mailbox → Picking → Type 0
PickFits mailboxes Nothing = Unit {0}
PickFits mailboxes (Picked seat r since start count) = get_elem? mailboxes seat ≡ some (picked r since start count)

-- no mailbox is picked but what this names
abbrev pub PickedAs : List Mailbox → Picking → Type 0
PickedAs mailboxes p = (i : ℕ) (r : Request) (since start count : ℕ) → get_elem? mailboxes i ≡ some (picked r since start count) → p ≡ Picked i r since start count
