-- What holds of the driver's table between any two steps. The page is word 0, and the engine's slot is slot 0.
use Rattle.std.specs.Prelude.{◌≡◌, ℕ, ◌<◌, ◌≤◌, true, false, List, [], ◌∷◌, ◌++◌, map, length}
use mathlib.Core.Option.{Option, none, some}
use lib.ListN.{get_elem?}
use Rattle.atomic_table.specs.Table.{State}
use Rattle.bd_space.specs.declared.step.Entry.{Entry}
use Rattle.bd_driver.specs.Words.{page_word}
use Rattle.bd_space.specs.Histories.{history_of, BeginsWith}
use Rattle.bd_driver.specs.Views.{ready_of, places_of, Each}
use Rattle.bd_driver.specs.declared.view.View.{View}
use Rattle.bd_driver.specs.declared.slot.Slot.{Slot}
use Rattle.bd_driver.specs.declared.slot.Slot.TheVariants.{Home}
use Rattle.bd_driver.specs.declared.view.Picking.TheVariants.{Nothing}
use Rattle.bd_driver.specs.Mailboxes.{Mailbox, mark, inside_of, pending, since_of, MailboxFits, PickFits, PickedAs}

abbrev pub bit_of : Option ℕ → ℕ
bit_of none = 0
bit_of (some t) = 1

-- what lies in slot 0: the engine of this history, unless it is out
abbrev pub home_of : ℕ → List Entry → Option ℕ → Option Slot
home_of seats entries none = some (Home (history_of seats entries))
home_of seats entries (some t) = none

-- whoever has the engine knows it, and knows of each mailbox that is picked; while nobody has it none is
abbrev pub HasTaker : List (List View) → List Mailbox → Option ℕ → Type 0
HasTaker views mailboxes none = PickedAs mailboxes Nothing
HasTaker views mailboxes (some t) = (v : View) × (get_elem? views t ≡ some (v ∷ [])) × (v.taker ≡ true) × PickedAs mailboxes v.pick

-- how one view agrees with the rest, where the table's seat of this id carries it
pub record Fits (seats : ℕ) (entries : List Entry) (carrier : ℕ → ℕ) (taken_by : Option ℕ) (mailboxes : List Mailbox) (id : ℕ) (v : View) : Type 0 where
  pub seats_are : v.seats ≡ seats
  pub below : v.who < seats
  pub held : carrier v.who ≡ id
  pub begins : BeginsWith entries v.seen
  pub mailbox : Mailbox
  pub has_mailbox : get_elem? mailboxes v.who ≡ some mailbox
  pub fits_mailbox : MailboxFits seats entries v.who v.handover mailbox
  pub own : v.own ++ pending mailbox ≡ places_of v.who entries
  pub takes : v.taker ≡ true → (taken_by ≡ some id) × (v.seen ≡ entries)
  pub picks : PickFits mailboxes v.pick
  pub idle : v.taker ≡ false → v.pick ≡ Nothing

-- the whole rule, round one published history
pub record Kept (seats : ℕ) (s : State Slot (List View)) : Type 0 where
  pub entries : List Entry
  -- which of the table's seats carries the view of each seat
  pub carrier : ℕ → ℕ
  -- which of the table's seats has the engine
  pub taken_by : Option ℕ
  pub mailboxes : List Mailbox
  pub words : s.words ≡ page_word seats (bit_of taken_by) entries ∷ map mark mailboxes
  pub homes : s.homes ≡ home_of seats entries taken_by ∷ map inside_of mailboxes
  pub small : (length entries < 4294967296) × (ready_of seats entries < 2147483648)
  pub all_mailboxes : length mailboxes ≡ seats
  pub early : (i : ℕ) (b : Mailbox) → get_elem? mailboxes i ≡ some b → since_of b ≤ length entries
  pub has_taker : HasTaker s.views mailboxes taken_by
  pub each : (id : ℕ) (vs : List View) → get_elem? s.views id ≡ some vs → Each (Fits seats entries carrier taken_by mailboxes id) vs
