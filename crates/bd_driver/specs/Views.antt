-- Views of seats, and what a history says of them.
use Rattle.std.specs.Prelude.{◌≡◌, ℕ, zero, suc, ◌+◌, ◌/◌, ◌%◌, ◌==◌, false, cond, List, [], ◌∷◌, length}
use Rattle.bd_space.specs.{declared.step.Entry.{Entry}, Histories.{ready_bits, history_of}}
use Rattle.bd_driver.specs.{declared.view.View.{View}, declared.view.Tally.{Tally}, declared.view.Handover.TheVariants.{Shut, Open}}
use Rattle.bd_driver.specs.declared.view.Picking.TheVariants.{Nothing}

-- The ready seats after a history, bit i for seat i.
abbrev pub ready_of : ℕ → List Entry → ℕ
ready_of seats entries = ready_bits (history_of seats entries)

-- where a seat's entries stand in a list whose first place is n
abbrev pub places_from : ℕ → ℕ → List Entry → List ℕ
places_from who n [] = []
places_from who n (e ∷ es) = cond (e.seat == who) (n ∷ places_from who (n + 1) es) (places_from who (n + 1) es)

-- where a seat's entries stand in a history
abbrev pub places_of : ℕ → List Entry → List ℕ
places_of who entries = places_from who 0 entries

-- A list of so many places, one after the other from n on.
abbrev pub places : ℕ → ℕ → List ℕ
places n zero = []
places n (suc k) = n ∷ places (n + 1) k

-- the word has the stamp and the ready bits of this history
abbrev pub IsPage : ℕ → ℕ → List Entry → Type 0
IsPage seats word entries = (word / 4294967296 ≡ length entries) × (word / 2 % 2147483648 ≡ ready_of seats entries)

-- The tally with one more step, which found this word.
abbrev pub tick : Tally → ℕ → Tally
tick t word = record { count = t.count + 1; found = word }

abbrev pub no_steps : Tally
no_steps = record { count = 0; found = 0 }

abbrev pub no_picks : ℕ → List Tally
no_picks zero = []
no_picks (suc k) = no_steps ∷ no_picks k

abbrev pub fresh : ℕ → ℕ → View
fresh seats who = record {
  seats = seats;
  who = who;
  seen = [];
  own = [];
  taker = false;
  handover = Shut;
  pick = Nothing;
  takes = no_steps;
  publishes = no_steps;
  puts = no_steps;
  looks = no_steps;
  posts = no_steps;
  withdraws = no_steps;
  collects = no_steps;
  picks = no_picks seats;
  answered = no_steps;
  opens = no_steps;
  shuts = no_steps;
  answers = [];
}

-- the view of a new seat: one load has opened its mailbox, and found it empty
abbrev pub seated : ℕ → ℕ → View
seated seats who = record (fresh seats who) { handover = Open; opens = tick no_steps 0 }

-- so many fresh views, from one seat's on
abbrev pub newcomers : ℕ → ℕ → ℕ → List View
newcomers seats who zero = []
newcomers seats who (suc k) = fresh seats who ∷ newcomers seats (who + 1) k

-- the first view, where there is one
abbrev pub view_of : List View → View
view_of [] = fresh 0 0
view_of (v ∷ vs) = v

abbrev pub others_of : List View → List View
others_of [] = []
others_of (v ∷ vs) = vs

-- P holds of each view
abbrev pub Each : (View → Type 0) → List View → Type 0
Each P [] = Unit {0}
Each P (v ∷ vs) = P v × Each P vs

-- a view of a seat without the engine
abbrev pub Idle : View → Type 0
Idle v = v.taker ≡ false
