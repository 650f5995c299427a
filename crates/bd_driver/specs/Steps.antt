-- What each step tells: on which word it is and with which operands, the word found, and what its seat knows and holds
-- after.
use Rattle.std.specs.Prelude.{◌≡◌, ℕ, suc, ◌≢◌, ◌-◌, ◌%◌, ◌<◌, ◌≤◌, ◌==◌, slice_set, slice_index_or, false, List, [], ◌∷◌, ◌++◌, length}
use Rattle.atomic_table.specs.Table.{Me, Step, rest}
use Rattle.bd_space.specs.declared.step.Entry.{Entry}
use Rattle.bd_driver.specs.declared.view.View.{View}
use Rattle.bd_driver.specs.declared.slot.Slot.{Slot}
use Rattle.bd_driver.specs.declared.slot.Slot.TheVariants.{Home, Posted, Answered, Empty}
use Rattle.bd_space.specs.declared.step.Request.{Request}
use Rattle.bd_driver.specs.declared.view.Tally.{Tally}
use Rattle.bd_driver.specs.declared.view.Letter.{Letter}
use Rattle.bd_driver.specs.declared.outcome.Outcome.TheVariants.{Handed}
use Rattle.bd_driver.specs.declared.outcome.Outcome.{Outcome}
use Rattle.bd_driver.specs.declared.view.Handover.TheVariants.{Shut, Open, Waiting}
use Rattle.bd_driver.specs.declared.view.Picking.{Picking}
use Rattle.bd_driver.specs.declared.view.Picking.TheVariants.{Nothing, Picked}
use Rattle.bd_driver.specs.Mailboxes.{answer_places, IsTold}
use Rattle.bd_driver.specs.Words.{page_word}
use Rattle.bd_space.specs.Histories.{BeginsWith, history_of}
use Rattle.bd_driver.specs.Views.{IsPage, places, places_of, tick, no_steps, view_of}

abbrev pub Hands : Type 0
Hands = Me Slot (List View)

-- The step is on this word and has these operands. A load has 0 and 0, what has one operand 0 as its second. Which
-- exchange of these operands it is isn't told; another one that keeps the rule does the same to the word.
abbrev pub IsOn : Step Slot → ℕ → ℕ → ℕ → Type 0
IsOn st word first second = (st.word ≡ word) × (st.first ≡ first) × (st.second ≡ second)

-- the history of the engine in the slot held first
abbrev pub entries_in : List (ℕ × Slot) → List Entry
entries_in [] = []
entries_in (x ∷ xs) = entries_of x.1
  where
    entries_of : Slot → List Entry
    entries_of (Home e) = e.entries
    entries_of (Posted r) = []
    entries_of (Answered o) = []
    entries_of Empty = []

-- a load of the page that makes a seat
abbrev pub entered : Step Slot → Hands → ℕ → Hands → Type 0
entered st m n m' = IsOn st 0 0 0 × (m' ≡ ([], []))

abbrev pub looked_at : View → ℕ → List Entry → View
looked_at v word entries = record v { seen = entries; looks = tick v.looks word }

-- a load of the page: its word is that of the published history, which is now seen
abbrev pub looked : Step Slot → Hands → ℕ → Hands → Type 0
looked st m n m' =
    IsOn st 0 0 0 × (entries : List Entry) × BeginsWith entries (view_of m.0).seen × IsPage (view_of m.0).seats n entries × (m' ≡ (looked_at (view_of m.0) n entries ∷ [], m.1))

abbrev pub took_at : View → ℕ → List Entry → View
took_at v word entries = record v { seen = entries; taker = (word % 2 == 0); takes = tick v.takes word }

-- bit 0 of the page is set: the published history is now seen, and the engine of it comes along where the bit was clear
abbrev pub took : Step Slot → Hands → ℕ → Hands → Type 0
took st m n m' =
    IsOn st 0 1 0 × (entries : List Entry) × BeginsWith entries (view_of m.0).seen × IsPage (view_of m.0).seats n entries × (m'.0 ≡ took_at (view_of m.0) n entries ∷ [])
    × (n % 2 ≡ 0 → m'.1 ≡ (0, Home (history_of (view_of m.0).seats entries)) ∷ m.1)
    × (n % 2 ≡ 1 → m'.1 ≡ m.1)
    × ((view_of m.0).who < (view_of m.0).seats)

abbrev pub published_at : View → ℕ → List Entry → View
published_at v word entries = record v { seen = entries; own = v.own ++ places (length v.seen) (length entries - length v.seen); publishes = tick v.publishes word }

-- the page becomes that of the history in hand, still taken
abbrev pub published : Step Slot → Hands → ℕ → Hands → Type 0
published st m n m' = IsOn st 0 (page_word (view_of m.0).seats 1 (entries_in m.1)) 0 × (m' ≡ (published_at (view_of m.0) n (entries_in m.1) ∷ [], m.1))

abbrev pub put_at : View → ℕ → View
put_at v word = record v { taker = false; puts = tick v.puts word }

-- bit 0 of the page is cleared, and the engine's slot goes home
abbrev pub put : Step Slot → Hands → ℕ → Hands → Type 0
put st m n m' = IsOn st 0 18446744073709551614 0 × (m' ≡ (put_at (view_of m.0) n ∷ [], rest m.1))

abbrev pub opened_at : View → ℕ → View
opened_at v word = record v { handover = Open; opens = tick v.opens word }

-- a load of the own mailbox, which is empty; its slot comes along
abbrev pub opened : Step Slot → Hands → ℕ → Hands → Type 0
opened st m n m' = IsOn st (suc (view_of m.0).who) 0 0 × (n ≡ 0) × (m' ≡ (opened_at (view_of m.0) 0 ∷ [], (st.word, Empty) ∷ m.1))

abbrev pub closed_at : View → ℕ → View
closed_at v word = record v { handover = Shut; shuts = tick v.shuts word }

-- a load of the own mailbox, which is empty; its slot goes home
abbrev pub closed : Step Slot → Hands → ℕ → Hands → Type 0
closed st m n m' = IsOn st (suc (view_of m.0).who) 0 0 × (n ≡ 0) × (m' ≡ (closed_at (view_of m.0) 0 ∷ [], rest m.1))

abbrev pub posted_at : View → ℕ → Request → View
posted_at v word r = record v { handover = Waiting r (length v.seen); posts = tick v.posts word }

-- the own mailbox becomes 1, and the request in its slot goes home
abbrev pub posted_as : Step Slot → Hands → ℕ → Hands → Type 0
posted_as st m n m' = IsOn st (suc (view_of m.0).who) 1 0 × (r : Request) × (m.1 ≡ (st.word, Posted r) ∷ rest m.1) × (m' ≡ (posted_at (view_of m.0) n r ∷ [], rest m.1))

abbrev pub withdrawn_at : View → ℕ → View
withdrawn_at v word = record v { handover = Open; withdraws = tick v.withdraws word }

abbrev pub kept_at : View → ℕ → View
kept_at v word = record v { withdraws = tick v.withdraws word }

-- some history that begins with what was seen has just the own places of this seat
abbrev pub OwnsAll : View → Type 0
OwnsAll v = (entries : List Entry) × BeginsWith entries v.seen × (places_of v.who entries ≡ v.own)

-- the own mailbox becomes 0 where it is 1, and then its slot comes along with the request, of which nothing was run
abbrev pub withdrew : Step Slot → Hands → ℕ → Hands → Type 0
withdrew st m n m' =
    IsOn st (suc (view_of m.0).who) 1 0
    × (n ≡ 1 → (r : Request) × (since : ℕ) × ((view_of m.0).handover ≡ Waiting r since) × OwnsAll (view_of m.0) × (m' ≡ (withdrawn_at (view_of m.0) n ∷ [], (st.word, Posted r) ∷ m.1)))
    × (n ≢ 1 → m' ≡ (kept_at (view_of m.0) n ∷ [], m.1))

abbrev pub tally_at : List Tally → ℕ → Tally
tally_at ts i = slice_index_or ts i no_steps

abbrev pub tried_at : View → ℕ → ℕ → View
tried_at v i word = record v { picks = slice_set v.picks i (tick (tally_at v.picks i) word) }

abbrev pub picked_at : View → ℕ → ℕ → Request → ℕ → View
picked_at v i word r since = record v { picks = slice_set v.picks i (tick (tally_at v.picks i) word); pick = Picked i r since 0 0 }

-- a mailbox becomes 2 where it is 1, and then its slot comes along with the request; its poster had seen no more than
-- the taker has. The mailbox is that of the seat which the view then names
abbrev pub picked_as : Step Slot → Hands → ℕ → Hands → Type 0
picked_as st m n m' =
    IsOn st (suc (st.word - 1)) 1 2
    × (n ≡ 1 → (r : Request) × (since : ℕ) × (since ≤ length (view_of m.0).seen) × (m' ≡ (picked_at (view_of m.0) (st.word - 1) n r since ∷ [], (st.word, Posted r) ∷ m.1)))
    × (n ≢ 1 → m' ≡ (tried_at (view_of m.0) (st.word - 1) n ∷ [], m.1))

abbrev pub with_places : Picking → ℕ → ℕ → Picking
with_places Nothing start count = Nothing
with_places (Picked i r since s k) start count = Picked i r since start count

abbrev pub served_at : View → ℕ → List Entry → View
served_at v word entries = record v { seen = entries; pick = with_places v.pick (length v.seen) (length entries - length v.seen); publishes = tick v.publishes word }

-- the page becomes that of the history in hand, still taken, and what is new in it was run for the request picked
abbrev pub served : Step Slot → Hands → ℕ → Hands → Type 0
served st m n m' = IsOn st 0 (page_word (view_of m.0).seats 1 (entries_in m.1)) 0 × (m' ≡ (served_at (view_of m.0) n (entries_in m.1) ∷ [], m.1))

-- the outcome in the slot held first
abbrev pub outcome_in : List (ℕ × Slot) → Outcome
outcome_in [] = Handed
outcome_in (x ∷ xs) = outcome_of x.1
  where
    outcome_of : Slot → Outcome
    outcome_of (Home e) = Handed
    outcome_of (Posted r) = Handed
    outcome_of (Answered o) = o
    outcome_of Empty = Handed

-- the word of the mailbox that was picked
abbrev pub picked_word : Picking → ℕ
picked_word Nothing = 0
picked_word (Picked i r since start count) = suc i

-- the letter in which a request that was picked is answered
abbrev pub letter_to : View → Picking → Outcome → List Letter
letter_to v Nothing o = []
letter_to v (Picked i r since start count) o = record { seat = i; request = r; outcome = o; publishes = v.publishes.count; stamp = length v.seen } ∷ []

abbrev pub answered_at : View → ℕ → Outcome → View
answered_at v word o = record v { pick = Nothing; answered = tick v.answered word; answers = v.answers ++ letter_to v v.pick o }

-- the mailbox that was picked goes from 2 to 3, and the outcome in its slot goes home
abbrev pub answered_as : Step Slot → Hands → ℕ → Hands → Type 0
answered_as st m n m' = IsOn st (picked_word (view_of m.0).pick) 3 0 × (n ≡ 2) × (m' ≡ (answered_at (view_of m.0) 2 (outcome_in m.1) ∷ [], rest m.1))

abbrev pub collected_at : View → ℕ → List Entry → Outcome → View
collected_at v word entries o = record v { handover = Open; seen = entries; own = v.own ++ answer_places o; collects = tick v.collects word }

abbrev pub missed_at : View → ℕ → View
missed_at v word = record v { collects = tick v.collects word }

-- the own mailbox becomes 0 where it is 3, and then its slot comes along with an answer that the published history, now
-- seen, bears out
abbrev pub collected_as : Step Slot → Hands → ℕ → Hands → Type 0
collected_as st m n m' =
    IsOn st (suc (view_of m.0).who) 3 0
    × (n ≡ 3 → (entries : List Entry) × (r : Request) × (since : ℕ) × (o : Outcome) × BeginsWith entries (view_of m.0).seen × ((view_of m.0).handover ≡ Waiting r since) × IsTold (view_of m.0).seats entries (view_of m.0).who r since o
    × (m' ≡ (collected_at (view_of m.0) n entries o ∷ [], (st.word, Answered o) ∷ m.1)))
    × (n ≢ 3 → m' ≡ (missed_at (view_of m.0) n ∷ [], m.1))
