-- Histories: lists of steps in which each answer follows from the steps before.
use Rattle.std.specs.Prelude.{ℕ, zero, suc, ◌+◌, ◌^◌, ◌≡◌, ◌≤◌, ◌<◌, nat_lt, nat_le, Bool, true, false, not, ◌||◌, List, [], ◌∷◌, ◌++◌, length, Option, if◌then◌else◌}
use Rattle.bd_space.specs.{Words.{list_all, Step, StepAnswer, Entry, is_some_and, Space, opening}, Seats.thread_in, Names.has_number_past_limit, Todo.list_to_read, ReadItems.none_due, Steps.step}

-- the seats of a driver, and what has happened
pub record History : Type 0 where
  pub seats : ℕ
  pub entries : List Entry

-- the history of so many seats with these entries
abbrev pub history_of : ℕ → List Entry → History
history_of seats entries = record { seats = seats; entries = entries }

-- these entries begin with those
abbrev pub BeginsWith : List Entry → List Entry → Type 0
BeginsWith entries seen = (rest : List Entry) × (entries ≡ seen ++ rest)

-- the space after one entry's step, and after a list of them
abbrev pub next : Space → Entry → Space
next s e = (step s e.seat e.step).space

abbrev pub after : Space → List Entry → Space
after s [] = s
after s (e ∷ es) = after (next s e) es

unfoldable pub space_after : History → Space
space_after h = after opening h.entries

-- an entry's answer follows from the space before it, and no number past the limit is needed
pub record EntryFollows (s : Space) (e : Entry) : Type 0 where
  pub answer : (step s e.seat e.step).answer ≡ e.answer
  pub numbers : has_number_past_limit (next s e).names ≡ false

abbrev pub Follows : Space → List Entry → Type 0
Follows s [] = Unit {0}
Follows s (e ∷ es) = EntryFollows s e × Follows (next s e) es

-- the most steps that a history has, whose places have 32 bits
abbrev pub most_steps : ℕ
most_steps = 4294967295

pub record IsHistory (h : History) : Type 0 where
  pub short : length h.entries ≤ most_steps
  pub seats : list_all (λ e. nat_lt e.seat h.seats) h.entries ≡ true
  pub follows : Follows opening h.entries

-- the most steps of a lawful history, whose places have 64 bits
abbrev pub most_lawful_steps : ℕ
most_lawful_steps = 18446744073709551615

-- as a history, but for how many steps it may have
pub record IsLawful (h : History) : Type 0 where
  pub short : length h.entries ≤ most_lawful_steps
  pub seats : list_all (λ e. nat_lt e.seat h.seats) h.entries ≡ true
  pub follows : Follows opening h.entries

-- one entry more
abbrev pub extended : History → ℕ → Step → StepAnswer → History
extended h seat x answer = history_of h.seats (h.entries ++ record { seat = seat; step = x; answer = answer } ∷ [])

-- ---- the page of a history

-- the seat has a live thread, and something is due on the list that this reads
abbrev pub is_ready : Space → ℕ → Bool
is_ready s seat = is_some_and (thread_in s.threads seat) (λ t. not (none_due (list_to_read s t)))

-- the ready seats below n, bit i for seat i
abbrev pub ready_below : Space → ℕ → ℕ
ready_below s zero = 0
ready_below s (suc n) = ready_below s n + (if is_ready s n then 2 ^ n else 0)

unfoldable pub ready_bits : History → ℕ
ready_bits h = ready_below (space_after h) h.seats

-- ---- when it is full

-- one step more has a place
abbrev pub HasPlace : History → Type 0
HasPlace h = length h.entries < most_steps

-- the history is full, or this step would need a number past the limit
unfoldable pub is_at_limit : History → ℕ → Option Step → Bool
is_at_limit h seat x =
    nat_le most_steps (length h.entries) || is_some_and x (λ y. has_number_past_limit (step (space_after h) seat y).space.names)

-- one step more has a place of 64 bits
abbrev pub HasLivePlace : History → Type 0
HasLivePlace h = length h.entries < most_lawful_steps

-- no place of 64 bits is left, or this step would need a number past the limit
unfoldable pub is_at_end : History → ℕ → Option Step → Bool
is_at_end h seat x =
    nat_le most_lawful_steps (length h.entries) || is_some_and x (λ y. has_number_past_limit (step (space_after h) seat y).space.names)
