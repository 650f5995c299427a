-- What `call`, `look` and their parts do to the view of a seat.
use Rattle.std.specs.Prelude.{◌≡◌, ℕ, ◌+◌, ◌/◌, ◌%◌, ◌<◌, ◌≤◌, ◌==◌, List, [], ◌∷◌, ◌++◌, length, Option, MatchOption}
use Rattle.bd_space.specs.{declared.step.Entry.{Entry}, declared.step.Request.{Request}, declared.step.Answer.{Answer}}
use Rattle.bd_space.specs.{Histories.{History, HasPlace, BeginsWith, history_of}, Runs.{AllBy, IsRun, HasEntry, IsAtLimit}}
use Rattle.bd_driver.specs.{Views.{ready_of, places}, declared.view.View.{View}, declared.slot.Slot.{Slot}, declared.slot.Slot.TheVariants.{Empty}}
use Rattle.bd_driver.specs.{declared.page.Page.{Page}, declared.outcome.Outcome.{Outcome}, declared.outcome.Outcome.TheVariants.{Done, Back, Handed}}
use Rattle.bd_driver.specs.{declared.outcome.Why.{Why}, declared.outcome.Why.TheVariants.{Taken, NoMemory, HistoryFull, Withdrawn}}
use Rattle.bd_driver.specs.Steps.{Hands, looked_at, took_at, published_at, put_at}

-- one load of the page was made
pub record LooksOnce (v w : View) (page : Page) : Type 0 where
  -- nothing else of the view changes
  pub only : w ≡ looked_at v w.looks.found w.seen
  pub begins : BeginsWith w.seen v.seen
  pub is_found : (page.stamp ≡ w.looks.found / 4294967296) × (page.ready ≡ w.looks.found / 2 % 2147483648) × (page.taken ≡ (w.looks.found % 2 == 1))
  pub is_page : (page.stamp ≡ length w.seen) × (page.ready ≡ ready_of v.seats w.seen)

-- A take was made, and the seat has the engine where that found bit 0 clear.
pub record Takes (v : View) (xs : List (ℕ × Slot)) (m : Hands) (got : Option History) : Type 0 where
  pub word : ℕ
  pub entries : List Entry
  pub begins : BeginsWith entries v.seen
  pub view : m.0 ≡ took_at v word entries ∷ []
  pub engine : MatchOption got ((word % 2 ≡ 1) × (m.1 ≡ xs)) (λ e. (word % 2 ≡ 0) × (e ≡ history_of v.seats entries) × (m.1 ≡ (0, Empty) ∷ xs) × (v.who < v.seats))

-- the engine has run entries of this seat alone after what the seat has seen
pub record Follows (v : View) (engine : History) : Type 0 where
  pub seats : engine.seats ≡ v.seats
  pub run : List Entry
  pub grown : engine.entries ≡ v.seen ++ run
  pub by_seat : AllBy v.who run

-- A publish was made, and then a put.
abbrev pub Gives : View → List (ℕ × Slot) → List Entry → Hands → Type 0
Gives v xs entries m = (first : ℕ) × (second : ℕ) × (m.0 ≡ put_at (published_at v first entries) second ∷ []) × (m.1 ≡ xs)

-- the request was run: what the seat now has seen ends with the run, and the places of the run are own places from now
-- on
pub record Stands (v w : View) (request : Request) (answer : Answer) (start end : ℕ) : Type 0 where
  pub was_free : w.takes.found % 2 ≡ 0
  pub before : List Entry
  pub run : List Entry
  pub seen : w.seen ≡ before ++ run
  pub starts : start ≡ length before
  pub ends : end ≡ length w.seen
  pub after_seen : length v.seen ≤ start
  pub by_seat : AllBy v.who run
  pub is_run : IsRun (history_of v.seats before) v.who request run answer
  pub own : w.own ≡ v.own ++ places start (length run)

-- for what reason it comes back: memory is wanting only where the history has a place left, the history full only at
-- its limit, and neither where the request has no entry
abbrev pub IsWhy : View → Request → Why → Type 0
IsWhy w request Taken = w.takes.found % 2 ≡ 1
IsWhy w request NoMemory = (w.takes.found % 2 ≡ 0) × HasPlace (history_of w.seats w.seen) × HasEntry (history_of w.seats w.seen) w.who request
IsWhy w request Withdrawn = ⊥
IsWhy w request HistoryFull = (w.takes.found % 2 ≡ 0) × IsAtLimit (history_of w.seats w.seen) w.who request × HasEntry (history_of w.seats w.seen) w.who request

-- The request was run, or comes back equal and no own place is new.
abbrev pub IsOutcome : View → View → Request → Outcome → Type 0
IsOutcome v w request (Done answer start end) = Stands v w request answer start end
IsOutcome v w request Handed = ⊥
IsOutcome v w request (Back back why) = (back ≡ request) × (w.own ≡ v.own) × IsWhy w request why

-- The seat has made one more publish and one more put.
abbrev pub GivesOnce : View → View → Type 0
GivesOnce v w = (w.publishes.count ≡ v.publishes.count + 1) × (w.puts.count ≡ v.puts.count + 1)

-- A publish and a put follow the take exactly where that found the engine.
abbrev pub PageSteps : View → View → Outcome → Type 0
PageSteps v w (Back request Taken) = (w.publishes ≡ v.publishes) × (w.puts ≡ v.puts)
PageSteps v w (Back request NoMemory) = GivesOnce v w
PageSteps v w (Back request HistoryFull) = GivesOnce v w
PageSteps v w (Back request Withdrawn) = ⊥
PageSteps v w (Done answer start end) = GivesOnce v w
PageSteps v w Handed = ⊥

-- a call, by the steps that it made and by what came of the request
pub record Calls (v w : View) (request : Request) (answer : Outcome) : Type 0 where
  pub who : (w.seats ≡ v.seats) × (w.who ≡ v.who)
  pub one_take : w.takes.count ≡ v.takes.count + 1
  pub no_look : w.looks ≡ v.looks
  pub no_mail : (w.posts ≡ v.posts) × (w.withdraws ≡ v.withdraws) × (w.collects ≡ v.collects) × (w.picks ≡ v.picks) × (w.answers ≡ v.answers) × (w.answered ≡ v.answered)
  pub no_opening : (w.opens ≡ v.opens) × (w.shuts ≡ v.shuts)
  pub page : PageSteps v w answer
  pub handover : w.handover ≡ v.handover
  pub begins : BeginsWith w.seen v.seen
  pub outcome : IsOutcome v w request answer
