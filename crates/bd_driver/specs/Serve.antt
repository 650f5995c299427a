-- What the parts of `serve` do to the view and the hands of a seat.
use Rattle.std.specs.Prelude.{◌≡◌, ◌≢◌, ◌⊎◌, ℕ, ◌+◌, ◌≤◌, Bool, true, false, List, [], ◌∷◌, ◌++◌, length, slice_set, MatchBool, Option, MatchOption, ◌==◌, if◌then◌else◌}
use Rattle.bd_space.specs.{declared.step.Entry.{Entry}, declared.step.Request.{Request}, declared.step.Answer.{Answer}, Histories.{History, history_of}}
use Rattle.bd_space.specs.Runs.{AllBy, HasRun}
use Rattle.bd_driver.specs.{Views.{places, view_of, tick}, declared.outcome.Outcome.{Outcome}, Mailboxes.{RunAt, IsTold, IsReason, answer_places}}
use Rattle.bd_driver.specs.{declared.view.View.{View}, declared.view.Tally.{Tally}, declared.view.Letter.{Letter}}
use Rattle.bd_driver.specs.{declared.outcome.Outcome.TheVariants.{Done, Back, Handed}, declared.view.Picking.TheVariants.{Nothing, Picked}}
use Rattle.bd_driver.specs.{declared.slot.Slot.{Slot}, declared.slot.Slot.TheVariants.{Empty}, Steps.{Hands, tally_at, tried_at, picked_at}}
use Rattle.atomic_table.specs.Table.{rest}

-- the seat is the taker between two mailboxes: its engine's history is what it has seen, and each pick has its answer
pub record Serving (me : Hands) (engine : History) : Type 0 where
  pub one : me.0 ≡ view_of me.0 ∷ []
  pub on : (view_of me.0).taker ≡ true
  pub none_picked : (view_of me.0).pick ≡ Nothing
  pub held : me.1 ≡ (0, Empty) ∷ rest me.1
  pub stands : engine ≡ history_of (view_of me.0).seats (view_of me.0).seen

-- how a posted request fares: run by its poster's number after `seen`, which grows by that run to `now`; or given back
-- equal, with its reason, and `now` is `seen`
abbrev pub RunsAs : ℕ → ℕ → Request → Outcome → List Entry → List Entry → Type 0
RunsAs seats i r (Done answer start end) seen now = HasRun (history_of seats seen) (history_of seats now) i r answer start end
RunsAs seats i r (Back back why) seen now = (back ≡ r) × (now ≡ seen) × IsReason seats seen i r why
RunsAs seats i r Handed seen now = ⊥

-- One letter goes to a mailbox that was found posted, and none to another. It was put there after p + 1 publishes, and
-- the history published by then had its run.
abbrev pub AnswersOne : ℕ → ℕ → Bool → ℕ → List Letter → List Entry → List Entry → Type 0
AnswersOne seats i false p letters seen now = (letters ≡ []) × (now ≡ seen)
AnswersOne seats i true p letters seen now =
    (r : Request) × (o : Outcome) × (letters ≡ record { seat = i; request = r; outcome = o; publishes = p + 1; stamp = length now } ∷ []) × RunsAs seats i r o seen now

-- one step for each letter, and each of them found the word 2
abbrev pub letter_ticks : Tally → List Letter → Tally
letter_ticks t [] = t
letter_ticks t (l ∷ ls) = letter_ticks (tick t 2) ls

-- the view v, but with what serving changes as it is in w
abbrev pub served_as : View → View → View
served_as v w = record v { seen = w.seen; taker = w.taker; pick = w.pick; publishes = w.publishes; picks = w.picks; answered = w.answered; answers = w.answers }

-- serving leaves all else alone
abbrev pub OnlyServes : View → View → Type 0
OnlyServes v w = w ≡ served_as v w

-- the seat is the taker, and has picked this request from mailbox i, of which nothing is published yet
pub record IsPicked (me : Hands) (i : ℕ) (request : Request) (engine : History) : Type 0 where
  pub one : me.0 ≡ view_of me.0 ∷ []
  pub on : (view_of me.0).taker ≡ true
  pub since : ℕ
  pub early : since ≤ length (view_of me.0).seen
  pub pick : (view_of me.0).pick ≡ Picked i request since 0 0
  pub held : me.1 ≡ (i + 1, Empty) ∷ rest me.1
  pub below : rest me.1 ≡ (0, Empty) ∷ rest (rest me.1)
  pub stands : engine ≡ history_of (view_of me.0).seats (view_of me.0).seen

-- the request that was picked has its letter, after one publish
pub record RanPicked (m : Hands) (i : ℕ) (request : Request) (me : Hands) : Type 0 where
  pub outcome : Outcome
  pub runs : RunsAs (view_of m.0).seats i request outcome (view_of m.0).seen (view_of me.0).seen
  pub answers : (view_of me.0).answers
      ≡ (view_of m.0).answers ++ record { seat = i; request = request; outcome = outcome; publishes = (view_of m.0).publishes.count + 1; stamp = length (view_of me.0).seen } ∷ []
  pub answer_step : (view_of me.0).answered ≡ tick (view_of m.0).answered 2
  pub publishes : (view_of me.0).publishes.count ≡ (view_of m.0).publishes.count + 1
  pub picks : (view_of me.0).picks ≡ (view_of m.0).picks
  pub only : OnlyServes (view_of m.0) (view_of me.0)
  pub slots : rest me.1 ≡ rest (rest m.1)

-- mailbox i was tried by one pick, and has its letter where that found 1
pub record ServedOne (v : View) (xs : List (ℕ × Slot)) (i : ℕ) (me : Hands) (done : Bool) : Type 0 where
  pub word : ℕ
  pub hit : MatchBool done (word ≡ 1) (word ≢ 1)
  pub picks : (view_of me.0).picks ≡ slice_set v.picks i (tick (tally_at v.picks i) word)
  pub letters : List Letter
  pub answers : (view_of me.0).answers ≡ v.answers ++ letters
  pub answered : AnswersOne v.seats i done v.publishes.count letters v.seen (view_of me.0).seen
  pub answer_steps : (view_of me.0).answered ≡ letter_ticks v.answered letters
  pub publishes : (view_of me.0).publishes.count ≡ v.publishes.count + length letters
  pub only : OnlyServes v (view_of me.0)
  pub slots : rest me.1 ≡ xs

-- a pick of mailbox i, and the request where it found 1
pub record PicksOne (m : Hands) (i : ℕ) (m' : Hands) (got : Option Request) : Type 0 where
  pub word : ℕ
  pub view : MatchOption got ((word ≢ 1) × (m' ≡ (tried_at (view_of m.0) i word ∷ [], m.1)))
      (λ r. (word ≡ 1) × ((since : ℕ) × (since ≤ length (view_of m.0).seen) × (m' ≡ (picked_at (view_of m.0) i word r since ∷ [], (i + 1, Empty) ∷ m.1))))

-- after what the taker has seen the engine has run what was picked, or nothing
pub record FollowsFor (v : View) (i : ℕ) (engine : History) : Type 0 where
  pub request : Request
  pub since : ℕ
  pub pick : v.pick ≡ Picked i request since 0 0
  pub seats : engine.seats ≡ v.seats
  pub run : List Entry
  pub grown : engine.entries ≡ v.seen ++ run
  pub by_seat : AllBy i run
  pub runs : (length run ≡ 0) ⊎ ((answer : Answer) × RunAt v.seats engine.entries i request since answer (length v.seen) (length v.seen + length run))

-- the outcome is one for the request picked, and tells the places that are published for it
pub record AnswersPick (v : View) (i : ℕ) (told : Outcome) : Type 0 where
  pub request : Request
  pub since : ℕ
  pub start : ℕ
  pub count : ℕ
  pub pick : v.pick ≡ Picked i request since start count
  pub is_told : IsTold v.seats v.seen i request since told
  pub same_places : places start count ≡ answer_places told

-- from number k on, each tally has one step more, with its word
abbrev pub ticks : List Tally → ℕ → List ℕ → List Tally
ticks ts k [] = ts
ticks ts k (x ∷ xs) = ticks (slice_set ts k (tick (tally_at ts k) x)) (k + 1) xs

-- how many of the words are 1
abbrev pub ones : List ℕ → ℕ
ones [] = 0
ones (x ∷ xs) = (if x == 1 then 1 else 0) + ones xs

-- The letters to mailbox k and those after it, whose words were these, in the order of their numbers. What was seen
-- grows by just their runs, and p publishes were made before the first.
abbrev pub AnswersAll : ℕ → ℕ → List ℕ → ℕ → List Letter → List Entry → List Entry → Type 0
AnswersAll seats k [] p letters seen now = (letters ≡ []) × (now ≡ seen)
AnswersAll seats k (x ∷ xs) p letters seen now =
    (first : List Letter) × (others : List Letter) × (after : List Entry) × (letters ≡ first ++ others) × AnswersOne seats k (x == 1) p first seen after × AnswersAll seats (k + 1) xs (p + length first) others after now

-- the mailboxes below this number were tried, each by one pick, and have their letters
pub record ServedAll (v : View) (xs : List (ℕ × Slot)) (tried : ℕ) (me : Hands) (done : ℕ) : Type 0 where
  pub found : List ℕ
  pub all : length found ≡ tried
  pub picks : (view_of me.0).picks ≡ ticks v.picks 0 found
  pub picked : done ≡ ones found
  pub letters : List Letter
  pub answers : (view_of me.0).answers ≡ v.answers ++ letters
  pub answered : AnswersAll v.seats 0 found v.publishes.count letters v.seen (view_of me.0).seen
  pub answer_steps : (view_of me.0).answered ≡ letter_ticks v.answered letters
  pub publishes : (view_of me.0).publishes.count ≡ v.publishes.count + length letters
  pub only : OnlyServes v (view_of me.0)
  pub slots : rest me.1 ≡ xs
