-- What `serve` says.
use Rattle.std.specs.Prelude.{◌≡◌, ℕ, ◌+◌, ◌%◌, List, ◌++◌, length}
use Rattle.bd_space.specs.{declared.step.Entry.{Entry}, Histories.{BeginsWith}}
use Rattle.bd_driver.specs.{declared.view.View.{View}, declared.view.Letter.{Letter}, declared.outcome.Served.{Served}}
use Rattle.bd_driver.specs.{declared.outcome.Served.TheVariants.{Taken, Ran}, Serve.{ticks, ones, letter_ticks, AnswersAll}}

-- after a take that found the engine away nothing else is done
pub record ServesNothing (v w : View) : Type 0 where
  pub was_taken : w.takes.found % 2 ≡ 1
  pub picks : w.picks ≡ v.picks
  pub answers : w.answers ≡ v.answers
  pub answer_steps : w.answered ≡ v.answered
  pub publishes : w.publishes ≡ v.publishes
  pub puts : w.puts ≡ v.puts

-- Each mailbox was tried by one pick, in the order of the seats. Each that was found posted got one letter, by one
-- step, and one publish was made before each letter: `answered` says how many there were by then, and how long the
-- published history was. What is seen grew, after what the take found, by just the runs of the letters. One put ended
-- it.
pub record ServesEach (seats : ℕ) (v w : View) (picked : ℕ) : Type 0 where
  pub was_free : w.takes.found % 2 ≡ 0
  pub found : List ℕ
  pub all : length found ≡ seats
  pub picks : w.picks ≡ ticks v.picks 0 found
  pub count : picked ≡ ones found
  pub letters : List Letter
  pub answers : w.answers ≡ v.answers ++ letters
  pub before : List Entry
  pub begins : BeginsWith before v.seen
  pub answered : AnswersAll v.seats 0 found v.publishes.count letters before w.seen
  pub answer_steps : w.answered ≡ letter_ticks v.answered letters
  pub publishes : w.publishes.count ≡ v.publishes.count + length letters
  pub puts : w.puts.count ≡ v.puts.count + 1

abbrev pub IsServed : ℕ → View → View → Served → Type 0
IsServed seats v w Taken = ServesNothing v w
IsServed seats v w (Ran picked) = ServesEach seats v w picked

-- a serve, by the steps that it made and by what came of the mailboxes
pub record Serves (seats : ℕ) (v w : View) (served : Served) : Type 0 where
  pub who : (w.seats ≡ v.seats) × (w.who ≡ v.who)
  pub one_take : w.takes.count ≡ v.takes.count + 1
  pub no_look : w.looks ≡ v.looks
  pub no_mail : (w.posts ≡ v.posts) × (w.withdraws ≡ v.withdraws) × (w.collects ≡ v.collects)
  pub no_opening : (w.opens ≡ v.opens) × (w.shuts ≡ v.shuts)
  pub begins : BeginsWith w.seen v.seen
  pub own : w.own ≡ v.own
  pub handover : w.handover ≡ v.handover
  pub outcome : IsServed seats v w served
