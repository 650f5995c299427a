-- What is done about threads that wait, as numbers for C.
use Rattle.std.specs.Prelude.{ℕ, ◌==◌, if◌then◌else◌}
use Rattle.bd_waiting.specs.declared.waits.{Place.{Place}}
use Rattle.bd_waiting.specs.declared.coming.{Outcome.{Outcome}, Doing.{Doing}, Heard.{Heard}}
use Rattle.bd_waiting.specs.declared.requests.{Begin.{Begin}, End.{End}, Why.{Why}, Cancel.{Cancel}}
use Rattle.bd_waiting.specs.declared.cleared.{Clearing.{Clearing}}
use Rattle.bd_waiting.specs.declared.loopers.{Front.{Front}}
use Rattle.bd_waiting.specs.declared.waits.Place.TheVariants as place
use Rattle.bd_waiting.specs.declared.coming.Outcome.TheVariants as outcome
use Rattle.bd_waiting.specs.declared.coming.Doing.TheVariants as doing
use Rattle.bd_waiting.specs.declared.coming.Heard.TheVariants as heard
use Rattle.bd_waiting.specs.declared.requests.Begin.TheVariants as begin
use Rattle.bd_waiting.specs.declared.requests.End.TheVariants as end
use Rattle.bd_waiting.specs.declared.requests.Why.TheVariants as why
use Rattle.bd_waiting.specs.declared.requests.Cancel.TheVariants as cancel
use Rattle.bd_waiting.specs.declared.cleared.Clearing.TheVariants as clearing
use Rattle.bd_waiting.specs.declared.loopers.Front.TheVariants as front

abbrev pub place_number : Place → ℕ
place_number place.Nowhere = 0
place_number place.First = 1
place_number place.Last = 2

abbrev pub doing_number : Doing → ℕ
doing_number doing.Nothing = 0
doing_number doing.Notes = 1
doing_number doing.Fetches = 2
doing_number doing.Answers = 3
doing_number doing.Queues = 4
doing_number doing.Fails = 5

abbrev pub heard_number : Heard → ℕ
heard_number heard.Rings = 0
heard_number heard.Fetches = 1
heard_number heard.IsFull = 2

abbrev pub begin_number : Begin → ℕ
begin_number begin.Waits = 0
begin_number begin.Looks = 1
begin_number begin.ComesBack = 2
begin_number begin.Fetches = 3

abbrev pub end_number : End → ℕ
end_number end.Rests = 0
end_number end.GoesOn = 1
end_number end.Tells = 2
end_number end.Fails = 3
end_number end.Answers = 4
end_number end.WouldBlock = 5
end_number end.Waits = 6

abbrev pub number_of_cancel : Cancel → ℕ
number_of_cancel cancel.Rests = 0
number_of_cancel cancel.ComesBack = 1
number_of_cancel cancel.Interrupts = 2
number_of_cancel cancel.Refuses = 3

abbrev pub clearing_number : Clearing → ℕ
clearing_number clearing.IsNotTold = 0
clearing_number clearing.IsTold = 1
clearing_number clearing.LooksOn = 2

-- BR_NOOP, BR_SPAWN_LOOPER
abbrev pub front_code : Front → ℕ
front_code front.Nothing = 0
front_code front.Noop = 0x720c
front_code front.SpawnLooper = 0x720d

abbrev pub outcome_given : ℕ → Outcome
outcome_given n = if n == 0 then outcome.Something else if n == 1 then outcome.Nothing else outcome.Failed

abbrev pub why_given : ℕ → Why
why_given n = if n == 1 then why.IsInterrupted else if n == 2 then why.IsToReturn else why.Nothing
