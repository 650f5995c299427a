-- What is done when something comes for a thread.
use Rattle.std.specs.Prelude.{Bool, not, ◌&&◌, ◌||◌, if◌then◌else◌}
use Rattle.bd_reader.specs.declared.facts.{Facts.{Facts}}
use Rattle.bd_waiting.specs.declared.waits.{Waits.{Waits}}
use Rattle.bd_waiting.specs.declared.coming.{Outcome.{Outcome}, Doing.{Doing}, Heard.{Heard}}
use Rattle.bd_waiting.specs.declared.coming.Outcome.TheVariants as outcome
use Rattle.bd_waiting.specs.declared.coming.Doing.TheVariants as doing
use Rattle.bd_waiting.specs.declared.coming.Heard.TheVariants as heard

-- where threads of its process poll, their doorbells come first
abbrev pub answers_by : Bool → Doing
answers_by polls = if polls then doing.Queues else doing.Answers

-- who was woken, and has what it is to be told, is answered
abbrev pub taken_as : Outcome → Bool → Bool → Bool → Bool → Doing
taken_as outcome.Failed wakes behind empty polls = doing.Fails
taken_as outcome.Nothing wakes behind empty polls = doing.Notes
taken_as outcome.Something wakes behind empty polls =
    if not wakes then doing.Notes
    else if behind then doing.Fetches
    else if empty then doing.Notes
    else answers_by polls

-- who has all that is told together is answered
abbrev pub touched_as : Bool → Bool → Waits → Doing
touched_as whole polls w =
    if w.is_reading && whole then answers_by polls
    else if w.is_reading || w.told.has_bell || w.told.reads then doing.Notes
    else doing.Nothing

abbrev pub heard_as : Facts → Bool → Bool → Waits → Heard
heard_as f rings there w =
    if rings && w.is_reading && not f.has_room then heard.IsFull
    else if rings && not there && f.fetches then heard.Fetches
    else heard.Rings

abbrev pub is_answered : Bool → Waits → Bool
is_answered there w = w.is_reading && there
