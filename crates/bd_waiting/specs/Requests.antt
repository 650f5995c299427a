-- How a request that reads begins and ends.
use Rattle.std.specs.Prelude.{ℕ, Bool, not, ◌==◌, ◌&&◌, ◌||◌, if◌then◌else◌}
use Rattle.bd_reader.specs.declared.reader.{Reader.{Reader}}
use Rattle.bd_reader.specs.Readers.{is_set}
use Rattle.bd_waiting.specs.declared.requests.{Begin.{Begin}, Ending.{Ending}, End.{End}, Why.{Why}, Cancel.{Cancel}}
use Rattle.bd_waiting.specs.declared.requests.Begin.TheVariants as begin
use Rattle.bd_waiting.specs.declared.requests.End.TheVariants as end
use Rattle.bd_waiting.specs.declared.requests.Why.TheVariants as why
use Rattle.bd_waiting.specs.declared.requests.Cancel.TheVariants as cancel

-- what it has brought about itself is there, and isn't read yet
abbrev pub is_unread : ℕ → Reader → Bool
is_unread size s = is_set s.is_prompt && not (s.untold == 0) && (size == 0)

abbrev pub begins_by : ℕ → Bool → Bool → Bool → Reader → Begin
begins_by size there may_wait to_return s =
    if is_unread size s then begin.Fetches
    else if not may_wait || there || to_return then begin.ComesBack
    else if s.calling == 0 then begin.Looks
    else begin.Waits

abbrev pub read_ends_by : Ending → End
read_ends_by e =
    if e.has_failed then end.Fails
    else if not e.is_at_once then end.Rests
    else if e.is_there || e.is_to_return then end.Answers
    else if e.may_wait then end.Waits
    else end.WouldBlock

abbrev pub ends_by : Ending → End
ends_by e =
    if e.is_put_off then end.GoesOn
    else if not e.reads then end.Tells
    else if not e.is_reading then end.Rests
    else read_ends_by e

-- who waits for a seat and is to come back waits for that
abbrev pub cancels_by : Bool → Why → Cancel
cancels_by reading why.Nothing = cancel.Rests
cancels_by reading why.IsInterrupted = if reading then cancel.Interrupts else cancel.Refuses
cancels_by reading why.IsToReturn = if reading then cancel.ComesBack else cancel.Rests
