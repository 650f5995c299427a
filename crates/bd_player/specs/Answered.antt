-- Whether there is what was asked for, and whether it was asked of a place that there is.
use Rattle.std.specs.Prelude.{◌≡◌, Bool, true, is_some, length, nat_lt}
use Rattle.bd_space.specs.Histories.{History, space_after}
use Rattle.bd_engine.specs.Looks.{named_by}
use Rattle.bd_audit.specs.Replies.{call_answered}
use Rattle.bd_player.specs.declared.questions.Question.{Question}
use Rattle.bd_player.specs.declared.questions.Question.TheVariants.{Chain, CallOfReply, Turns}

-- Whether there is what is asked for: of a chain, whether the process has such a handle; of a reply, whether the reading handed one out.
abbrev pub IsThere : History → Question → Bool → Type 0
IsThere h (Chain pid handle) b = b ≡ is_some (named_by (space_after h) pid handle)
IsThere h (CallOfReply place) b = b ≡ is_some (call_answered h place)
IsThere h _ b = b ≡ true

-- Whether the place that the question names, if it names one, is one of the history.
abbrev pub names_place : History → Question → Bool
names_place h (Chain pid handle) = true
names_place h (CallOfReply place) = nat_lt place (length h.entries)
names_place h (Turns place index) = nat_lt place (length h.entries)
