-- The replies that readings hand out, among the bytes of their answers.
use Rattle.std.specs.Prelude.{ℕ, ◌≡◌, Bool, true, false, List, is_some}
use Rattle.bd_ways.specs.Words.{list_any, Return, Entry, Space}
use Rattle.bd_uapi.specs.declared.command.Return.TheVariants as br
use Rattle.bd_space.specs.declared.step.StepAnswer.TheVariants.{Got}
use Rattle.bd_space.specs.Histories.{History, IsHistory}
use Rattle.bd_audit.specs.Replies.{reply_taken, At}
use Rattle.bd_audit.specs.Streams.{SpellsItems, returns_given}

-- Whether the return is a BR_REPLY.
abbrev pub is_reply : Return → Bool
is_reply (br.Reply x) = true
is_reply _ = false

-- the bytes spell what the step's items give, and a BR_REPLY is there exactly where the step takes a reply
pub record HandsOut (z : Space) (e : Entry) (stream : List ℕ) : Type 0 where
  pub spelt : SpellsItems z e stream
  pub replies : list_any is_reply (returns_given z e) ≡ is_some (reply_taken z e)

-- what a reading hands out has a BR_REPLY exactly where the reading takes a reply
abbrev pub RepliesAreHandedOut : Type 0
RepliesAreHandedOut = (h : History) → IsHistory h → (i : ℕ) (stream bytes offsets : List ℕ)
    → At h.entries i (λ z e. e.answer ≡ Got stream bytes offsets) → At h.entries i (λ z e. HandsOut z e stream)
