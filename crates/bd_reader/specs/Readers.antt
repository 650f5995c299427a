-- A thread that reads, and what it has yet to read.
use Rattle.std.specs.Prelude.{◌+◌, ◌-◌, ℕ, Bool, true, false, not, ◌==◌, ◌&&◌, ◌||◌, if◌then◌else◌}
use Rattle.bd_reader.specs.declared.reader.{Reader.{Reader}, Kind.{Kind}, Outcome.{Outcome}}
use Rattle.bd_reader.specs.declared.reader.Kind.TheVariants as kind
use Rattle.bd_reader.specs.declared.reader.Outcome.TheVariants as outcome

-- numbers of 32 bits
abbrev pub more : ℕ → ℕ
more n = if n == 0xffffffff then n else n + 1

abbrev pub fewer : ℕ → ℕ
fewer n = if n == 0 then 0 else n - 1

abbrev pub flag : Bool → ℕ
flag true = 1
flag false = 0

-- what a number says
abbrev pub is_set : ℕ → Bool
is_set n = not (n == 0)

-- what was refused and isn't told: nothing, a call, or a reply
abbrev pub no_refusal : ℕ
no_refusal = 0

abbrev pub refused_call : ℕ
refused_call = 1

abbrev pub refused_reply : ℕ
refused_reply = 2

-- that a call or a reply was taken, also where the thread is told that it floods
abbrev pub is_completion : ℕ → Bool
is_completion code = (code == 0x7206) || (code == 0x7213)

-- BR_FAILED_REPLY and BR_DEAD_REPLY
abbrev pub is_refusal : ℕ → Bool
is_refusal code = (code == 0x7211) || (code == 0x7205)

-- ---- what is sent

-- A reply is told to be taken also where it was refused, but for one to nobody.
abbrev pub sent : Kind → Outcome → Reader → Reader
sent kind.Call outcome.Taken s = record s { calling = more s.calling; completions = more s.completions; untold = more s.untold }
sent kind.OneWay outcome.Taken s = record s { untold = more s.untold; is_prompt = 1 }
sent kind.Reply outcome.Taken s = record s { serving = fewer s.serving; untold = more s.untold; is_prompt = 1 }
sent kind.Reply outcome.Refused s = record s { serving = fewer s.serving; untold = more s.untold; refusal = refused_reply; is_prompt = 1 }
sent kind.Reply outcome.NoCall s = record s { refusals = more s.refusals; refusal = refused_call }
sent kind.Call outcome.Refused s = record s { refusals = more s.refusals; refusal = refused_call }
sent kind.Call outcome.NoCall s = record s { refusals = more s.refusals; refusal = refused_call }
sent kind.OneWay outcome.Refused s = record s { refusals = more s.refusals; refusal = refused_call }
sent kind.OneWay outcome.NoCall s = record s { refusals = more s.refusals; refusal = refused_call }

-- ---- what is read

-- what its sender is told of an object that a call carries: BR_INCREFS and BR_ACQUIRE
abbrev pub is_of_object : ℕ → Bool
is_of_object code = (code == 0x80107207) || (code == 0x80107208)

-- What can wait for the reply to a call: that the call was taken, and what its sender is told of the objects that it carries.
abbrev pub can_wait : ℕ → Reader → Bool
can_wait code s = (code == 0x720c) || (code == 0x7206) || (not (s.calling == 0) && is_of_object code)

-- a call of it was refused, or one that was taken gets no reply
abbrev pub ended : Reader → Reader
ended s = if s.refusals == 0 then record s { calling = fewer s.calling; is_prompt = 1 } else record s { refusals = fewer s.refusals; is_prompt = 1 }

abbrev pub read_more : ℕ → Reader → Reader
read_more code s =
    if code == 0x7206 then record s { completions = fewer s.completions; completed = more s.completed }
    else if code == 0x7213 then record s { completed = more s.completed; is_prompt = 1 }
    else if code == 0x80087210 then record s { clearings = fewer s.clearings; is_prompt = 1 }
    else if not (s.calling == 0) && is_of_object code then s
    else record s { is_prompt = 1 }

abbrev pub read : ℕ → Bool → Reader → Reader
read code one_way s =
    if code == 0x720c then s
    else if code == 0x80407202 then record s { serving = if one_way then s.serving else more s.serving; is_prompt = 1 }
    else if code == 0x80407203 then record s { calling = fewer s.calling; is_prompt = 1 }
    else if is_refusal code then ended s
    else read_more code s

-- ---- what is told

abbrev pub without_reply : ℕ → ℕ → ℕ
without_reply untold refusal = if (untold == 0) && (refusal == refused_reply) then no_refusal else refusal

abbrev pub without_call : ℕ → ℕ
without_call refusal = if refusal == refused_call then no_refusal else refusal

-- The last completion tells of a refused reply as well.
abbrev pub told : ℕ → Reader → Reader
told code s =
    if is_completion code then record s { completed = fewer s.completed; untold = fewer s.untold; refusal = without_reply (fewer s.untold) s.refusal }
    else if is_refusal code then record s { refusal = without_call s.refusal }
    else s

-- a read was answered
abbrev pub delivered : Bool → Bool → Reader → Reader
delivered is_left is_ready s = record s {
  is_prompt = flag (is_left || (is_set s.is_prompt && (is_set s.is_full || (if s.calling == 0 then not (s.untold == 0) else is_ready))));
  is_behind = 0;
  is_full = 0;
}
