-- What a thread's read does next, by what it has left.
use Rattle.std.specs.Prelude.{◌≡◌, ◌+◌, ◌-◌, ◌<◌, ◌^◌, ℕ, List, [], ◌∷◌, Bool, true, false, not, nat_le, nat_lt, ◌==◌, ◌&&◌, ◌||◌, if◌then◌else◌}
use Rattle.bd_reader.specs.declared.reader.{Reader.{Reader}, Kind.{Kind}}
use Rattle.bd_reader.specs.declared.facts.{Pending.{Pending}, Facts.{Facts}}
use Rattle.bd_reader.specs.declared.reader.Outcome.TheVariants.{Taken, Refused}
use Rattle.bd_reader.specs.Readers.{can_wait, is_set, is_completion, is_refusal, refused_call, refused_reply, fewer, sent, read, told, delivered}
use Rattle.bd_reader.specs.Returns.{read_all, told_all}

-- BR_NOOP and 76 bytes are kept free
abbrev pub limit_of : Pending → ℕ
limit_of p = if nat_lt (p.size + 80) p.room then p.room - p.size - 8 else 72

abbrev pub has_room : Pending → Reader → Bool
has_room p s = nat_le 80 p.room || not (s.calling == 0)

abbrev pub is_there : Pending → Reader → Bool
is_there p s = (not (p.size == 0) && is_set s.is_prompt) || is_set s.is_full

abbrev pub is_left : Reader → Bool
is_left s = nat_lt s.completed s.untold

abbrev pub facts_of : Pending → Reader → Facts
facts_of p s = record {
  is_there = is_there p s;
  is_whole = is_there p s && not (is_set s.is_behind && is_left s);
  is_left = is_left s;
  defers = not (s.calling == 0) && not (is_set s.is_prompt);
  fetches = not (s.completions == 0) && not (is_set s.is_prompt);
  is_idle = is_set p.is_looping && (s.serving == 0) && (s.calling == 0);
  has_room = has_room p s;
  limit = limit_of p;
}

-- ---- laws

-- Who has read what can't wait has something to be answered with, whatever it reads after that.
abbrev pub WhatCannotWaitIsTold : Type 0
WhatCannotWaitIsTold = (code : ℕ) (one_way : Bool) (rest : List (ℕ × Bool)) (s : Reader) (p : Pending) → can_wait code s ≡ false → (p.size == 0) ≡ false
    → is_there p (read_all rest (read code one_way s)) ≡ true

-- What was refused stays so until the thread is told that: it isn't forgotten by what it reads, or by what else is taken or told. A call is told to
-- be refused by a refusal, and a reply by the completion of all that the thread has sent.
pub record WhatWasRefusedIsToldFirst : Type 0 where
  pub begun : (kind : Kind) (s : Reader) → is_set (sent kind Refused s).refusal ≡ true
  pub read : (code : ℕ) (one_way : Bool) (s : Reader) → (read code one_way s).refusal ≡ s.refusal
  pub sent : (kind : Kind) (s : Reader) → (sent kind Taken s).refusal ≡ s.refusal
  pub call : (code : ℕ) (s : Reader) → s.refusal ≡ refused_call → is_refusal code ≡ false → (told code s).refusal ≡ refused_call
  pub reply : (code : ℕ) (s : Reader) → s.refusal ≡ refused_reply → (fewer s.untold == 0) ≡ false → (told code s).refusal ≡ refused_reply
  pub told : (code : ℕ) (s : Reader) → is_completion code ≡ false → is_refusal code ≡ false → (told code s).refusal ≡ s.refusal
  pub delivered : (is_left is_ready : Bool) (s : Reader) → (delivered is_left is_ready s).refusal ≡ s.refusal

-- so many of these are completions
abbrev pub completions_in : List (ℕ × Bool) → ℕ
completions_in [] = 0
completions_in (r ∷ rs) = (if is_completion r.0 then 1 else 0) + completions_in rs

-- How many completions a thread has read and wasn't told is counted, while that is less than 2 ^ 32.
pub record CompletionsAreCounted : Type 0 where
  pub read : (rs : List (ℕ × Bool)) (s : Reader) → s.completed + completions_in rs < 2 ^ 32 → (read_all rs s).completed ≡ s.completed + completions_in rs
  pub told : (rs : List (ℕ × Bool)) (s : Reader) → (told_all rs s).completed ≡ s.completed - completions_in rs
  pub sent : (kind : Kind) (s : Reader) → (sent kind Taken s).completed ≡ s.completed
  pub delivered : (is_left is_ready : Bool) (s : Reader) → (delivered is_left is_ready s).completed ≡ s.completed
