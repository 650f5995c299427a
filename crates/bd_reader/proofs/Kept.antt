-- What stays as a thread reads.
use Rattle.std.proofs.Common.{◌≡◌, ℕ, Bool, true, false, List, [], ◌∷◌, refl, ap, ◌∙◌}
use Rattle.std.specs.Prelude.{not, ◌==◌, ◌&&◌, ◌||◌, if◌then◌else◌}
use Rattle.bd_reader.specs.declared.reader.{Reader.{Reader}, Kind.{Kind}}
use Rattle.bd_reader.specs.declared.reader.Kind.TheVariants.{Call, OneWay, Reply}
use Rattle.bd_reader.specs.declared.reader.Outcome.TheVariants.{Taken, Refused}
use Rattle.bd_reader.specs.Readers.{more, fewer, is_set, is_of_object, is_completion, is_refusal, refused_call, refused_reply, no_refusal, without_reply, without_call, can_wait, ended, read_more, read, sent, told}
use Rattle.bd_reader.specs.Returns.{read_all}
use Rattle.bd_reader.specs.Facts.{WhatCannotWaitIsTold, WhatWasRefusedIsToldFirst}

-- ---- prompt

prompt_of : (c : Bool) (x y : Reader) → is_set x.is_prompt ≡ true → is_set y.is_prompt ≡ true → is_set (if c then x else y).is_prompt ≡ true
prompt_of true x y p q = p
prompt_of false x y p q = q

ended_prompt : (s : Reader) → is_set (ended s).is_prompt ≡ true
ended_prompt s = prompt_of (s.refusals == 0) (record s { calling = fewer s.calling; is_prompt = 1 }) (record s { refusals = fewer s.refusals; is_prompt = 1 }) refl refl

more_prompt : (code : ℕ) (s : Reader) → is_set s.is_prompt ≡ true → is_set (read_more code s).is_prompt ≡ true
more_prompt code s p =
    prompt_of (code == 0x7206) (record s { completions = fewer s.completions; completed = more s.completed }) _ p
    (prompt_of (code == 0x7213) (record s { completed = more s.completed; is_prompt = 1 }) _ refl
    (prompt_of (code == 0x80087210) (record s { clearings = fewer s.clearings; is_prompt = 1 }) _ refl
    (prompt_of (not (s.calling == 0) && is_of_object code) s (record s { is_prompt = 1 }) p refl)))

stays_prompt : (code : ℕ) (one_way : Bool) (s : Reader) → is_set s.is_prompt ≡ true → is_set (read code one_way s).is_prompt ≡ true
stays_prompt code one_way s p =
    prompt_of (code == 0x720c) s _ p
    (prompt_of (code == 0x80407202) (record s { serving = if one_way then s.serving else more s.serving; is_prompt = 1 }) _ refl
    (prompt_of (code == 0x80407203) (record s { calling = fewer s.calling; is_prompt = 1 }) _ refl
    (prompt_of (is_refusal code) (ended s) (read_more code s) (ended_prompt s) (more_prompt code s p))))

all_prompt : (rs : List (ℕ × Bool)) (s : Reader) → is_set s.is_prompt ≡ true → is_set (read_all rs s).is_prompt ≡ true
all_prompt [] s p = p
all_prompt (r ∷ rs) s p = all_prompt rs (read r.0 r.1 s) (stays_prompt r.0 r.1 s p)

-- by what can't wait
urgent : (a b c : Bool) → (a || b || c) ≡ false → (a ≡ false) × (b ≡ false) × (c ≡ false)
urgent false false false e = (refl, refl, refl)
urgent false false true e = absurd cc
urgent false true c e = absurd cc
urgent true b c e = absurd cc

prompt_unless : (c : Bool) (x y : Reader) → c ≡ false → is_set y.is_prompt ≡ true → is_set (if c then x else y).is_prompt ≡ true
prompt_unless true x y e q = absurd cc
prompt_unless false x y e q = q

becomes_prompt : (code : ℕ) (one_way : Bool) (s : Reader) → can_wait code s ≡ false → is_set (read code one_way s).is_prompt ≡ true
becomes_prompt code one_way s cannot =
    let u = urgent (code == 0x720c) (code == 0x7206) (not (s.calling == 0) && is_of_object code) cannot in
    prompt_unless (code == 0x720c) s _ u.0
    (prompt_of (code == 0x80407202) (record s { serving = if one_way then s.serving else more s.serving; is_prompt = 1 }) _ refl
    (prompt_of (code == 0x80407203) (record s { calling = fewer s.calling; is_prompt = 1 }) _ refl
    (prompt_of (is_refusal code) (ended s) (read_more code s) (ended_prompt s)
    (prompt_unless (code == 0x7206) (record s { completions = fewer s.completions; completed = more s.completed }) _ u.1
    (prompt_of (code == 0x7213) (record s { completed = more s.completed; is_prompt = 1 }) _ refl
    (prompt_of (code == 0x80087210) (record s { clearings = fewer s.clearings; is_prompt = 1 }) _ refl
    (prompt_unless (not (s.calling == 0) && is_of_object code) s (record s { is_prompt = 1 }) u.2 refl)))))))

there : (empty prompt full : Bool) → empty ≡ false → prompt ≡ true → ((not empty && prompt) || full) ≡ true
there false true full e p = refl
there true prompt full e p = absurd cc
there false false full e p = absurd cc

pub cannot_wait : WhatCannotWaitIsTold
cannot_wait code one_way rest s p cannot size =
    let after = read_all rest (read code one_way s) in
    there (p.size == 0) (is_set after.is_prompt) (is_set after.is_full) size (all_prompt rest (read code one_way s) (becomes_prompt code one_way s cannot))

-- ---- refusals

same_of : (c : Bool) (x y : Reader) (r : ℕ) → x.refusal ≡ r → y.refusal ≡ r → (if c then x else y).refusal ≡ r
same_of true x y r p q = p
same_of false x y r p q = q

read_same : (code : ℕ) (one_way : Bool) (s : Reader) → (read code one_way s).refusal ≡ s.refusal
read_same code one_way s =
    same_of (code == 0x720c) s _ s.refusal refl
    (same_of (code == 0x80407202) (record s { serving = if one_way then s.serving else more s.serving; is_prompt = 1 }) _ s.refusal refl
    (same_of (code == 0x80407203) (record s { calling = fewer s.calling; is_prompt = 1 }) _ s.refusal refl
    (same_of (is_refusal code) (ended s) (read_more code s) s.refusal
    (same_of (s.refusals == 0) (record s { calling = fewer s.calling; is_prompt = 1 }) (record s { refusals = fewer s.refusals; is_prompt = 1 }) s.refusal refl refl)
    (same_of (code == 0x7206) (record s { completions = fewer s.completions; completed = more s.completed }) _ s.refusal refl
    (same_of (code == 0x7213) (record s { completed = more s.completed; is_prompt = 1 }) _ s.refusal refl
    (same_of (code == 0x80087210) (record s { clearings = fewer s.clearings; is_prompt = 1 }) _ s.refusal refl
    (same_of (not (s.calling == 0) && is_of_object code) s (record s { is_prompt = 1 }) s.refusal refl refl)))))))

sent_same : (kind : Kind) (s : Reader) → (sent kind Taken s).refusal ≡ s.refusal
sent_same Call s = refl
sent_same OneWay s = refl
sent_same Reply s = refl

refused : (kind : Kind) (s : Reader) → is_set (sent kind Refused s).refusal ≡ true
refused Call s = refl
refused OneWay s = refl
refused Reply s = refl

untouched : (a b : Bool) (x y s : Reader) → a ≡ false → b ≡ false → (if a then x else if b then y else s).refusal ≡ s.refusal
untouched true b x y s p q = absurd cc
untouched false true x y s p q = absurd cc
untouched false false x y s p q = refl

-- what completions tell leaves a refused call, and the last one alone tells of a refused reply
call_stays : (untold : ℕ) → without_reply untold refused_call ≡ refused_call
call_stays untold = of (untold == 0)
  where
    of : (b : Bool) → (if b && (refused_call == refused_reply) then no_refusal else refused_call) ≡ refused_call
    of true = refl
    of false = refl

reply_stays : (untold : ℕ) → (untold == 0) ≡ false → without_reply untold refused_reply ≡ refused_reply
reply_stays untold e = rw e refl

told_call : (code : ℕ) (s : Reader) → s.refusal ≡ refused_call → is_refusal code ≡ false → (told code s).refusal ≡ refused_call
told_call code s is other =
    same_of (is_completion code) (record s { completed = fewer s.completed; untold = fewer s.untold; refusal = without_reply (fewer s.untold) s.refusal }) _ refused_call
    (ap (without_reply (fewer s.untold)) is ∙ call_stays (fewer s.untold))
    (unless_refused (is_refusal code) other)
  where
    unless_refused : (b : Bool) → b ≡ false → (if b then record s { refusal = without_call s.refusal } else s).refusal ≡ refused_call
    unless_refused true e = absurd cc
    unless_refused false e = is

told_reply : (code : ℕ) (s : Reader) → s.refusal ≡ refused_reply → (fewer s.untold == 0) ≡ false → (told code s).refusal ≡ refused_reply
told_reply code s is some =
    same_of (is_completion code) (record s { completed = fewer s.completed; untold = fewer s.untold; refusal = without_reply (fewer s.untold) s.refusal }) _ refused_reply
    (ap (without_reply (fewer s.untold)) is ∙ reply_stays (fewer s.untold) some)
    (same_of (is_refusal code) (record s { refusal = without_call s.refusal }) s refused_reply (ap without_call is) is)

pub told_first : WhatWasRefusedIsToldFirst
told_first = record {
  begun = refused;
  read = read_same;
  sent = sent_same;
  call = told_call;
  reply = told_reply;
  told = λ code s p q. untouched (is_completion code) (is_refusal code) _ _ s p q;
  delivered = λ is_left is_ready s. refl;
}
