-- What holds of all that the threads of a process send.
use Rattle.std.specs.Prelude.{◌≡◌, ◌⊎◌, ◌≤◌, ◌==◌, ◌&&◌, ℕ, List, [], Bool, true, false, count_by}
use Rattle.std.specs.List.{list_any}
use Rattle.bd_sendings.specs.declared.sent.{Sent.{Sent}, Sending.{Sending}}
use Rattle.bd_sendings.specs.Sendings.{is_of, is_told, has_sent, noted, ended, told_of, is_before}

-- a thread knows each object once, and of each object one thread at most is told
pub record AreOnce (known : List Sent) : Type 0 where
  pub sent : (thread ptr : ℕ) → count_by (is_of thread ptr) known ≤ 1
  pub told : (ptr : ℕ) → count_by (is_told ptr) known ≤ 1

-- So it is at the beginning, and stays so, whatever is sent, and whatever is read.
pub record EachIsKnownOnce : Type 0 where
  pub none : AreOnce []
  pub notes : (s : Sending) (body offsets : List ℕ) (known : List Sent) → AreOnce known → AreOnce (noted s body offsets known)
  pub ends : (thread : ℕ) (known : List Sent) → AreOnce known → AreOnce (ended thread known)

-- Who is told in another's place has sent the object itself.
abbrev pub WhoIsToldHasSentIt : Type 0
WhoIsToldHasSentIt = (thread ptr : ℕ) (known : List Sent)
    → (told_of thread ptr known ≡ thread) ⊎ (list_any (λ e. (e.sender == told_of thread ptr known) && is_told ptr e) known ≡ true)

-- What was handed over isn't handed on: one thread is told in the end, and once.
abbrev pub NobodyIsToldTwice : Type 0
NobodyIsToldTwice = (thread ptr : ℕ) (known : List Sent) → AreOnce known → told_of (told_of thread ptr known) ptr known ≡ told_of thread ptr known

-- What isn't known is told by the rules: its thread is told, where it stands.
abbrev pub WhatIsUnknownStays : Type 0
WhatIsUnknownStays = (thread ptr : ℕ) (known : List Sent) → has_sent thread ptr known ≡ false
    → (told_of thread ptr known ≡ thread) × ((other : ℕ) → (is_before thread ptr other known ≡ false) × (is_before thread other ptr known ≡ false))
