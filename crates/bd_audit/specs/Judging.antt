-- What a judge has seen of a history.
use Rattle.std.specs.Prelude.{ℕ, ◌≤◌, Option, Some, None}
use Rattle.bd_space.specs.Histories.{History, IsLawful}
use Rattle.bd_engine.specs.declared.live.Live.{Live}
use Rattle.bd_engine.specs.Follows.{Follows}
use Rattle.bd_audit.specs.declared.judge.Judge.{Judge}
use Rattle.bd_audit.specs.Replays.{IsLawfulUpTo}

-- what was seen is lawful, and the engine follows it, or it stopped being so at this place
abbrev pub HasSeen : Live → Option ℕ → History → Type 0
HasSeen live None h = Follows live h
HasSeen live (Some at) h = IsLawfulUpTo h at

-- The entries that the judge has seen are those of h, and it knows where they stop being lawful, or that they are.
abbrev pub HasJudged : Judge → History → Type 0
HasJudged j h = HasSeen j.live j.stopped h

-- the place is that at which it stops being lawful; without one it is lawful
abbrev pub IsStop : History → Option ℕ → Type 0
IsStop h None = IsLawful h
IsStop h (Some at) = (IsLawful h → ⊥) × IsLawfulUpTo h at

-- Whoever watches was told last that all of so many are done, where there are any.
abbrev pub HasHeardAll : {W : Type 0} → (W → ℕ → ℕ → Type 0) → W → ℕ → Type 0
HasHeardAll heard w all = 1 ≤ all → heard w all all

-- it was told how much is done, where so many are that there is one
abbrev pub HasHeard : {W : Type 0} → (W → ℕ → ℕ → Type 0) → W → ℕ → Type 0
HasHeard heard w many = 1 ≤ many → (done : ℕ) × (all : ℕ) × heard w done all
