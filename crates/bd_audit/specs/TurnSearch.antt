-- The turns of an object as a search notes them, step by step.
use Rattle.std.specs.Prelude.{ℕ, ◌≡◌, Bool, true, false, not, ◌&&◌, List, [], ◌∷◌, ◌++◌, take, Option, Some, None, is_some, map}
use Rattle.bd_ways.specs.Words.{list_any, list_all, filter_map, Identity, Entry, Buffer, when, is_some_and, same, Space}
use Rattle.bd_space.specs.Space.{opening}
use Rattle.bd_space.specs.Freeing.{is_made_at}
use Rattle.bd_space.specs.Histories.{History, next}
use Rattle.bd_audit.specs.declared.turns.Turn.{Turn}

-- the buffer is a one-way call's on this object
abbrev pub is_call_on : Identity → Buffer → Bool
is_call_on o b = b.one_way && is_some_and b.target (λ x. same x o)

-- the buffer made there lives, and was handed out
abbrev pub is_live : List Buffer → ℕ → Bool
is_live buffers made = list_any (is_made_at made) buffers

abbrev pub is_handed : List Buffer → ℕ → Bool
is_handed buffers made = list_any (λ b. is_made_at made b && b.handed) buffers

-- the place of what has happened, or this one if it happens now
abbrev pub noted_at : Option ℕ → ℕ → Bool → Option ℕ
noted_at (Some p) place now = Some p
noted_at None place true = Some place
noted_at None place false = None

-- a turn after the step at this place, which leaves these buffers
abbrev pub marked : ℕ → List Buffer → Turn → Turn
marked place buffers t = record {
  made = t.made;
  handed = noted_at t.handed place (is_handed buffers t.made);
  ended = noted_at t.ended place (not (is_live buffers t.made));
}

-- the turn whose buffer the step at this place made
abbrev pub turn_made : Identity → ℕ → Buffer → Option Turn
turn_made o place b = when (is_made_at place b && is_call_on o b) (record { made = place; handed = None; ended = None })

-- the turns after one step more, and after a list of them
abbrev pub next_turns : Identity → ℕ → List Buffer → List Turn → List Turn
next_turns o place buffers ts = map (marked place buffers) ts ++ filter_map (turn_made o place) buffers

abbrev pub turns_from : Identity → Space → List Turn → List Entry → List Turn
turns_from o s ts [] = ts
turns_from o s ts (e ∷ es) = turns_from o (next s e) (next_turns o s.steps (next s e).buffers ts) es

-- The turns of an object after all steps of a history.
unfoldable pub turns_on : Identity → History → List Turn
turns_on o h = turns_from o opening [] h.entries

-- ---- which turns a step can change

abbrev pub has_ended : Turn → Bool
has_ended t = is_some t.ended

-- while one of these hasn't ended, those after it stay as they are
abbrev pub Wait : (Turn → Turn) → List Turn → Type 0
Wait mark [] = Unit {0}
Wait mark (t ∷ ts) = (has_ended (mark t) ≡ false → map mark ts ≡ ts) × Wait mark ts

-- the first n have ended and stay as they are, and the others wait for one another
pub record AreInTurn (mark : Turn → Turn) (n : ℕ) (ts : List Turn) : Type 0 where
  pub ended : list_all has_ended (take n ts) ≡ true
  pub stay : map mark (take n ts) ≡ take n ts
  pub wait : Wait mark ts
