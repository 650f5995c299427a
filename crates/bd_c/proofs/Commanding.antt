-- A command that C gives to a live engine, of which a step was made or none.
use Rattle.std.proofs.Common.{◌≡◌, ℕ, List, [], ◌++◌, length, append-nil, arith, true, refl, sym, ap, subst, ◌∙◌}
use Rattle.std.specs.Prelude.{Some, Result, Ok, Err}
use Rattle.bd_uapi.specs.declared.fault.Fault.{Fault}
use Rattle.bd_uapi.specs.declared.command.Command.{Command}
use Rattle.bd_codec.specs.Spelling.{command_bytes, IsCommand}
use Rattle.bd_space.specs.declared.step.Step.{Step}
use Rattle.bd_space.specs.Histories.{History, HasLivePlace, is_at_end}
use Rattle.bd_engine.specs.Follows.{Follows}
use Rattle.bd_c.specs.declared.answers.Told.{Told}
use Rattle.bd_c.specs.declared.live.OwnedLive.{OwnedLive}
use Rattle.bd_c.specs.Lives.{Rests}
use Rattle.bd_c.specs.LiveCommands.{IsCommandOf}

-- no step was made, and nothing else
pub rests : (x : OwnedLive) (seat : ℕ) (told : Told) → Rests x x seat told told
rests x seat told = record {
  kept = refl;
  seats = refl;
  follows = λ h follows. follows;
  told = refl;
  ended = refl;
  notes = record { noted = refl; changed = refl };
  lists = record { reached = refl; whole = refl };
  recalls = λ _ before k. k;
  waits = refl;
  watches = λ _ h w. w;
}

-- ---- whether there is a place for one more step, by how many there were

abbrev Counts : OwnedLive → ℕ → Type 0
Counts x n = (h : History) → Follows x.bridge.engine.live h → n ≡ length h.entries

pub full : (x : OwnedLive) (n seat : ℕ) (z : Step) → Counts x n → n ≡ 18446744073709551615 → (h : History) → Follows x.bridge.engine.live h → is_at_end h seat (Some z) ≡ true
unfolding is_at_end
full x n seat z counts is h follows = search (arith, counts)

pub has_place : (x : OwnedLive) (n : ℕ) → Counts x n → (n ≡ 18446744073709551615 → ⊥) → (h : History) → Follows x.bridge.engine.live h → HasLivePlace h
has_place x n counts not h follows = let at = counts h follows in omega (arith, at, follows.lawful.short, not)

-- ---- bytes that are no command

-- what is read at the beginning of bytes is the only command that begins them, if one does
abbrev pub IsOnly : List ℕ → Result (Command × ℕ) Fault → Type 0
IsOnly bytes r = (c : Command) (rest : List ℕ) → IsCommand c → bytes ≡ command_bytes c ++ rest → r ≡ Ok (c, length (command_bytes c))

abbrev IsRead : Result (Command × ℕ) Fault → ℕ → Type 0
IsRead (Ok r) n = r.1 ≡ n
IsRead (Err x) n = ⊥

is_read : (bytes : List ℕ) (r : Result (Command × ℕ) Fault) → IsOnly bytes r → (c : Command) → IsCommandOf bytes c → IsRead r (length bytes)
is_read bytes r only c is =
    subst (λ (q : Result (Command × ℕ) Fault). IsRead q (length bytes)) (sym (only c [] is.0 (is.1 ∙ sym (append-nil (command_bytes c))))) (ap length (sym is.1))

-- bytes that begin with no command aren't one, nor are bytes of which a part is
pub no_begin : (bytes : List ℕ) (r : Result (Command × ℕ) Fault) (x : Fault) → IsOnly bytes r → r ≡ Err x → (c : Command) → IsCommandOf bytes c → ⊥
no_begin bytes r x only e c is = subst (λ (q : Result (Command × ℕ) Fault). IsRead q (length bytes)) e (is_read bytes r only c is)

pub no_end : (bytes : List ℕ) (r : Result (Command × ℕ) Fault) (d : Command) (n : ℕ) → IsOnly bytes r → r ≡ Ok (d, n) → (n ≡ length bytes → ⊥) → (c : Command) → IsCommandOf bytes c → ⊥
no_end bytes r d n only e other c is = other (subst (λ (q : Result (Command × ℕ) Fault). IsRead q (length bytes)) e (is_read bytes r only c is))
