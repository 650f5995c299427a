-- What the program's words ask for, by what a parse found of them.
use Rattle.std.specs.Prelude.{◌≡◌, ℕ, ◌<◌, ◌^◌, true, false, List, Some, None, codes}
use Rattle.std.specs.Option.{option_map}
use Rattle.std.specs.Str.Parse.{IsNumeral, digits_value, without_leading_plus}
use Rattle.clap.specs.declared.parser.matches.Found.{Found}
use Rattle.clap.specs.Matches.{first_value, one_text}
use Rattle.bd_player.specs.declared.manner.Manner.{Manner}
use Rattle.bd_play.specs.declared.arguments.Order.{Order}
use Rattle.bd_play.specs.declared.arguments.Order.TheVariants as order

abbrev pub usual_turns : ℕ
usual_turns = 100000000

-- The text is the decimal numeral of a number of 32 bits.
pub record IsTurns (text : List ℕ) : Type 0 where
  pub numeral : IsNumeral 10 (without_leading_plus text)
  pub fits : digits_value 10 (without_leading_plus text) < 2 ^ 32

-- The manner is with threads where the flag was given, and has the turns that were given or else the usual ones.
pub record IsManner (found : Found) (m : Manner) : Type 0 where
  pub threads : one_text found (codes "threads") ≡ Some (codes "true") → m.threads ≡ true
  pub one_by_one : one_text found (codes "threads") ≡ Some (codes "false") → m.threads ≡ false
  pub turns : (text : List ℕ) → one_text found (codes "turns") ≡ Some text → IsTurns text
      → m.turns ≡ digits_value 10 (without_leading_plus text)
  pub usual : one_text found (codes "turns") ≡ None → m.turns ≡ usual_turns

-- The order is to play a script, with the file, the manner and the journal that were found.
abbrev pub PlaysFound : Found → Order → Type 0
PlaysFound found (order.Run run) =
    (first_value found (codes "file") ≡ Some run.file.now) × IsManner found run.manner
    × (option_map (λ name. name.now) run.journal ≡ first_value found (codes "journal"))
PlaysFound found _ = ⊥

-- The order is to play standard input, line by line, and no journal is written.
abbrev pub PlaysInput : Order → Type 0
PlaysInput (order.Run run) =
    (run.file.now ≡ codes "-") × (run.manner ≡ record { threads = false; turns = usual_turns }) × (run.journal ≡ None)
PlaysInput _ = ⊥
