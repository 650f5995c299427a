-- What is asked about a journal, by what a parse of the words found.
use Rattle.std.specs.Prelude.{◌≡◌, ◌==◌, ◌⊎◌, ℕ, ◌<◌, Bool, true, false, List, length, Some, None, codes}
use Rattle.std.specs.List.{position_or_len, before_first, after_first}
use Rattle.std.specs.Str.Parse.{digits_value, without_leading_plus}
use Rattle.clap.specs.declared.parser.matches.Found.{Found}
use Rattle.clap.specs.Matches.{first_value, one_text}
use Rattle.bd_player.specs.declared.questions.Question.{Question}
use Rattle.bd_player.specs.declared.questions.Question.TheVariants.{Chain, CallOfReply, Turns}
use Rattle.bd_play.specs.declared.inquiries.Inquiry.{Inquiry}
use Rattle.bd_play.specs.declared.sources.Source.{Source}
use Rattle.bd_play.specs.Orders.{IsTurns}

-- the number is that of the text that was found under the name
abbrev pub IsNumberAt : Found → List ℕ → ℕ → Type 0
IsNumberAt found name n = (text : List ℕ) → one_text found name ≡ Some text → IsTurns text → n ≡ digits_value 10 (without_leading_plus text)

-- a number of 32 bits was found under the name
pub record HasNumber (found : Found) (name : List ℕ) : Type 0 where
  pub text : List ℕ
  pub found_is : one_text found name ≡ Some text
  pub number : IsTurns text

-- The question is the one of a chain, with the pid and the handle that were found.
abbrev pub AskedBy : Found → Question → Type 0
AskedBy found (Chain pid handle) = IsNumberAt found (codes "pid") pid × IsNumberAt found (codes "handle") handle
AskedBy found _ = ⊥

-- what was found has the two numbers of a question for a chain
abbrev pub HasChain : Found → Type 0
HasChain found = HasNumber found (codes "pid") × HasNumber found (codes "handle")

-- the journal that was found, watched where the flag was given
pub record IsSourceFound (found : Found) (s : Source) : Type 0 where
  pub file : first_value found (codes "file") ≡ Some s.file.now
  pub watched : one_text found (codes "progress") ≡ Some (codes "true") → s.progress ≡ true
  pub unwatched : one_text found (codes "progress") ≡ Some (codes "false") → s.progress ≡ false

-- The inquiry is about the journal that was found.
abbrev pub AsksFound : Found → Inquiry → Type 0
AsksFound found i = IsSourceFound found i.source

-- what stands between the two numbers of an object
abbrev pub is_dot : ℕ → Bool
is_dot b = b == 46

abbrev pub number_in : List ℕ → ℕ
number_in text = digits_value 10 (without_leading_plus text)

-- the text names an object: a number, a dot and a number
pub record IsObject (text : List ℕ) : Type 0 where
  pub dot : position_or_len is_dot text < length text
  pub place : IsTurns (before_first is_dot text)
  pub index : IsTurns (after_first is_dot text)

-- The question is the one of the calls on the object that the text names.
abbrev pub AsksTurns : List ℕ → Question → Type 0
AsksTurns text (Turns place index) = (place ≡ number_in (before_first is_dot text)) × (index ≡ number_in (after_first is_dot text))
AsksTurns text _ = ⊥

-- an object was found
pub record HasObject (found : Found) : Type 0 where
  pub text : List ℕ
  pub found_is : first_value found (codes "object") ≡ Some text
  pub object : IsObject text

-- the command of this name asks a question, and what it needs was found
abbrev pub HasQuestion : List ℕ → Found → Type 0
HasQuestion name found =
    ((name ≡ codes "chain") × HasChain found) ⊎ ((name ≡ codes "call-of-reply") × HasNumber found (codes "place"))
    ⊎ ((name ≡ codes "turns") × HasObject found)

-- the question is that of the command of this name, with what was found
abbrev pub AsksBy : List ℕ → Found → Question → Type 0
AsksBy name found (Chain pid handle) = (name ≡ codes "chain") × AskedBy found (Chain pid handle)
AsksBy name found (CallOfReply place) = (name ≡ codes "call-of-reply") × IsNumberAt found (codes "place") place
AsksBy name found (Turns place index) = (name ≡ codes "turns") × ((text : List ℕ) → first_value found (codes "object") ≡ Some text → AsksTurns text (Turns place index))
