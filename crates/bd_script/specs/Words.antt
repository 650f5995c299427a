-- What words are read as.
use Rattle.std.specs.Prelude.{◌≡◌, ℕ, List, [], ◌∷◌, Option, Some, None, Result, Ok, Err, map}
use Rattle.std.specs.Borrow.{Bor}
use Rattle.std.specs.Option.{option_and_then}
use Rattle.bd_script.specs.declared.script.Trouble.{Trouble}
use Rattle.bd_script.specs.declared.script.Trouble.TheVariants.{Bad}
use Rattle.bd_script.specs.Numbers.{number_of}

-- The result is the value, or trouble with the words where there is no value.
abbrev pub ReadsAs : {A : Type 0} → Result A Trouble → Option A → Type 0
ReadsAs (Ok x) read = read ≡ Some x
ReadsAs (Err trouble) read = (trouble ≡ Bad) × (read ≡ None)

-- The result is the value, or trouble with the words where there is none, or memory was refused.
abbrev pub ReadsOrMemory : {A : Type 0} → Result A Trouble → Option A → Type 0
ReadsOrMemory (Ok x) read = read ≡ Some x
ReadsOrMemory (Err trouble) read = trouble ≡ Bad → read ≡ None

-- The bytes of the words, which the code has behind references.
abbrev pub shown : List (Bor (List ℕ)) → List (List ℕ)
shown args = map (λ word. word.now) args

infixl 10 ◌>>=◌
abbrev pub ◌>>=◌ : {A B : Type 0} → Option A → (A → Option B) → Option B
read >>= f = option_and_then f read

-- ---- so many words and no more

abbrev pub one_of : {A : Type 0} → List A → Option A
one_of [] = None
one_of (a ∷ []) = Some a
one_of (a ∷ b ∷ more) = None

abbrev pub two_of : {A : Type 0} → List A → Option (A × A)
two_of [] = None
two_of (a ∷ []) = None
two_of (a ∷ b ∷ []) = Some (a, b)
two_of (a ∷ b ∷ c ∷ more) = None

abbrev pub three_of : {A : Type 0} → List A → Option (A × A × A)
three_of [] = None
three_of (a ∷ []) = None
three_of (a ∷ b ∷ []) = None
three_of (a ∷ b ∷ c ∷ []) = Some (a, b, c)
three_of (a ∷ b ∷ c ∷ d ∷ more) = None

abbrev pub four_of : {A : Type 0} → List A → Option (A × A × A × A)
four_of [] = None
four_of (a ∷ []) = None
four_of (a ∷ b ∷ []) = None
four_of (a ∷ b ∷ c ∷ []) = None
four_of (a ∷ b ∷ c ∷ d ∷ []) = Some (a, b, c, d)
four_of (a ∷ b ∷ c ∷ d ∷ e ∷ more) = None

-- ---- numbers of 32 and of 64 bits

abbrev pub word_of : List ℕ → Option ℕ
word_of word = number_of 4294967295 word

abbrev pub long_of : List ℕ → Option ℕ
long_of word = number_of 18446744073709551615 word
