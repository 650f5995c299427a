-- The spellings of a stream, one behind the other, tell what stands in it.
use Rattle.std.proofs.Common.{◌≡◌, ℕ, List, [], ◌∷◌, ◌++◌, refl, sym, ap₂, map}
use Rattle.std.specs.List.{All, concat}
use Rattle.std.proofs.lemmas.List.Elements.{All-head, All-tail}
use Rattle.bd_uapi.specs.declared.command.Command.{Command}
use Rattle.bd_uapi.specs.declared.command.Return.{Return}
use Rattle.bd_codec.specs.Spelling.{command_bytes, return_bytes, IsCommand, IsReturn}
use Rattle.bd_codec.proofs.CommandRows.{no_command_begins_another}
use Rattle.bd_codec.proofs.ReturnRows.{no_return_begins_another}

module _ {A : Type 0} (f : A → List ℕ) (Fits : A → Type 0) (some : (a : A) (x : List ℕ) → f a ++ x ≡ [] → ⊥)
    (apart : (a b : A) (x y : List ℕ) → Fits a → Fits b → f a ++ x ≡ f b ++ y → (a ≡ b) × (x ≡ y)) where
  one_list : (xs ys : List A) → All Fits xs → All Fits ys → concat (map f xs) ≡ concat (map f ys) → xs ≡ ys
  one_list [] [] h k e = refl
  one_list [] (y ∷ ys) h k e = absurd (some y (concat (map f ys)) (sym e))
  one_list (x ∷ xs) [] h k e = absurd (some x (concat (map f xs)) e)
  one_list (x ∷ xs) (y ∷ ys) h k e =
      let same = apart x y (concat (map f xs)) (concat (map f ys)) (All-head Fits x xs h) (All-head Fits y ys k) e in
      ap₂ (λ z zs. z ∷ zs) same.0 (one_list xs ys (All-tail Fits x xs h) (All-tail Fits y ys k) same.1)

some_command : (c : Command) (x : List ℕ) → command_bytes c ++ x ≡ [] → ⊥
some_command c x e = absurd (cc)

some_return : (r : Return) (x : List ℕ) → return_bytes r ++ x ≡ [] → ⊥
some_return r x e = absurd (cc)

pub one_list_of_commands : (cs ds : List Command) → All IsCommand cs → All IsCommand ds → concat (map command_bytes cs) ≡ concat (map command_bytes ds) → cs ≡ ds
one_list_of_commands = one_list command_bytes IsCommand some_command no_command_begins_another

pub one_list_of_returns : (rs ss : List Return) → All IsReturn rs → All IsReturn ss → concat (map return_bytes rs) ≡ concat (map return_bytes ss) → rs ≡ ss
one_list_of_returns = one_list return_bytes IsReturn some_return no_return_begins_another
