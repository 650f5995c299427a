-- By what a value is found.
use Rattle.std.specs.Prelude.{ℕ, ◌+◌, ◌*◌, ◌%◌, ◌^◌, Bool, cond, List, [], ◌∷◌, Option, Some, None, suc, option_map}
use Rattle.bd_keys.specs.declared.key.WordKey.{WordKey}
use Rattle.bd_keys.specs.contracts.key.WordKeyPartialEq.TheImpl as words

abbrev pub same_word : WordKey → WordKey → Bool
same_word = (words.ghosts).eq

-- A number of 128 bits by whose bits a key is found: another for each key.
abbrev pub spread : WordKey → ℕ
spread k = (k.word + k.process) % 2 ^ 64 + k.process * 2 ^ 64

-- the first place of a key
unfoldable pub place_in : List WordKey → WordKey → Option ℕ
place_in [] l = None
place_in (k ∷ ks) l = cond (same_word k l) (Some 0) (option_map suc (place_in ks l))
