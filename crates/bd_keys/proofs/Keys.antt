-- Keys, and their test.
use Rattle.std.proofs.Common.{◌≡◌, ◌+◌, ◌%◌, ◌^◌, ◌<◌, ◌==◌, true, refl, arith}
use Rattle.std.proofs.lemmas.Bool.{eqb-true, eq-eqb, and_parts}
use Rattle.std.proofs.lemmas.Nat.{same_from_place}
use Rattle.bd_keys.specs.declared.key.WordKey.{WordKey}
use Rattle.bd_keys.specs.Keys.{same_word, spread}

key_is : (a b : WordKey) → a.process ≡ b.process → a.word ≡ b.word → a ≡ b
key_is a b p w = λ i. record { process = p i; word = w i }

pub word_eq : (a b : WordKey) → same_word a b ≡ true → a ≡ b
word_eq a b h =
    let k = and_parts (a.process == b.process) (a.word == b.word) h in
    key_is a b (eqb-true a.process b.process k.0) (eqb-true a.word b.word k.1)

pub word_self : (a : WordKey) → same_word a a ≡ true
word_self a = rw (eq-eqb a.process a.process refl, eq-eqb a.word a.word refl) refl

-- another number for each key
pub spread_eq : (a b : WordKey) → a.word < 2 ^ 64 → b.word < 2 ^ 64 → spread a ≡ spread b → a ≡ b
spread_eq a b h g e =
    let k = same_from_place a.process ((a.word + a.process) % 2 ^ 64) b.process ((b.word + b.process) % 2 ^ 64) (2 ^ 64) (omega arith) (omega arith)
    (omega (arith, e)) in
    key_is a b k.0 (omega (arith, h, g, k.0, k.1))

pub spread_below : (k : WordKey) → k.word < 2 ^ 64 → k.process < 2 ^ 64 → spread k < 2 ^ 128
spread_below k h g = omega (arith, h, g)
