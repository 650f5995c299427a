-- What the bytes of a reading spell.
use Rattle.std.specs.Prelude.{ℕ, ◌≡◌, List, ◌∷◌, map}
use Rattle.bd_ways.specs.Words.{concat, flat_map, Return, Entry, Space}
use Rattle.bd_uapi.specs.declared.command.Return.TheVariants.{Noop}
use Rattle.bd_codec.specs.Spelling.{return_bytes}
use Rattle.bd_space.specs.declared.step.StepAnswer.TheVariants.{Got}
use Rattle.bd_space.specs.Returns.{returns_of}
use Rattle.bd_space.specs.Histories.{History, IsHistory}
use Rattle.bd_audit.specs.Replies.{items_taken, At}

-- what a reading gives: a BR_NOOP, and then what each item that it takes gives, item after item
abbrev pub returns_given : Space → Entry → List Return
returns_given z e = Noop ∷ flat_map (λ w. returns_of z w.kind) (items_taken z e.seat e.step)

-- The bytes spell just these returns. Where the numbers have their widths no other returns are spelt so (bd_codec).
abbrev pub SpellsItems : Space → Entry → List ℕ → Type 0
SpellsItems z e stream = stream ≡ concat (map return_bytes (returns_given z e))

-- the stream of each reading of a history is what its items give, spelt
abbrev pub StreamsSpellTheirItems : Type 0
StreamsSpellTheirItems = (h : History) → IsHistory h → (i : ℕ) (stream bytes offsets : List ℕ)
    → At h.entries i (λ z e. e.answer ≡ Got stream bytes offsets) → At h.entries i (λ z e. SpellsItems z e stream)
