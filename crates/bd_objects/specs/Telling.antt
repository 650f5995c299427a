-- What an owner is to be told of its object.
use Rattle.std.specs.Prelude.{ℕ, Bool, not, ◌||◌, Option, option_and_then}
use Rattle.bd_ways.specs.Words.{beq, Object, when, Space}
use Rattle.bd_space.specs.Notices.{wants_notice}

-- what it was told isn't what is so: whether it is held, and held strongly
abbrev pub differs : Bool → Bool → Object → Bool
differs held strong x = not (beq x.told_weak held) || not (beq x.told_strong strong)

-- the object's owner, if it lives and is to be told
abbrev pub owner_due : Space → Option Object → Option ℕ
owner_due s found = option_and_then (λ x. when (wants_notice s.processes s.references x) x.owner) found
