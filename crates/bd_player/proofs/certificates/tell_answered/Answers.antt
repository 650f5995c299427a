use Rattle.std.proofs.Common.{◌≡◌, ◌<◌, ◌∷◌, ◌++◌, ℕ, List, length, ap, arith, length-append}
use Rattle.bd_space.specs.declared.step.Entry.{Entry}
use Rattle.bd_audit.specs.Gifts.{Stands}
use Rattle.bd_player.proofs.certificates.tell_answered.Goals as goal

-- an entry that stands there is one of them
inside : (es : List Entry) (place : ℕ) (before : List Entry) (e : Entry) → Stands es place before e → place < length es
inside es place before e s = let a = ap (length {A = Entry}) s.all in let b = length-append before (e ∷ s.rest) in omega (arith, a, b, s.at)

-- the call that was found is one of the history
pub returns-in-Err-clause-range : goal.returns-in-Err-clause-range
returns-in-Err-clause-range g c = λ is.
    let called = (c.in_ok-call.ensures.answers.is c.in-Some.call c.in-Some.is).called in
    let below = inside c.args.record.now.entries c.in-Some.call called.0 called.1 called.2 in
    absurd (omega (arith, below, c.in-Err.ensures.range is))
