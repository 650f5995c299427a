use Rattle.std.proofs.Common.{false, refl}
use Rattle.bd_turns.specs.Entries.{by_object, by_window}
use Rattle.bd_turns.proofs.Changes.{turns_pushed}
use Rattle.bd_turns.proofs.table.TurnTable.push.Goals as goal

pub returns-clause-stands : goal.returns-clause-stands
returns-clause-stands c = λ l new h.
    turns_pushed c.args.self.now _ c.args.turn (record { call = c.push-call.result; mark = c.push-mark.result }) l new h
    (λ rs s. c.push-call.ensures.stands by_object (λ _. false) rs refl refl s)
    (λ rs s. c.push-mark.ensures.stands by_window (λ _. false) rs refl refl s)
    c.insert.ensures.put
