use Rattle.std.proofs.Common.{false, refl}
use Rattle.bd_turns.specs.Entries.{by_object, by_window}
use Rattle.bd_turns.proofs.Changes.{turns_kept}
use Rattle.bd_turns.proofs.table.TurnTable.reserve.Goals as goal

pub returns-clause-stands : goal.returns-clause-stands
returns-clause-stands c = λ l.
    turns_kept c.args.self.now _ l (c.reserve.ensures.stands by_object (λ _. false)) (c.reserve-2.ensures.stands by_window (λ _. false)) c.reserve-3.ensures.same

pub returns-in_err-reserve-2-clause-stands : goal.returns-in_err-reserve-2-clause-stands
returns-in_err-reserve-2-clause-stands c = λ l.
    turns_kept c.args.self.now _ l (c.reserve.ensures.stands by_object (λ _. false)) (c.reserve-2.ensures.stands by_window (λ _. false)) (λ m. refl)

pub returns-in_err-reserve-clause-stands : goal.returns-in_err-reserve-clause-stands
returns-in_err-reserve-clause-stands c = λ l. turns_kept c.args.self.now _ l (c.reserve.ensures.stands by_object (λ _. false)) (λ rs s. s) (λ m. refl)
