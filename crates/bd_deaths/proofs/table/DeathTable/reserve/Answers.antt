use Rattle.bd_deaths.proofs.Words.{arith, by_object, by_process, false, refl}
use Rattle.bd_deaths.proofs.{Changes.{deaths_kept, uses_less}, Sharing.{shared_kept}}
use Rattle.bd_deaths.proofs.table.DeathTable.reserve.Goals as goal

pub returns-clause-stands : goal.returns-clause-stands
returns-clause-stands c = λ l.
    deaths_kept c.args.self.now _ l (c.reserve.ensures.stands by_object (λ _. false)) (c.reserve-2.ensures.stands by_process (λ _. false)) c.reserve_slots.ensures.same
    (λ m. c.reserve-3.ensures.entries.2 m) (λ k. c.reserve-4.ensures.entries.2 k) refl (shared_kept c.args.self.now.cookies _ l c.reserve-5.ensures.kept)

pub returns-in_err-reserve-3-clause-stands : goal.returns-in_err-reserve-3-clause-stands
returns-in_err-reserve-3-clause-stands c = λ l.
    deaths_kept c.args.self.now _ l (c.reserve.ensures.stands by_object (λ _. false)) (c.reserve-2.ensures.stands by_process (λ _. false)) c.reserve_slots.ensures.same
    (λ m. c.reserve-3.ensures.entries.2 m) (λ k. refl) refl (λ s. s)

pub returns-in_err-reserve-2-clause-stands : goal.returns-in_err-reserve-2-clause-stands
returns-in_err-reserve-2-clause-stands c = λ l.
    deaths_kept c.args.self.now _ l (c.reserve.ensures.stands by_object (λ _. false)) (c.reserve-2.ensures.stands by_process (λ _. false)) c.reserve_slots.ensures.same
    (λ m. refl) (λ k. refl) refl (λ s. s)

pub returns-in_err-reserve-clause-stands : goal.returns-in_err-reserve-clause-stands
returns-in_err-reserve-clause-stands c = λ l.
    deaths_kept c.args.self.now _ l (c.reserve.ensures.stands by_object (λ _. false)) (λ rs s. s) c.reserve_slots.ensures.same
    (λ m. refl) (λ k. refl) refl (λ s. s)

pub returns-clause-uses : goal.returns-clause-uses
returns-clause-uses c = uses_less c.args.self.now _ c.reserve_slots.ensures.uses (let e = c.reserve_slots.ensures.len in omega (arith, e)) refl c.reserve.ensures.uses c.reserve-2.ensures.uses c.reserve-3.ensures.spare c.reserve-4.ensures.spare c.reserve-5.ensures.uses

pub returns-in_err-reserve-3-clause-uses : goal.returns-in_err-reserve-3-clause-uses
returns-in_err-reserve-3-clause-uses c = uses_less c.args.self.now _ c.reserve_slots.ensures.uses (let e = c.reserve_slots.ensures.len in omega (arith, e)) refl c.reserve.ensures.uses c.reserve-2.ensures.uses c.reserve-3.ensures.spare (omega arith) (omega arith)

pub returns-in_err-reserve-4-clause-stands : goal.returns-in_err-reserve-4-clause-stands
returns-in_err-reserve-4-clause-stands c = λ l.
    deaths_kept c.args.self.now _ l (c.reserve.ensures.stands by_object (λ _. false)) (c.reserve-2.ensures.stands by_process (λ _. false)) c.reserve_slots.ensures.same
    (λ m. c.reserve-3.ensures.entries.2 m) (λ k. c.reserve-4.ensures.entries.2 k) refl (λ s. s)

pub returns-in_err-reserve-4-clause-uses : goal.returns-in_err-reserve-4-clause-uses
returns-in_err-reserve-4-clause-uses c = uses_less c.args.self.now _ c.reserve_slots.ensures.uses (let e = c.reserve_slots.ensures.len in omega (arith, e)) refl c.reserve.ensures.uses c.reserve-2.ensures.uses c.reserve-3.ensures.spare c.reserve-4.ensures.spare (omega arith)

pub returns-in_err-reserve-5-clause-stands : goal.returns-in_err-reserve-5-clause-stands
returns-in_err-reserve-5-clause-stands c = λ l.
    deaths_kept c.args.self.now _ l (c.reserve.ensures.stands by_object (λ _. false)) (c.reserve-2.ensures.stands by_process (λ _. false)) c.reserve_slots.ensures.same
    (λ m. c.reserve-3.ensures.entries.2 m) (λ k. c.reserve-4.ensures.entries.2 k) refl (shared_kept c.args.self.now.cookies _ l c.reserve-5.ensures.kept)

pub returns-in_err-reserve-5-clause-uses : goal.returns-in_err-reserve-5-clause-uses
returns-in_err-reserve-5-clause-uses c = uses_less c.args.self.now _ c.reserve_slots.ensures.uses (let e = c.reserve_slots.ensures.len in omega (arith, e)) refl c.reserve.ensures.uses c.reserve-2.ensures.uses c.reserve-3.ensures.spare c.reserve-4.ensures.spare c.reserve-5.ensures.uses
