use Rattle.std.proofs.Common.{◌≡◌, ◌<◌, true, sym, ◌∙◌, arith, ltb-true}
use Rattle.bd_todo.specs.{Registered.{rank, Registered}}
use Rattle.bd_todo.proofs.{Registering.{newer_came, older_came}, register.Register.add.Goals.{then-self, else-self}}
use Rattle.bd_todo.proofs.register.Register.add.Goals as goal

pub returns-then-self-work-clause-stands : goal.returns-then-self-work-clause-stands
unfolding Registered
returns-then-self-work-clause-stands c = λ todo few is h.
    newer_came c.args.self.now c.args.work todo h c.add.new.self few is c.if-self.self
    (elim c.if-self.branch as (λ _. c.if-self.self ≡ true → (c.args.self.now.rises ≡ true) × (rank c.args.self.now.last < rank c.args.work.id)) [
      | then-self w ↦ λ r. (w.if-self.true, ltb-true _ _ (sym w.is_before-self.ensures ∙ sym w.self-is ∙ r))
      | else-self w ↦ λ r. absurd cc
    ])
    (rw c.sought_of.ensures at c.add.ensures.counts) _ (omega arith) c.saturating_add-self.ensures

pub returns-else-self-work-clause-stands : goal.returns-else-self-work-clause-stands
unfolding Registered
returns-else-self-work-clause-stands c = λ todo few is h.
    older_came c.args.self.now c.args.work todo h c.add.new.self few is c.if-self.self
    (elim c.if-self.branch as (λ _. c.if-self.self ≡ true → (c.args.self.now.rises ≡ true) × (rank c.args.self.now.last < rank c.args.work.id)) [
      | then-self w ↦ λ r. (w.if-self.true, ltb-true _ _ (sym w.is_before-self.ensures ∙ sym w.self-is ∙ r))
      | else-self w ↦ λ r. absurd cc
    ])
    (rw c.sought_of.ensures at c.add.ensures.counts) (omega arith)
