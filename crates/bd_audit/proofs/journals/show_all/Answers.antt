use Rattle.std.proofs.Common.{◌≡◌, ◌∙◌, ◌-◌, ℕ, [], Some, ap, arith, subst}
use Rattle.bd_journal.specs.Steps.{count_left, entries_left, with_next}
use Rattle.bd_journal.proofs.Stepping.{so_many_left}
use Rattle.bd_audit.proofs.Shown.{shows_none, shows_one}
use Rattle.bd_audit.proofs.journals.show_all.Goals as goal

pub entries-init : goal.entries-init
entries-init g c = (shows_none c.args.judge.now (entries_left c.args.reader.now), λ less. absurd (omega (arith, less, c.left-all.ensures.left)))

pub entries-preserved-in-Ok : goal.entries-preserved-in-Ok
entries-preserved-in-Ok g c = (
  shows_one c.args.judge.now c.entries.judge c.see.new.self c.in-Ok-Some.entry c.in-Ok-Some.field-0 (entries_left c.args.reader.now) (entries_left c.entries.reader)
      (entries_left c.next.new.self) c.entries.invariant.0 c.in-Ok-Some.ensures.entry c.in-Ok-Some.field-0-is c.in-Ok.ensures.seen,
  λ _. subst (λ (n : ℕ). g.W.Watch.heard c.follow.new.self n c.left-all.result)
      (c.saturating_sub.ensures ∙ ap (λ (n : ℕ). c.left-all.result - n) c.left.ensures.left) c.follow.ensures,
)

pub entries-preserved : goal.entries-preserved
entries-preserved g c = (
  shows_one c.args.judge.now c.entries.judge c.see.new.self c.in-Ok-Some.entry c.in-Ok-Some.field-0 (entries_left c.args.reader.now) (entries_left c.entries.reader)
      (entries_left c.next.new.self) c.entries.invariant.0 c.in-Ok-Some.ensures.entry c.in-Ok-Some.field-0-is c.in-Ok.ensures.seen,
  λ _. subst (λ (n : ℕ). g.W.Watch.heard c.follow.new.self n c.left-all.result)
      (c.saturating_sub.ensures ∙ ap (λ (n : ℕ). c.left-all.result - n) c.left.ensures.left) c.follow.ensures,
)

-- behind the last entry none is left, so that all are done
pub returns-in-Ok-None-clause-heard : goal.returns-in-Ok-None-clause-heard
returns-in-Ok-None-clause-heard g c = λ some.
    let none : entries_left c.entries.reader ≡ Some [] = c.in-Ok-None.ensures.entry ∙ ap (λ e. with_next e (entries_left c.next.new.self)) c.in-Ok-None.field-0-is in
    let zero : count_left c.entries.reader ≡ 0 = so_many_left c.entries.reader [] none in
    let is : c.left-all.result - count_left c.entries.reader ≡ c.left-all.result = omega (arith, zero) in
    subst (λ (n : ℕ). g.W.Watch.heard c.entries.watch n n) c.left-all.ensures.left
    (subst (λ (n : ℕ). g.W.Watch.heard c.entries.watch n c.left-all.result) is (c.entries.invariant.1 (omega (arith, zero, c.left-all.ensures.left, some))))
