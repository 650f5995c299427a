use Rattle.bd_engine.proofs.{narrow.ShortObjectsIterator.next.Goals.{in-None, in-Some}, Words.{Identity, In, List, arith, inl, inr, refl, subst, sym}}
use Rattle.bd_engine.proofs.narrow.ShortObjectsIterator.next.Goals as goal

pub overflow_cast-result : goal.overflow_cast-result
overflow_cast-result c =
    let o = c.in-Some.o in
    let lt = c.self.invariant o (subst (λ (os : List Identity). In o os) (sym c.in-Some.ensures.steps) (inl refl)) in
    omega arith

pub invariant_of-self : goal.invariant_of-self
invariant_of-self c = elim c.match-next.branch [
  | in-Some w ↦ (λ o l. c.self.invariant o (subst (λ (os : List Identity). In o os) (sym w.in-Some.ensures.steps) (inr l)))
  | in-None w ↦ (λ o l. absurd (subst (λ (os : List Identity). In o os) w.in-None.ensures.steps.1 l))
]
