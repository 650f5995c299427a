use Rattle.std.proofs.{Common.{arith, get_or, inl, inr, refl, subst, ◌+◌, ◌-◌, ◌<◌, ◌∙◌, ◌≡◌, ◌≤◌}, lemmas.Bool.{cases_lt}}
use Rattle.bd_ground.specs.Tiles.{hole_at}
use Rattle.bd_ground.proofs.Gifts.{IsBegin, tiles_back, tiles_given}
use Rattle.bd_ground.proofs.spans.Spans.give.Goals as goal

pub returns-then-end-tail-clause-tiles : goal.returns-then-end-tail-clause-tiles
returns-then-end-tail-clause-tiles c = λ free is taken.
    let e = c.begin_of-begin.ensures in
    let t = c.args.self.now in
    let begin : IsBegin t c.args.start c.begin_of-begin.result = record { within = e.within; hole = e.hole; none = e.none } in
    tiles_back free t c.args.start c.args.n c.begin_of-begin.result is (omega arith) (omega arith) taken begin _
    (omega arith) refl refl c.set.ensures.same refl (c.set.ensures.at (omega arith)) c.set.ensures.others

pub returns-clause-tiles : goal.returns-clause-tiles
returns-clause-tiles c = λ free is taken.
    let e = c.begin_of-begin.ensures in
    let t = c.args.self.now in
    let p = c.args.start in
    let n = c.args.n in
    let b = c.begin_of-begin.result in
    let begin : IsBegin t p b = record { within = e.within; hole = e.hole; none = e.none } in
    let before : p + n < t.tail = omega arith in
    let bound : p + n + hole_at t (p + n) ≤ t.tail = elim (cases_lt 0 (hole_at t (p + n))) [ inl pos ↦ (let h = is.holes (p + n) pos in omega arith) | inr none ↦ omega arith ] in
    let had : c.get-behind.result ≡ hole_at t (p + n) = c.get-behind.ensures in
    let size : c.saturating_add.result ≡ p + n - b + hole_at t (p + n) = omega (arith, c.saturating_add.ensures) in
    tiles_given free t p n b is (omega arith) (omega arith) taken begin c.put.new.self
    before c.put.ensures.same.1 c.put.ensures.same.0 (c.put.ensures.len.0 ∙ c.set-2.ensures.same) c.put.ensures.len.1
    (c.put.ensures.at (omega arith) ∙ size)
    (c.put.ensures.holes (p + n) (λ x. omega (arith, x)) ∙ c.set-2.ensures.at (omega arith))
    (λ j ne away. c.put.ensures.holes j ne ∙ c.set-2.ensures.others j away)
    (let last : b + c.saturating_add.result - 1 ≡ p + n + hole_at t (p + n) - 1 = omega arith in subst (λ k. get_or c.put.new.self.begins.items k 0 ≡ b) last (c.put.ensures.named (omega arith)))
    (λ j away. c.put.ensures.begins j (λ x. away (omega (arith, x))))
