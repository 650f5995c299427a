use Rattle.std.proofs.Common.{◌≡◌, ◌<◌, true, length, sym, ap, ◌∙◌, arith}
use Rattle.std.proofs.{Math.Logic.{∥∥₁_map}, lemmas.Option.{none-some}}
use Rattle.bd_ring.specs.Rings.{is_used, ring_of, without_one, with_ring}
use Rattle.bd_ring.specs.Turns.{after_enter, after_pass}
use Rattle.bd_ring.proofs.{Back.{kept_sound}, Standing.{said_so, passed, first_used, first_there, first_in_ring}}
use Rattle.bd_ring.proofs.rings.Rings.pass.Goals as goal

pub returns-clause-stands : goal.returns-clause-stands
returns-clause-stands c = λ f h.
    let ns = c.args.self.now.nodes.items in let l = c.args.ring in let x = c.in_ok-first.first in
    let e = sym (c.first.ensures f h) ∙ c.in_ok-first.was in
    let lt : x < length ns = first_there ns f h l x e in
    said_so c.append.new.nodes.items (with_ring (without_one f x) l (after_enter (without_one f x l) x)) (with_ring f l (after_pass (f l)))
    (c.append.ensures.stands (without_one f x) (c.leave_ring.ensures.stands f h) (c.leave_ring.ensures.used l ∙ first_used ns f h l x e)
    (let n = c.leave_ring.ensures.len in omega (arith, lt, n)) c.leave_ring.ensures.out)
    (passed ns f h l x e)

pub invariant_of-self : goal.invariant_of-self
invariant_of-self c =
    let s = c.args.self.now in
    let ns = s.nodes.items in let ds = c.leave_ring.new.nodes.items in let l = c.args.ring in let x = c.in_ok-first.first in
    record {
      sound = ∥∥₁_map s.sound (λ h.
          let f = h.orders in
          let e = sym (c.first.ensures f h.stands) ∙ c.in_ok-first.was in
          let lt : x < length ns = first_there ns f h.stands l x e in
          let there : x < length ds = (let n = c.leave_ring.ensures.len in omega (arith, lt, n)) in
          let used : is_used ds l ≡ true = c.leave_ring.ensures.used l ∙ first_used ns f h.stands l x e in
          let left = kept_sound ns ds s.free (without_one f x) h (c.leave_ring.ensures.stands f h.stands) c.leave_ring.ensures.len c.leave_ring.ensures.used
          (λ k u. c.leave_ring.ensures.idle f h.stands k (h.nowhere k u)) in
          let stands = c.leave_ring.ensures.stands f h.stands in
          kept_sound ds c.append.new.nodes.items s.free (with_ring (without_one f x) l (after_enter (without_one f x l) x)) left
          (c.append.ensures.stands (without_one f x) stands used there c.leave_ring.ensures.out) c.append.ensures.len c.append.ensures.used
          (λ k u. c.append.ensures.idle (without_one f x) stands used there c.leave_ring.ensures.out k
          (λ is. none-some l (sym (h.nowhere k (sym (c.leave_ring.ensures.used k) ∙ u)) ∙ ap (ring_of ns) is ∙ first_in_ring ns f h.stands l x e)) (left.nowhere k u)));
    }
