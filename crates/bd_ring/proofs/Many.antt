-- Each ring among the others.
use Rattle.std.proofs.Common.{◌≡◌, ℕ, ◌==◌, ◌&&◌, not, Bool, true, false, cond, List, [], ◌∷◌, Option, Some, None, refl, sym, ap, ◌∙◌}
use Rattle.std.proofs.lemmas.Bool.{eqb-true}
use Rattle.bd_chains.specs.Chain.{is_at, has, distinct}
use Rattle.bd_ring.specs.Turns.{wants, is_ring, after}
use Rattle.bd_ring.specs.Rings.{Orders, without_one, ring_of}
use Rattle.bd_ring.specs.Course.{Change, changed, changed_by, events_of, after_all, EachRing}
use Rattle.bd_ring.specs.Course.Change.{In, Gone}
use Rattle.bd_ring.proofs.Before.{nobody_has_two, nobody_has_more}
use Rattle.bd_ring.proofs.Standing.{has_wants}

own : (f : Orders) (cs : List Change) (l : ℕ) → changed_by f cs l ≡ after_all (f l) (events_of l cs)
own f [] l = refl
own f (In k e ∷ cs) l = own (changed f (In k e)) cs l ∙ by (k == l) refl
  where
    by : (b : Bool) → (k == l) ≡ b → after_all (cond b (after (f k) e) (f l)) (events_of l cs) ≡ after_all (f l) (cond b (e ∷ events_of l cs) (events_of l cs))
    by true is = ap (λ n. after_all (after (f n) e) (events_of l cs)) (eqb-true k l is)
    by false far = refl
own f (Gone one ∷ cs) l = own (without_one f one) cs l

rings_are : (xs : List ℕ) → distinct xs ≡ true → is_ring xs ≡ true
rings_are [] d = refl
rings_are (x ∷ xs) d = both (has x xs) (distinct xs) d (λ off rest. yes (wants xs x) (is_ring xs) (has_wants xs x ∙ off) (rings_are xs rest))
  where
    both : {A : Type 0} (a b : Bool) → (not a && b) ≡ true → (a ≡ false → b ≡ true → A) → A
    both false true e then = then refl refl
    both false false e then = absurd cc
    both true b e then = absurd cc

    yes : (a b : Bool) → a ≡ false → b ≡ true → (not a && b) ≡ true
    yes false true p q = refl
    yes false false p q = absurd cc
    yes true b p q = absurd cc

ends_are : (l m : ℕ) (o : Option ℕ) → is_at l o ≡ true → is_at m o ≡ true → l ≡ m
ends_are l m None a b = absurd cc
ends_are l m (Some y) a b = sym (eqb-true y l a) ∙ eqb-true y m b

pub each_ring : EachRing
each_ring = record {
  own = own;
  ring = λ ns f l h. rings_are (f l) (h.apart l);
  once = λ ns f l m one h a b.
      ends_are l m (ring_of ns one) (sym (h.on l one) ∙ sym (has_wants (f l) one) ∙ a) (sym (h.on m one) ∙ sym (has_wants (f m) one) ∙ b);
  meanwhile = λ ns f cs l one other h wanted stays apart none. nobody_has_two (f l) (events_of l cs) one other (rings_are (f l) (h.apart l)) wanted stays apart none;
  shares = λ ns f cs l one other h always apart. nobody_has_more (f l) (events_of l cs) one other (rings_are (f l) (h.apart l)) always apart;
}
