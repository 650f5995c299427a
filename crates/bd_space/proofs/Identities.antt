-- The test whether two are one object.
use Rattle.std.proofs.Common.{◌≡◌, ◌==◌, Bool, true, false, refl, sym, ap, ◌∙◌}
use Rattle.std.proofs.lemmas.Bool.{eqb-true, eq-eqb, and_parts}
use Rattle.bd_space.specs.declared.step.Identity.{Identity}
use Rattle.bd_space.specs.Words.{same}

pub same_eq : (a b : Identity) → same a b ≡ true → a ≡ b
same_eq a b h =
    let k = and_parts (a.place == b.place) (a.index == b.index) h in
    let p = eqb-true a.place b.place k.0 in
    let n = eqb-true a.index b.index k.1 in
    (λ i. record { place = p i; index = n i })

pub same_self : (a : Identity) → same a a ≡ true
same_self a = rw (eq-eqb a.place a.place refl, eq-eqb a.index a.index refl) refl

-- where each holds if the other does
both_ways : (a b : Bool) → (a ≡ true → b ≡ true) → (b ≡ true → a ≡ true) → a ≡ b
both_ways true b h k = sym (h refl)
both_ways false true h k = k refl
both_ways false false h k = refl

one_way : (a b : Identity) → same a b ≡ true → same b a ≡ true
one_way a b h = ap (λ x. same b x) (same_eq a b h) ∙ same_self b

pub same_turned : (a b : Identity) → same a b ≡ same b a
same_turned a b = both_ways (same a b) (same b a) (one_way a b) (one_way b a)
