-- Two lists of one name are one.
use Rattle.std.proofs.Common.{◌≡◌, true, ap, refl, eqb-true, eq-eqb, arith}
use Rattle.bd_ways.specs.Words.{TodoList, OfThread, OfProcess}
use Rattle.bd_space.specs.Todo.{same_list}

pub same_list_eq : (a b : TodoList) → same_list a b ≡ true → a ≡ b
same_list_eq (OfThread t) (OfThread u) h = ap OfThread (eqb-true t u h)
same_list_eq (OfThread t) (OfProcess q) h = cc
same_list_eq (OfProcess p) (OfThread u) h = cc
same_list_eq (OfProcess p) (OfProcess q) h = ap OfProcess (eqb-true p q h)

pub same_list_refl : (a : TodoList) → same_list a a ≡ true
same_list_refl (OfThread t) = eq-eqb t t refl
same_list_refl (OfProcess p) = eq-eqb p p refl

pub same_list_turned : (a b : TodoList) → same_list a b ≡ same_list b a
same_list_turned (OfThread t) (OfThread u) = grind arith
same_list_turned (OfProcess p) (OfProcess q) = grind arith
same_list_turned (OfThread t) (OfProcess q) = refl
same_list_turned (OfProcess p) (OfThread u) = refl
