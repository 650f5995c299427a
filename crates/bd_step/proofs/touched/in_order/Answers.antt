use Rattle.bd_step.proofs.Words.{Bool, Identity, List, NotLater, Pairs, answers_always, any_append, ap, at_object, drop, earlier_cmp, false, fun_ext, get_or, list_any, list_any-IsPermutation, refl, rules, sorted_in_order, subst, sym, take, take-append-drop, true, ℕ, ◌++◌, ◌+◌, ◌||◌, ◌∙◌, ◌≡◌}
use Rattle.bd_step.proofs.touched.in_order.Goals as goal

either_way : (a b : Bool) → (a || b) ≡ (b || a)
either_way true true = refl
either_way true false = refl
either_way false true = refl
either_way false false = refl

-- what stands first stands last from now on
rotated : (p : Identity → Bool) (n : ℕ) (xs ys : List Identity) → ys ≡ drop n xs ++ take n xs → list_any p xs ≡ list_any p ys
rotated p n xs ys is =
    ap (list_any p) (sym (take-append-drop n xs)) ∙ any_append p (take n xs) (drop n xs)
    ∙ either_way (list_any p (take n xs)) (list_any p (drop n xs)) ∙ sym (any_append p (drop n xs) (take n xs)) ∙ ap (list_any p) (sym is)

pub returns-then-stand_in_order-clause-touched : goal.returns-then-stand_in_order-clause-touched
returns-then-stand_in_order-clause-touched c = record {
  in_order = subst (Pairs NotLater) c.deref.ensures.value (c.stand_in_order.ensures c.if-stand_in_order.true);
  among = refl;
}

pub returns-else-not-stand_in_order-clause-touched : goal.returns-else-not-stand_in_order-clause-touched
returns-else-not-stand_in_order-clause-touched c = record {
  in_order = subst (Pairs NotLater) c.deref-2.ensures.value (c.stand_in_order-2.ensures c.if-not-stand_in_order.false);
  among = fun_ext (λ o. sym (rotated (λ x. at_object x o) _ _ _ c.rotate_right.ensures.items));
}

pub returns-then-not-stand_in_order-clause-touched : goal.returns-then-not-stand_in_order-clause-touched
returns-then-not-stand_in_order-clause-touched c =
    let os = c.sort_unstable_by_key.new.self.items in
    let sorted = c.sort_unstable_by_key.ensures.sorted (λ o. (o.place, o.index)) (answers_always _ _ _ (λ f a r g called. search rules)) in
    record {
      in_order = sorted_in_order os (λ k d low lt. sym (earlier_cmp (get_or os (k + 1) d) (get_or os k d)) ∙ sorted k d low lt);
      among = fun_ext (λ o. sym (rotated (λ x. at_object x o) _ _ _ c.rotate_right.ensures.items
          ∙ list_any-IsPermutation (λ x. at_object x o) _ _ c.sort_unstable_by_key.ensures.permutation));
    }
