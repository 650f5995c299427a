use Rattle.bd_deaths.proofs.Words.{Bool, Identity, List, None, Option, Some, YieldsFirst, YieldsList-at, YieldsList-end, YieldsList-from_first, ap, eq-eqb, err_from_is_err_and, false, is_among, is_any_at, is_at, is_due, list_any, map, map-id}
use Rattle.bd_deaths.proofs.Words.{object_row, or-false, or_left, or_right, refl, same, subst, sym, true, ◌||◌, ◌∙◌, ◌∷◌, ◌≡◌}
use Rattle.bd_deaths.proofs.{Numbering.{due_found, is_found, more_found, none_found, numbers_on, some_due, some_on}, Queueing.{watches_are}}
use Rattle.bd_deaths.specs.Numbers.{has}
use Rattle.bd_deaths.proofs.table.DeathTable.push_due.Goals as goal

pub loop-o-init : goal.loop-o-init
loop-o-init c = record {
  put = λ es h n. sym (or-false (has c.args.found.now.items n)) ∙ ap (λ b. has c.args.found.now.items n || b) (sym (none_found c.args.p n es));
  all = λ i h. h;
}

first_of : (xs : List Identity) (r : Option Identity) (o : Identity) (ys : List Identity) → YieldsFirst (λ s. s) xs r ys → r ≡ Some o → xs ≡ o ∷ ys
first_of xs None o ys h e = absurd cc
first_of xs (Some x) o ys h e = let same : x ≡ o = cc in h ∙ ap (λ z. z ∷ ys) same

same_self : (o : Identity) → same o o ≡ true
same_self o = rw (eq-eqb o.place o.place refl, eq-eqb o.index o.index refl) refl

joined : (a b x : Bool) {c d : Bool} → c ≡ (a || b) → (b || x) ≡ d → (c || x) ≡ (a || d)
joined true b x e f = rw e refl
joined false b x e f = rw e f

pub loop-o-preserved : goal.loop-o-preserved
loop-o-preserved c =
    let t = c.args.self.now in
    record {
      put = λ es h n.
          let ws = c.items_on.ensures (map object_row es) h.on_objects.holds ∙ watches_are c.in-Some.o t es h c.list_on-number.result (sym c.list_on-number.ensures) in
          c.in_ok-push_armed.ensures.put n ∙ ap (λ ws. has c.loop-o.found.items n || list_any (is_at t c.args.p n) ws) ws ∙ ap (λ b. has c.loop-o.found.items n || b) (numbers_on t c.args.p c.in-Some.o es h n)
          ∙ joined _ _ _ (c.loop-o.invariant.put es h n) (more_found c.args.p c.loop-o.yielded c.in-Some.o n es);
      all = λ i h. c.loop-o.invariant.all i (ap (λ os. is_among os i) (first_of c.loop-o.o-iterator c.next.result c.in-Some.o c.next.new.self c.next.ensures.steps c.in-Some.is) ∙ or_right (same i c.in-Some.o) (is_among c.next.new.self i) h);
    }

pub returns-in_err-push_armed-clause-grown : goal.returns-in_err-push_armed-clause-grown
returns-in_err-push_armed-clause-grown c =
    let t = c.args.self.now in
    let o = c.in-Some.o in
    rw (err_from_is_err_and c.from_residual.result c.from_residual.ensures.1).1
    (λ objects l ns h.
    let es = h.entries in
    let ws = c.items_on.ensures (map object_row es) h.are.on_objects.holds ∙ watches_are o t es h.are c.list_on-number.result (sym c.list_on-number.ensures) in
    subst (λ l. list_any (is_due objects c.args.p) l ≡ true) h.deaths_are
    (some_due objects c.args.p o
    (subst (λ os. is_among os o ≡ true) (c.into_iter-o-iterator.ensures.into_iter_gives ∙ c.listed-o-items.ensures objects ns.0 ns.1)
    (c.loop-o.invariant.all o (ap (λ os. is_among os o) (first_of c.loop-o.o-iterator c.next.result o c.next.new.self c.next.ensures.steps c.in-Some.is) ∙ or_left (same o o) (is_among c.next.new.self o) (same_self o))))
    es (sym (some_on t c.args.p o es h.are) ∙ ap (list_any (is_any_at t c.args.p)) (sym ws) ∙ c.in_err-push_armed.ensures.grown)))

pub returns-clause-put : goal.returns-clause-put
returns-clause-put c = λ objects es ns h n.
    let road = YieldsList-end (YieldsList-at c.into_iter-o-iterator.ensures.into_iter_gives (YieldsList-from_first (λ x. x) (λ s. s) _ refl))
    c.loop-o.yielded _ c.loop-o.yielded_by _ _ c.in-None.is c.next.ensures.steps in
    let all = sym (map-id c.loop-o.yielded) ∙ road.0 ∙ c.listed-o-items.ensures objects ns.0 ns.1 in
    c.loop-o.invariant.put es h n ∙ ap (λ os. has c.args.found.now.items n || list_any (is_found c.args.p os n) es) all ∙ ap (λ b. has c.args.found.now.items n || b) (due_found objects c.args.p n es)
