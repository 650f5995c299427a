use Rattle.bd_deaths.proofs.Words.{Bool, Option, Slab, Some, Updates, ap, arith, by_object, by_process, cond, death_count, death_of, death_room, eqb-false, eqb-true, false, get, length, length-map, lists_room, map, min, name_at, object_row, refl}
use Rattle.bd_deaths.proofs.Words.{rules, same_name, slab_len, spare, sym, true, word_room, ℕ, ◌+◌, ◌-◌, ◌==◌, ◌∙◌, ◌≡◌, ◌≤◌}
use Rattle.bd_deaths.proofs.{Changes.{deaths_pushed}, Sharing.{shared_more}}
use Rattle.bd_deaths.proofs.table.DeathTable.push.Goals as goal

updated : {T : Type 0} (s u : Slab T) (at key : ℕ) (o : Option T) → at ≡ key → Updates s u key o → (k : ℕ) → get u k ≡ cond (at == k) o (get s k)
updated s u at key o is h k = by (at == k) refl
  where
    by : (b : Bool) → (at == k) ≡ b → get u k ≡ cond b o (get s k)
    by true e = ap (get u) (sym (eqb-true at k e) ∙ is) ∙ h.changed
    by false e = h.others k (λ f. eqb-false at k e (is ∙ sym f))

both_more : (a b p q : ℕ) → a ≤ b + 1 → p ≤ q + 1 → min a p ≤ min b q + 1
both_more a b p q e f = omega arith

fewer : (c d l : ℕ) → c ≡ d → c - l ≤ (d - (l + 1)) + 1
fewer c d l e = omega arith

more : (c d l n a b p q v w x y r s : ℕ) → c ≡ d → a ≤ b + 1 → p ≤ q + 1 → v ≤ w + 1 → x ≤ y + 1 → r ≤ s + 1
    → min (min (c - l) (18446744073709551615 - n)) (min (min a p) (min v (min x r))) ≤ min (min (d - (l + 1)) (18446744073709551615 - (n + 1))) (min (min b q) (min w (min y s))) + 1
more c d l n a b p q v w x y r s e f g h i j =
    both_more _ _ _ _ (both_more _ _ _ _ (fewer c d l e) (fewer 18446744073709551615 18446744073709551615 n refl)) (both_more _ _ _ _ (both_more a b p q f g) (both_more v w (min x r) (min y s) h (both_more x y r s i j)))

pub returns-clause-stands : goal.returns-clause-stands
returns-clause-stands c = λ l new asked h.
    let same = c.vacant_key-at.ensures.value ∙ sym c.insert_reserved.ensures.key in
    deaths_pushed c.args.self.now c.args.x c.vacant_key-at.result c.push.result c.push-2.result l new asked c.requires.uncleared
    (ap (get c.args.self.now.slots) same ∙ c.insert_reserved.ensures.was_vacant) (search rules) h _
    (λ rs s. c.push.ensures.stands by_object (λ _. false) rs refl refl s)
    (λ rs s. c.push-2.ensures.stands by_process (λ _. false) rs refl refl s)
    (updated c.args.self.now.slots c.insert_reserved.new.self c.vacant_key-at.result c.insert_reserved.result _ same c.insert_reserved.ensures.updates)
    c.insert_reserved-2.ensures.put
    (λ k. c.insert_reserved-3.ensures.put k ∙ ap (λ n. cond (same_name n k) (Some c.vacant_key-at.result) (name_at c.args.self.now k)) c.name_of.ensures) refl
    (let few = c.push.ensures.few by_object (λ _. false) (map object_row h.entries) h.are.on_objects in
    let a = length-map h.entries object_row in
    let b = length-map h.entries death_of in
    let d = ap length h.deaths_are in
    shared_more c.args.self.now.cookies c.add_sharer.new.cookies l c.args.x h.shared (omega (arith, few, a, b, d)) c.add_sharer.ensures.counted c.add_sharer.ensures.tolds c.add_sharer.ensures.kept)

pub returns-clause-uses : goal.returns-clause-uses
unfolding death_room death_count
returns-clause-uses c =
    let t = c.args.self.now in
    let objects = c.push.new.self in
    let processes = c.push-2.new.self in
    record {
      room = rw (c.insert_reserved.ensures.len) (more t.slots.capacity c.insert_reserved.new.self.capacity (slab_len t.slots) t.next
          (lists_room t.objects.chains (spare t.objects.numbers.all)) (lists_room objects.chains (spare objects.numbers.all))
          (lists_room t.processes.chains (spare t.processes.numbers.all)) (lists_room processes.chains (spare processes.numbers.all))
          (spare t.places) (spare c.insert_reserved-2.new.map) (spare t.names) (spare c.insert_reserved-3.new.map) (word_room t.cookies) (word_room c.add_sharer.new.cookies)
          (sym c.insert_reserved.ensures.capacity) c.push.ensures.uses c.push-2.ensures.uses c.insert_reserved-2.ensures.room c.insert_reserved-3.ensures.room c.add_sharer.ensures.room);
      count = let e = c.insert_reserved.ensures.len in omega (arith, e);
    }
