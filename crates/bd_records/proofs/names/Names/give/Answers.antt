use Rattle.bd_records.proofs.Words.{Bool, Identity, None, Some, ap, arith, cond, false, new_row, number_at, object_of, on_slot, option_map, refl, same, sym, true, value_at, ℕ, ◌&&◌, ◌==◌, ◌∙◌, ◌≡◌, ◌≤◌}
use Rattle.bd_records.proofs.{Keyed.{AreFound, Lead, put_at, put_found, put_leads}, Latest.{noted}, Naming.{by_process, own_process, put_is, same_slots}}
use Rattle.bd_records.proofs.names.Names.give.Goals as goal

pub invariant_of-self : goal.invariant_of-self
invariant_of-self c =
    let t = c.args.self.now in
    let p = c.args.p in
    let n = c.in-Some.n in
    let none : number_at t.numbers p c.args.o ≡ None = c.requires.lacks in
    let is : c.put-n.result ≡ n = put_is t.rows p n c.put-n.result c.args.from_zero c.in-Some.ensures.free c.put-n.ensures.zero c.put-n.ensures.free in
    let fresh : value_at t.rows p n ≡ None = grind (arith, c.in-Some.ensures.free) in
    let comes : (j : ℕ) → value_at c.put-n.new.self p j ≡ cond (n == j) (Some (new_row c.args.o)) (value_at t.rows p j) = (λ j. grind (arith, c.put-n.ensures.put p j, own_process p, is)) in
    record {
      found = by_process (λ q. AreFound (λ j. option_map object_of (value_at c.put-n.new.self q j)) (number_at c.insert_number.new.numbers q)) p (put_found object_of (value_at t.rows p) (value_at c.put-n.new.self p) (number_at t.numbers p) (number_at c.insert_number.new.numbers p) c.args.o n (t.found p) (t.leads p) (new_row c.args.o) refl (λ j. false) (λ j e. absurd cc) (λ j e. absurd (let h : None ≡ Some j = sym none ∙ e in cc)) fresh comes (λ x. grind (arith, c.insert_number.ensures.at p x, own_process p)))
          (λ q off x j e. grind (arith, off, c.insert_number.ensures.at q x, t.found q x j, e, c.put-n.ensures.put q j));
      leads = by_process (λ q. Lead (λ j. option_map object_of (value_at c.put-n.new.self q j)) (number_at c.insert_number.new.numbers q)) p (put_leads object_of (value_at t.rows p) (value_at c.put-n.new.self p) (number_at t.numbers p) (number_at c.insert_number.new.numbers p) c.args.o n (t.found p) (t.leads p) (new_row c.args.o) refl (λ j. false) (λ j e. absurd cc) (λ j e. absurd (let h : None ≡ Some j = sym none ∙ e in cc)) fresh comes (λ x. grind (arith, c.insert_number.ensures.at p x, own_process p)))
          (λ q off x j e. grind (arith, off, c.insert_number.ensures.at q x, t.leads q x j, e, c.put-n.ensures.put q j));
      not_later = λ q. noted (number_at t.numbers q) (number_at c.insert_number.new.numbers q) c.args.o t.latest (t.not_later q) (p == q) n c.max-self.result
          (omega (arith, c.max-self.ensures, c.tall.ensures)) (omega (arith, c.max-self.ensures)) (c.insert_number.ensures.at q);
      small = λ q x m e. at q x m ((p == q) && same c.args.o x) (sym (c.insert_number.ensures.at q x) ∙ e);
    }
  where
    at : (q : ℕ) (x : Identity) (m : ℕ) (b : Bool) → cond b (Some c.in-Some.n) (number_at c.args.self.now.numbers q x) ≡ Some m → m ≤ 4294967294
    at q x m true e = (let h = c.in-Some.ensures.within in let k : c.in-Some.n ≡ m = cc in omega (arith, h, k))
    at q x m false e = c.args.self.now.small q x m e

pub returns-clause-names : goal.returns-clause-names
returns-clause-names c =
    let t = c.args.self.now in
    let p = c.args.p in
    let n = c.in-Some.n in
    let none : number_at t.numbers p c.args.o ≡ None = c.requires.lacks in
    let is : c.put-n.result ≡ n = put_is t.rows p n c.put-n.result c.args.from_zero c.in-Some.ensures.free c.put-n.ensures.zero c.put-n.ensures.free in
    let fresh : value_at t.rows p n ≡ None = grind (arith, c.in-Some.ensures.free) in
    let comes : (j : ℕ) → value_at c.put-n.new.self p j ≡ cond (n == j) (Some (new_row c.args.o)) (value_at t.rows p j) = (λ j. grind (arith, c.put-n.ensures.put p j, own_process p, is)) in
    by_process (λ q. (x : Identity) → on_slot None (value_at c.put-n.new.self q) (number_at c.insert_number.new.numbers q x)
    ≡ cond ((p == q) && same c.args.o x) (Some (new_row c.args.o)) (on_slot None (value_at t.rows q) (number_at t.numbers q x))) p
    (λ x. grind (arith, own_process p, put_at object_of (value_at t.rows p) (value_at c.put-n.new.self p) (number_at t.numbers p) (number_at c.insert_number.new.numbers p) c.args.o n (t.found p) (t.leads p) (new_row c.args.o) refl (λ j. false) (λ j e. absurd cc) (λ j e. absurd (let h : None ≡ Some j = sym none ∙ e in cc)) fresh comes (λ x. grind (arith, c.insert_number.ensures.at p x, own_process p)) x))
    (λ q off x. ap (on_slot None (value_at c.put-n.new.self q)) (grind (arith, off, c.insert_number.ensures.at q x)) ∙ same_slots (value_at t.rows q) (value_at c.put-n.new.self q) (number_at t.numbers q x) (λ j. grind (arith, off, c.put-n.ensures.put q j)) ∙ grind (arith, off))
