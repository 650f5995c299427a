use Rattle.bd_records.proofs.Words.{Bool, Identity, None, Some, arith, cond, false, number_at, object_of, on_slot, option_map, refl, same, sym, true, value_at, ℕ, ◌&&◌, ◌==◌, ◌∙◌, ◌≡◌, ◌≤◌}
use Rattle.bd_records.proofs.{Keyed.{AreFound, Lead, gone_at, gone_found, gone_leads}, Latest.{gone}, Naming.{by_process, own_process}}
use Rattle.bd_records.proofs.names.Names.remove_at.Goals as goal

pub invariant_of-self : goal.invariant_of-self
invariant_of-self c =
    let t = c.args.self.now in
    let p = c.args.p in
    record {
      found = by_process (λ q. AreFound (λ j. option_map object_of (value_at c.remove-row.new.self q j)) (number_at c.remove_number.new.numbers q)) p
          (gone_found object_of (value_at t.rows p) (value_at c.remove-row.new.self p) (number_at t.numbers p) (number_at c.remove_number.new.numbers p) c.args.o c.args.n (t.found p) (t.leads p) c.requires
          (λ j. grind (arith, c.remove-row.ensures.at p j, own_process p)) (λ x. grind (arith, c.remove_number.ensures.at p x, own_process p)))
          (λ q off x j e. grind (arith, off, c.remove_number.ensures.at q x, t.found q x j, e, c.remove-row.ensures.at q j));
      leads = by_process (λ q. Lead (λ j. option_map object_of (value_at c.remove-row.new.self q j)) (number_at c.remove_number.new.numbers q)) p
          (gone_leads object_of (value_at t.rows p) (value_at c.remove-row.new.self p) (number_at t.numbers p) (number_at c.remove_number.new.numbers p) c.args.o c.args.n (t.found p) (t.leads p) c.requires
          (λ j. grind (arith, c.remove-row.ensures.at p j, own_process p)) (λ x. grind (arith, c.remove_number.ensures.at p x, own_process p)))
          (λ q off x j e. grind (arith, off, c.remove_number.ensures.at q x, t.leads q x j, e, c.remove-row.ensures.at q j));
      not_later = λ q. gone (number_at t.numbers q) (number_at c.remove_number.new.numbers q) c.args.o t.latest (t.not_later q) (c.args.p == q) (c.remove_number.ensures.at q);
      small = λ q x m e. at q x m ((c.args.p == q) && same c.args.o x) (sym (c.remove_number.ensures.at q x) ∙ e);
    }
  where
    at : (q : ℕ) (x : Identity) (m : ℕ) (b : Bool) → cond b None (number_at c.args.self.now.numbers q x) ≡ Some m → m ≤ 4294967294
    at q x m true e = absurd cc
    at q x m false e = c.args.self.now.small q x m e

pub returns-clause-names : goal.returns-clause-names
returns-clause-names c =
    let t = c.args.self.now in
    let p = c.args.p in
    by_process (λ q. (x : Identity) → on_slot None (value_at c.remove-row.new.self q) (number_at c.remove_number.new.numbers q x)
    ≡ cond ((p == q) && same c.args.o x) None (on_slot None (value_at t.rows q) (number_at t.numbers q x))) p
    (λ x. grind (
      arith,
      own_process p,
      gone_at object_of (value_at t.rows p) (value_at c.remove-row.new.self p) (number_at t.numbers p) (number_at c.remove_number.new.numbers p) c.args.o c.args.n (t.found p) (t.leads p) c.requires
          (λ j. grind (arith, c.remove-row.ensures.at p j, own_process p)) (λ x. grind (arith, c.remove_number.ensures.at p x, own_process p)) x,
    ))
    (λ q off x. at q off x (number_at t.numbers q x) refl)
  where
    at : (q : ℕ) → (c.args.p == q) ≡ false → (x : Identity) → (s : _) → number_at c.args.self.now.numbers q x ≡ s
        → on_slot None (value_at c.remove-row.new.self q) (number_at c.remove_number.new.numbers q x) ≡ cond ((c.args.p == q) && same c.args.o x) None (on_slot None (value_at c.args.self.now.rows q) s)
    at q off x None e = grind (arith, off, e, c.remove_number.ensures.at q x)
    at q off x (Some j) e = grind (arith, off, e, c.remove_number.ensures.at q x, c.remove-row.ensures.at q j)
