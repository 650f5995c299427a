use Rattle.bd_records.proofs.Words.{AreBlank, IsBlank, List, Name, None, Some, ap, arith, asked_of, carried_of, cond, is_some, name_at, new_row, number_of, object_of, on_slot, option_map, refl, row_at, subst, sym, value_at, ◌++◌, ◌∙◌, ◌≡◌}
use Rattle.bd_records.proofs.{Asked.{counts_named, renamed}, Given.{all_put, blank_more, here, since_had}, GivenNames.{new_name, one_given}, Named.{given, new_is, past_is, some_shown}, Naming.{shown_some}}
use Rattle.bd_records.proofs.records.Records.give_name.Goals as goal

pub returns-in-Some-clause-names : goal.returns-in-Some-clause-names
returns-in-Some-clause-names c = λ base names h. since_had c.args.self.now c.args.from_zero c.args.p c.args.o base names h (ap is_some (sym c.number_of.ensures ∙ c.in-Some.is))

pub returns-in-Some-clause-named : goal.returns-in-Some-clause-named
returns-in-Some-clause-named c =
    let t = c.args.self.now.names in
    let is : number_of t c.args.p c.args.o ≡ Some c.in-Some.field-0 = sym c.number_of.ensures ∙ c.in-Some.is in
    ap (λ k. is_some (on_slot None (value_at t.rows c.args.p) k)) is
    ∙ shown_some object_of (value_at t.rows c.args.p c.in-Some.field-0) c.args.o (t.leads c.args.p c.args.o c.in-Some.field-0 is)

pub returns-in-Ok-clause-stands : goal.returns-in-Ok-clause-stands
returns-in-Ok-clause-stands c = λ objects l own h.
    let t = c.args.self.now.names in
    let lacks : number_of t c.args.p c.args.o ≡ None = grind (arith, c.number_of.ensures, c.in_default.not-Some) in
    renamed c.args.self.now _ objects l h refl refl refl refl (counts_named (row_at c.args.self.now.objects) (name_at t) (name_at c.give.new.self) c.args.p c.args.o objects l h.counts (ap (on_slot None (value_at t.rows c.args.p)) lacks) c.in-Ok.ensures.names)

pub returns-in-Ok-clause-names : goal.returns-in-Ok-clause-names
returns-in-Ok-clause-names c = λ base names h.
    let zero = c.args.from_zero in
    let p = c.args.p in
    let o = c.args.o in
    let n = c.in-Ok.n in
    let t = c.args.self.now.names in
    let u = c.give.new.self in
    let listed = c.args.self.now.given.items in
    let m : Name = record { process = p; number = n; object = o } in
    let lacks : number_of t p o ≡ None = grind (arith, c.number_of.ensures, c.in_default.not-Some) in
    let rows = c.in-Ok.ensures.names in
    let is = new_is t names h.stands zero p n (ap (option_map object_of) c.in-Ok.ensures.free.free) c.in-Ok.ensures.free.from (λ m a b. some_shown object_of (value_at t.rows p m) ∙ c.in-Ok.ensures.free.before m a b) in
    let put : name_at u p o ≡ Some (new_row o) = rows p o ∙ ap (λ b. cond b (Some (new_row o)) (name_at t p o)) (here p o) in
    let blank : IsBlank (name_at u p o) = (ap asked_of put, ap carried_of put) in
    record {
      stands = given t u names zero p n o h.stands c.in-Ok.ensures.within lacks is c.in-Ok.ensures.named c.in-Ok.ensures.numbers;
      grows = sym (new_name zero p n names o (h.stands.numbers_are p o ∙ lacks) is)
          ∙ one_given base listed names m h.grows ∙ ap (λ (g : List Name). base ++ g) (sym c.push_reserved.ensures.items);
      blank = subst (AreBlank u) (sym c.push_reserved.ensures.items) (blank_more u listed m (all_put t u p o rows listed h.blank) blank);
    }

pub returns-in-Ok-clause-named : goal.returns-in-Ok-clause-named
returns-in-Ok-clause-named c =
    let u = c.give.new.self in
    let is : number_of u c.args.p c.args.o ≡ Some c.in-Ok.n = c.in-Ok.ensures.numbers c.args.p c.args.o ∙ ap (λ b. cond b (Some c.in-Ok.n) (number_of c.args.self.now.names c.args.p c.args.o)) (here c.args.p c.args.o) in
    ap (λ k. is_some (on_slot None (value_at u.rows c.args.p) k)) is
    ∙ shown_some object_of (value_at u.rows c.args.p c.in-Ok.n) c.args.o (u.leads c.args.p c.args.o c.in-Ok.n is)

pub returns-in-Err-clause-full : goal.returns-in-Err-clause-full
returns-in-Err-clause-full c = λ l h.
    let t = c.args.self.now.names in
    let lacks : number_of t c.args.p c.args.o ≡ None = grind (arith, c.number_of.ensures, c.in_default.not-Some) in
    record { lacks = h.numbers_are c.args.p c.args.o ∙ lacks; past = past_is t l h c.args.from_zero c.args.p c.in-Err.ensures.full }
