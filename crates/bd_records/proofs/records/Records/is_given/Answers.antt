use Rattle.bd_records.proofs.Words.{ap, false, gives_name_to, list_any, name_at, not, owned_in, row_at, same, sym, ◌&&◌, ◌∙◌, ◌≡◌}
use Rattle.bd_records.proofs.Holding.{given_counts, given_last}
use Rattle.bd_records.proofs.records.Records.is_given.Goals as goal

pub returns-then-is_blank : goal.returns-then-is_blank
returns-then-is_blank c = λ is objects l h.
    let own = owned_in objects c.args.p c.args.o in
    let e : own ≡ false → not c.is_blank.result ≡ list_any (λ r. same r.object c.args.o && gives_name_to c.args.p r.holder) l = λ free. ap not c.is_blank.ensures ∙ given_counts (row_at c.args.self.now.objects) (name_at c.args.self.now.names) objects l h.counts c.args.p c.args.o c.args.w is free in
    sym (ap (λ b. not b && not own) c.if-is_blank.true) ∙ given_last own (not c.is_blank.result) _ e

pub returns : goal.returns
returns c = λ is objects l h.
    let own = owned_in objects c.args.p c.args.o in
    let e : own ≡ false → not c.is_blank.result ≡ list_any (λ r. same r.object c.args.o && gives_name_to c.args.p r.holder) l = λ free. ap not c.is_blank.ensures ∙ given_counts (row_at c.args.self.now.objects) (name_at c.args.self.now.names) objects l h.counts c.args.p c.args.o c.args.w is free in
    ap not (c.owns.ensures objects l h) ∙ sym (ap (λ b. not b && not own) c.if-is_blank.false) ∙ given_last own (not c.is_blank.result) _ e
