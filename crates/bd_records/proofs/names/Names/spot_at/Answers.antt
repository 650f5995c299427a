use Rattle.bd_records.proofs.Words.{Some, ap, object_of, option_copied, option_map, same_eq, sym, ◌∙◌}
use Rattle.bd_records.proofs.names.Names.spot_at.Goals as goal

pub returns-then-eq-clause-number : goal.returns-then-eq-clause-number
returns-then-eq-clause-number c =
    let is = same_eq c.in-Some.row.now.object c.args.o (sym c.eq.ensures ∙ c.if-eq.true) in
    c.args.self.now.found c.args.p c.args.o c.args.number (ap (option_map object_of) (sym c.look.ensures ∙ ap option_copied c.in-Some.is) ∙ ap Some is)
