use Rattle.bd_records.proofs.Words.{ap, false, is_some, object_of, sym, true, value_at, ◌∙◌, ◌≡◌}
use Rattle.bd_records.proofs.Naming.{shown_some}
use Rattle.bd_records.proofs.names.Names.spot_among.Goals as goal

pub unreachable-requires : goal.unreachable-requires
unreachable-requires c =
    let t = c.args.self.now in
    let n = c.in_ok-number.number in
    let h : is_some (value_at t.rows c.args.p n) ≡ true = shown_some object_of (value_at t.rows c.args.p n) c.args.o (t.leads c.args.p c.args.o n (sym c.number_among.ensures ∙ c.in_ok-number.was)) in
    let e : is_some (value_at t.rows c.args.p n) ≡ false = ap is_some (sym c.get.ensures ∙ c.in-None.is) in
    cc
