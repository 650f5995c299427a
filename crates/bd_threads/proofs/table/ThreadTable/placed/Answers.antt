use Rattle.std.proofs.Common.{refl, sym, ◌∙◌, arith}
use Rattle.bd_keys.proofs.Rising.{find_none}
use Rattle.bd_threads.specs.Listed.{listed}
use Rattle.bd_threads.proofs.Rows.{seat_of, inside, read, row_found, none_found}
use Rattle.bd_threads.proofs.table.ThreadTable.placed.Goals as goal

pub index-requires : goal.index-requires
index-requires c = omega (arith, c.args.self.now.rows.ok, inside c.args.self.now c.args.seat _ c.in_ok-row.ensures.value)

pub returns : goal.returns
returns c =
    let t = c.args.self.now in
    let place = c.in_ok-row.ensures.value in
    sym ((row_found t c.args.seat _ place).found ∙ read t c.args.seat _ place _ _ c.index.ensures refl)

pub returns-in_err-row : goal.returns-in_err-row
returns-in_err-row c =
    let t = c.args.self.now in
    c.from_residual.ensures ∙ sym (find_none seat_of c.args.seat (listed t) (none_found t c.args.seat c.in_err-row.ensures.value))
