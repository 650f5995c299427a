use Rattle.bd_c.proofs.Certifying.{all_told}
use Rattle.bd_c.proofs.certificates.hullpippin_turns.Goals as goal

pub returns-in-Ok : goal.returns-in-Ok
returns-in-Ok c =
    all_told c.args.journal.now c.args.place c.args.index c.number.result c.fill.result c.args.count.now c.in-Ok.told.items c.as_slice.result.now c.args.out.now c.fill.new.out
    c.in-Ok.ensures.ok c.as_slice.ensures.value c.fill.ensures c.number.ensures
