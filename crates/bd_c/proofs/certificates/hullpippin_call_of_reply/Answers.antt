use Rattle.bd_c.proofs.Certifying.{answer_told}
use Rattle.bd_c.proofs.certificates.hullpippin_call_of_reply.Goals as goal

pub returns-in-Ok : goal.returns-in-Ok
returns-in-Ok c =
    answer_told c.args.journal.now c.args.place c.number.result c.place_told.result c.args.call.now c.in-Ok.found c.in-Ok.ensures.ok c.place_told.ensures
    c.number.ensures
