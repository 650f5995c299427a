use Rattle.bd_records.proofs.records.Records.listed.Goals as goal

pub returns : goal.returns
returns c = λ objects l h. c.listed.ensures objects h.own
