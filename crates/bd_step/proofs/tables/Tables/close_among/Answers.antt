use Rattle.bd_step.proofs.{Words.{is_place_among}, Standing.{closed_among_stands}}
use Rattle.bd_step.proofs.tables.Tables.close_among.Goals as goal

pub returns-clause-stands : goal.returns-clause-stands
returns-clause-stands c = λ s h. closed_among_stands c.args.self.now c.close_among.new.self s (is_place_among c.args.chosen.now) h (c.close_among.ensures.stands s h.calls_stand h.own.steps_are)
