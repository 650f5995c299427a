use Rattle.bd_step.proofs.{Words.{IsBy, Space, ap, change, command_step, read_step}, Meeting.{as_step_written, by_same, by_step, is_rare, written_step}}
use Rattle.bd_step.proofs.tables.Tables.change_by.Goals as goal

pub returns-in-Command-clause-step : goal.returns-in-Command-clause-step
unfolding change
returns-in-Command-clause-step g c = written_step _ _ _ _ _ _ c.requires _ _ c.written.ensures
    (by_step c.args.self.now c.args.actor (λ s. change s c.args.actor.thread.seat c.args.step.now) (λ s a. command_step s a c.in-Command.command c.in-Command.parcel) (λ s. ap (change s c.args.actor.thread.seat) c.in-Command.is) _ _ c.command.ensures.step)

pub returns-in-Read-clause-step : goal.returns-in-Read-clause-step
unfolding change
returns-in-Read-clause-step g c =
    let f = λ (s : Space). change s c.args.actor.thread.seat c.args.step.now in
    as_step_written c.args.self.now (IsBy c.args.actor) (IsBy c.args.actor) (λ s. read_step s c.args.actor c.in-Read.limit) f
    (by_same c.args.self.now c.args.actor f (λ s a. read_step s a c.in-Read.limit) (λ s. ap (change s c.args.actor.thread.seat) c.in-Read.is)) _ _ _ _ c.read.ensures.step

pub change_rarely-requires : goal.change_rarely-requires
change_rarely-requires g c = is_rare c.args.step.now c.in_default.not-Command c.in_default.not-Read

pub returns-in_default-clause-step : goal.returns-in_default-clause-step
returns-in_default-clause-step g c = written_step _ _ _ _ _ _ c.requires _ _ c.written-in_default.ensures c.change_rarely.ensures.step
