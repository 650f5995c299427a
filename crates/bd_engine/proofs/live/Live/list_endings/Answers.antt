use Rattle.bd_engine.proofs.{Keeping.{end_at_length, place}, Words.{arith, le-leb, length, ◌≤◌}}
use Rattle.bd_engine.proofs.live.Live.list_endings.Goals as goal

pub returns-then-tables-clause-full : goal.returns-then-tables-clause-full
returns-then-tables-clause-full c = λ h follows.
    let long : 18446744073709551615 ≤ length h.entries = omega (arith, (c.tables.ensures h follows).own.steps_are, place h, c.if-tables.true) in
    end_at_length h c.args.seat c.args.step.now (le-leb 18446744073709551615 (length h.entries) long)

pub returns-in-Err-clause-memory : goal.returns-in-Err-clause-memory
returns-in-Err-clause-memory c = λ h follows. omega (arith, (c.tables.ensures h follows).own.steps_are, place h, c.if-tables.false, (follows.lawful).short)
