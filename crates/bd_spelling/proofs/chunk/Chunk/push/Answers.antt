use Rattle.std.proofs.Common.{◌+◌, ◌++◌, ◌∷◌, [], take, length, ap, ◌∙◌, arith, refl}
use Rattle.std.proofs.lemmas.List.{length-take}
use Rattle.bd_spelling.specs.Logged.{LogView}
use Rattle.bd_spelling.proofs.Logs.{more_at, fewer, longer}
use Rattle.bd_spelling.proofs.chunk.Chunk.push.Goals as goal

pub overflow_add-self : goal.overflow_add-self
overflow_add-self c =
    let old = c.self.inside in
    let n = fewer old.count (take old.used old.bytes.items) c.self.invariant.0 in
    omega (arith, n, longer c.args.entry.now, length-take old.used old.bytes.items, c.self.invariant.1, old.bytes.ok.0)

pub invariant_of-self : goal.invariant_of-self
invariant_of-self c =
    let old = c.self.inside in
    let laid = c.lay_behind-self-inside.ensures.laid in
    let view = ap (λ (v : LogView). v.room) c.self.view_is in (
      (more_at old.count (old.count + 1) (take old.used old.bytes.items) (take c.lay_behind-self-inside.result c.lay_behind-self-inside.new.bytes.items) c.args.entry.now c.self.invariant.0 c.requires.spelled refl laid.front).1,
      omega (arith, laid.ends, laid.same, view, c.requires.room, c.self.invariant.1, longer c.args.entry.now),
    )

pub returns-clause-entries : goal.returns-clause-entries
returns-clause-entries c =
    let old = c.self.inside in
    let laid = c.lay_behind-self-inside.ensures.laid in
    (more_at old.count (old.count + 1) (take old.used old.bytes.items) (take c.lay_behind-self-inside.result c.lay_behind-self-inside.new.bytes.items) c.args.entry.now c.self.invariant.0 c.requires.spelled refl laid.front).0
    ∙ ap (λ (v : LogView). v.entries ++ c.args.entry.now ∷ []) c.self.view_is
