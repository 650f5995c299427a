use Rattle.std.proofs.Common.{refl, sym, ap, ◌∙◌, arith}
use Rattle.slab.specs.Slab.{get}
use Rattle.bd_chains.specs.Columns.{ends_of}
use Rattle.bd_chains.proofs.Tables.{remove_holds, absent_holds}
use Rattle.bd_chains.proofs.chains.Chains.remove.Goals as goal

pub returns-clause-stands : goal.returns-clause-stands
returns-clause-stands g c = λ rs h.
    let i = c.in_ok-item.item in
    remove_holds c.args.self.now c.vacate.new.self c.join.new.self rs h c.args.x i.list i.held c.saturating_sub-counted.result
    c.vacate.ensures.ends c.join.ensures.open c.join.ensures.len c.join.ensures.shown c.join.ensures.counts
    i (sym c.vacate.ensures.was ∙ c.in_ok-item.was) refl refl
    (grind (arith, c.saturating_sub-counted.ensures, c.from.ensures, ap (λ e. e.counted) c.ends_at-ends.ensures, ap (λ s. (ends_of (get s i.list)).counted) c.vacate.ensures.ends))
    c.in_ok-item.ensures.len c.vacate.ensures.shown c.vacate.ensures.nexts c.vacate.ensures.prevs c.join.ensures.nexts c.join.ensures.prevs

pub returns-in_err-item-clause-stands : goal.returns-in_err-item-clause-stands
returns-in_err-item-clause-stands g c = λ rs h. absent_holds c.args.self.now c.vacate.new.self rs c.args.x h (sym c.vacate.ensures.was ∙ c.in_err-item.was) c.in_err-item.ensures.absent
