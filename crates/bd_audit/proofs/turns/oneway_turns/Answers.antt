use Rattle.bd_laws.proofs.words.Logic.{◌∙◌, refl, sym, ap, subst, arith, err_from_is_err_and}
use Rattle.bd_space.specs.Histories.{History}
use Rattle.bd_spelling.specs.Records.{history_in}
use Rattle.bd_ways.specs.Words.{Identity}
use Rattle.bd_audit.specs.TurnSearch.{turns_on}
use Rattle.bd_audit.specs.TurnCalls.{AreTurns}
use Rattle.bd_audit.proofs.Beginnings.{all_played, next_beginning, next_lawful}
use Rattle.bd_audit.proofs.TurnsTellOfCalls.TurnLists.{turns_noted, turns_none}
use Rattle.bd_audit.proofs.TurnsAreTaken.TurnMarks.{in_turn}
use Rattle.bd_audit.proofs.TurnsTellOfCalls.TurnCalls.{turns_are}
use Rattle.bd_audit.proofs.turns.oneway_turns.Goals as goal

pub loop-entry-init : goal.loop-entry-init
loop-entry-init c = record {
  engine = c.in-Ok-new.ensures.ok;
  turns = c.new-turns.ensures.items ∙ sym (ap (λ (h : History). turns_on c.from-object.result h) c.in-Ok-new.ensures.ok ∙ turns_none c.from-object.result c.args.record.now.seats);
  ended = refl;
}

pub advance-requires : goal.advance-requires
advance-requires c = record {
  lawful = next_lawful (history_in c.args.record.now) c.loop-entry.engine c.loop-entry.entry-index c.entry-item.result c.deref-entry-items.result.now c.requires.lawful
      c.loop-entry.invariant.engine (c.deref-entry-items.ensures.value ∙ c.in-Ok.ensures.copied) c.loop-entry-test.true c.entry-item.is;
}

pub note-requires : goal.note-requires
note-requires c =
    in_turn c.from-object.result c.loop-entry.engine c.advance.new.engine c.entry-item.result c.len-place.result c.loop-entry.list.ended c.loop-entry.list.turns.items
    c.in_ok-advance.ensures.ok c.len-place.ensures c.loop-entry.invariant.turns c.loop-entry.invariant.ended

pub loop-entry-preserved : goal.loop-entry-preserved
loop-entry-preserved c = record {
  engine = next_beginning (history_in c.args.record.now) c.loop-entry.engine c.advance.new.engine c.loop-entry.entry-index c.entry-item.result c.deref-entry-items.result.now
      c.loop-entry.invariant.engine (c.deref-entry-items.ensures.value ∙ c.in-Ok.ensures.copied) c.loop-entry-test.true c.entry-item.is c.in_ok-advance.ensures.ok;
  turns = turns_noted c.from-object.result c.loop-entry.engine c.advance.new.engine c.entry-item.result c.len-place.result c.loop-entry.list.turns.items c.note.new.list.turns.items
      c.in_ok-advance.ensures.ok c.len-place.ensures c.loop-entry.invariant.turns c.in_ok-note.ensures.ok;
  ended = c.in_ok-note.ensures.ended;
}

pub returns : goal.returns
returns c =
    let h = history_in c.args.record.now in
    let o = c.from-object.result in
    let done = c.loop-entry-test.false in
    let played = all_played h c.loop-entry.engine c.loop-entry.entry-index c.deref-entry-items.result.now c.loop-entry.invariant.engine (c.deref-entry-items.ensures.value ∙ c.in-Ok.ensures.copied) (omega arith) in
    subst (λ (x : Identity). AreTurns h.entries x c.loop-entry.list.turns.items) c.from-object.ensures
    (subst (λ ts. AreTurns h.entries o ts) (sym (c.loop-entry.invariant.turns ∙ ap (λ (g : History). turns_on o g) played)) (turns_are h o))

pub returns-in_err-advance : goal.returns-in_err-advance
returns-in_err-advance c =
    let p = err_from_is_err_and c.from_residual.result c.from_residual.ensures.1 in
    rw (p.1, p.2) c.in_err-advance.ensures.fault

pub returns-in_err-note : goal.returns-in_err-note
returns-in_err-note c =
    let p = err_from_is_err_and c.from_residual-in_err-note.result c.from_residual-in_err-note.ensures.1 in
    rw (p.1, p.2) c.in_err-note.ensures.fault
