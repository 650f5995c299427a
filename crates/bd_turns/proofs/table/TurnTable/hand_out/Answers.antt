use Rattle.std.proofs.Common.{◌≡◌, Some, None, sym, ◌∙◌}
use Rattle.bd_space.specs.declared.space.Turn.{Turn}
use Rattle.bd_turns.proofs.Changes.{value_is, turns_handed_out, nothing_handed}
use Rattle.bd_turns.proofs.table.TurnTable.hand_out.Goals as goal

some_none : (t : Turn) → Some t ≡ None → ⊥
some_none t e = cc

pub returns-in-Some-get-clause-stands : goal.returns-in-Some-get-clause-stands
returns-in-Some-get-clause-stands c = λ l h.
    turns_handed_out c.args.self.now c.set.new.self c.args.made c.in-Some.spot c.in-Some-get.turn l h (sym c.spot.ensures ∙ c.in-Some.is) (sym c.get.ensures ∙ c.in-Some-get.is)
    c.set.ensures.stands c.set.ensures.open

pub returns-in_default-get-clause-stands : goal.returns-in_default-get-clause-stands
returns-in_default-get-clause-stands c = λ l h.
    let v = value_is c.args.self.now c.args.made c.in-Some.spot l h (sym c.spot.ensures ∙ c.in-Some.is) in
    absurd (some_none v.0.turn (sym v.3 ∙ sym c.get.ensures ∙ c.in_default-get.is))

pub returns-in_default-clause-stands : goal.returns-in_default-clause-stands
returns-in_default-clause-stands c = λ l h. nothing_handed c.args.self.now c.args.made l h (sym c.spot.ensures ∙ c.in_default.is)
