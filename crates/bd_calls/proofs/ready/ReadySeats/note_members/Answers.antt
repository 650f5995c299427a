use Rattle.std.proofs.Common.{◌≡◌, ◌==◌, None, refl, sym, ap, ◌∙◌, arith, get_or, length, ◌≤◌, inl, inr}
use Rattle.std.proofs.lemmas.{Bool.{eqb-false, cases_lt}, List.{get_or_past}, Nat.Bits.{bit_at-zero}}
use Rattle.std.specs.{Int.{bit_at}, Prelude.{option_map}}
use Rattle.bd_calls.specs.{Ready.{with_shared, seen_at}, Grouped.{is_member}}
use Rattle.bd_calls.proofs.Members.{kept_beside, still_alike, still_noted}
use Rattle.bd_calls.proofs.ready.ReadySeats.note_members.Goals as goal

pub members-init : goal.members-init
members-init c =
    let items = c.members_of-rest.new.self.seats.items in
    record {
      alike = λ i. refl;
      noted = λ i low none. kept_beside c.args.process c.args.has (get_or items i None) c.members_of-rest.result i
          (λ member. c.members_of-rest.ensures.members i low (ap (λ xs. is_member c.args.process (get_or xs i None)) (sym c.members_of-rest.ensures.same) ∙ member)) none;
    }

pub members-preserved : goal.members-preserved
members-preserved c =
    let seat = c.lowest-seat.result in
    let old = c.members.self in
    let new = c.note_member.new.self in
    record {
      alike = λ i. still_alike c.args.process c.args.has (seat == i) (seen_at old i) (seen_at new i) _ (c.note_member.ensures i) (c.members.invariant.alike i);
      noted = λ i low none. still_noted c.args.process c.args.has (seat == i) (seen_at old i) (seen_at new i) (c.note_member.ensures i)
          (λ apart. c.members.invariant.noted i low (sym (c.without-rest.ensures.others i low (λ k. eqb-false seat i apart (sym k))) ∙ none));
    }

pub returns : goal.returns
returns c = λ i.
    let f = option_map (with_shared c.args.process c.args.has) in
    let old = c.args.self.now in
    let new = c.members.self in
    let same : seen_at c.members_of-rest.new.self i ≡ seen_at old i = ap (λ xs. get_or xs i None) c.members_of-rest.ensures.same in
    elim (cases_lt i 32) [
      | inl low ↦ c.members.invariant.noted i low (ap (λ n. bit_at n i) c.members-test.false ∙ bit_at-zero i) ∙ c.members.invariant.alike i ∙ ap f same
      | inr behind ↦
          let there : length new.seats.items ≤ i = omega (arith, behind, new.few, new.seats.ok.0) in
          let here : length old.seats.items ≤ i = omega (arith, behind, old.few, old.seats.ok.0) in
          get_or_past new.seats.items i None there ∙ ap f (sym (get_or_past old.seats.items i None here))
    ]
