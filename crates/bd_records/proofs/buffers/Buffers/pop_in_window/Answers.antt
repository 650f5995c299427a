use Rattle.bd_records.proofs.Words.{BuffersAre, Held, Lying, None, Reference, Some, ap, arith, buffer_of, dropped_shows, false, is_in_window, list_of, lying_at, option_map, refl, same_key, subst, sym, window_list, window_of, ℕ, ◌∙◌, ◌≡◌}
use Rattle.bd_records.proofs.{Buffering.{dropped_windows, first_slot, found_in_window, left_in_window, none_found, none_in_window, none_without}, Pairing.{reference_of}}
use Rattle.bd_records.proofs.buffers.Buffers.pop_in_window.Goals as goal

pub returns-in-Some-clause-first : goal.returns-in-Some-clause-first
returns-in-Some-clause-first c = λ l h.
    let t = c.args.self.now in
    let slot = c.in_ok-slot.slot in
    let f = first_slot c.of.result h.others slot (sym (c.first.ensures h.others h.windows.holds) ∙ c.in_ok-slot.was) in
    let here : Some c.in-Some.lying ≡ lying_at slot h.others = sym c.in-Some.is ∙ c.get.ensures ∙ ap (option_map (λ (p : ℕ × Held Lying). p.1.value)) (h.windows.holds.shown_are slot) in
    ap (option_map reference_of) here ∙ found_in_window t l h c.args.p f.0 slot (sym c.of.ensures ∙ f.1) f.2

pub returns-in-Some-clause-stands : goal.returns-in-Some-clause-stands
returns-in-Some-clause-stands c = λ l h.
    let t = c.args.self.now in
    let slot = c.in_ok-slot.slot in
    let v = c.in-Some.lying in
    let f = first_slot c.of.result h.others slot (sym (c.first.ensures h.others h.windows.holds) ∙ c.in_ok-slot.was) in
    let here : lying_at slot h.others ≡ Some v = sym (sym c.in-Some.is ∙ c.get.ensures ∙ ap (option_map (λ (p : ℕ × Held Lying). p.1.value)) (h.windows.holds.shown_are slot)) in
    dropped_windows t _ l _ h v.at slot v here refl
    (dropped_shows buffer_of (λ _. false) same_key (list_of t) (list_of t) t.lists.chains c.remove-other.new.self v.at c.remove-other.ensures.stands c.remove-other.ensures.open (λ k. refl))
    (dropped_shows window_of (λ _. false) same_key (window_list t) (window_list t) t.windows.chains c.remove-first.new.self slot c.remove-first.ensures.stands c.remove-first.ensures.open (λ k. refl))
    (left_in_window t l h c.args.p f.0 slot (sym c.of.ensures ∙ f.1) f.2)

pub returns-in-None-clause-first : goal.returns-in-None-clause-first
returns-in-None-clause-first c = λ l h.
    let t = c.args.self.now in
    let slot = c.in_ok-slot.slot in
    let f = first_slot c.of.result h.others slot (sym (c.first.ensures h.others h.windows.holds) ∙ c.in_ok-slot.was) in
    let here : None ≡ lying_at slot h.others = sym c.in-None.is ∙ c.get.ensures ∙ ap (option_map (λ (p : ℕ × Held Lying). p.1.value)) (h.windows.holds.shown_are slot) in
    ap (option_map reference_of) here ∙ found_in_window t l h c.args.p f.0 slot (sym c.of.ensures ∙ f.1) f.2

pub returns-in-None-clause-stands : goal.returns-in-None-clause-stands
returns-in-None-clause-stands c = λ l h.
    let t = c.args.self.now in
    let slot = c.in_ok-slot.slot in
    let f = first_slot c.of.result h.others slot (sym (c.first.ensures h.others h.windows.holds) ∙ c.in_ok-slot.was) in
    let here : None ≡ lying_at slot h.others = sym c.in-None.is ∙ c.get.ensures ∙ ap (option_map (λ (p : ℕ × Held Lying). p.1.value)) (h.windows.holds.shown_are slot) in
    let none = sym (ap (option_map reference_of) here ∙ found_in_window t l h c.args.p f.0 slot (sym c.of.ensures ∙ f.1) f.2) in
    subst (BuffersAre t) (sym (none_without (λ (x : Reference). is_in_window c.args.p x.holder) l none)) h

pub returns-in_err-slot-clause-first : goal.returns-in_err-slot-clause-first
returns-in_err-slot-clause-first c = λ l h.
    let empty = none_in_window c.args.self.now l h c.args.p c.of.result (sym c.of.ensures) (sym (c.first.ensures h.others h.windows.holds) ∙ c.in_err-slot.was) in
    let gone = none_found (λ (x : Reference). is_in_window c.args.p x.holder) l empty in
    grind (arith, gone.0, c.from_residual.ensures)

pub returns-in_err-slot-clause-stands : goal.returns-in_err-slot-clause-stands
returns-in_err-slot-clause-stands c = λ l h.
    let t = c.args.self.now in
    let empty = none_in_window t l h c.args.p c.of.result (sym c.of.ensures) (sym (c.first.ensures h.others h.windows.holds) ∙ c.in_err-slot.was) in
    let gone = none_found (λ (x : Reference). is_in_window c.args.p x.holder) l empty in
    subst (BuffersAre t) (sym gone.1) h
