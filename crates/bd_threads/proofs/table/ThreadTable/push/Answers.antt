use Rattle.std.proofs.Common.{◌≡◌, ℕ, ◌+◌, true, cond, length, List, [], ◌∷◌, ◌++◌, None, Some, ap, ◌∙◌, arith, Result, Ok, Err, Option}
use Rattle.std.proofs.{lemmas.List.{get_or_past, length_push}, lemmas.List.Elements.{filter_map-append}}
use Rattle.std.specs.{Prelude.{IfOk, OnOk, is_some, option_map}, Result.{is_ok}}
use Rattle.bd_space.specs.{declared.space.Thread.{Thread}, Seats.{thread_in}}
use Rattle.bd_keys.proofs.Found.{find_gone}
use Rattle.bd_threads.specs.{Listed.{listed}, Rows.{live, place_at, seat_at}}
use Rattle.bd_threads.proofs.Rows.{seat_of, unplaced, seat_push, inverse_more}
use Rattle.bd_threads.proofs.table.ThreadTable.push.Goals as goal

done : {T E P : Type 0} (r : Result T E) → is_ok r ≡ true → OnOk r P → P
done (Ok x) is p = p
done (Err e) is p = absurd (cc)

counted : {E : Type 0} (r : Result (Option ℕ) E) (n m : ℕ) → is_ok r ≡ true → IfOk r (λ o. o ≡ None) → IfOk r (λ o. n ≡ m + cond (is_some o) 0 1) → n ≡ m + 1
counted (Ok o) n m is was len = grind (arith, was, len)
counted (Err e) n m is was len = absurd (cc)

more : (rows new : List (Option Thread)) (t : Thread) → new ≡ rows ++ Some t ∷ [] → live new ≡ live rows ++ t ∷ []
more rows new t is = ap live is ∙ filter_map-append (λ (o : Option Thread). o) rows (Some t ∷ [])

pub invariant_of-self : goal.invariant_of-self
invariant_of-self c =
    let t = c.remove.new.self in
    let rows = t.rows.items in
    let one = c.args.thread in
    let items = c.push_reserved.ensures.items in
    let ok = ap is_ok c.in-Ok.is in
    let none = unplaced t one.seat
    (ap (λ ts. thread_in ts one.seat) c.remove.ensures.listed ∙ find_gone seat_of one.seat (listed c.args.self.now)) in
    let at : c.len-row.result ≡ length rows = omega (arith, c.len-row.ensures, t.rows.ok) in
    let len = counted c.insert.result _ _ ok (rw none at c.insert.ensures.old) c.insert.ensures.len in
    record {
      found = inverse_more (place_at t.places) (seat_at rows) _ _ t.found one.seat _ none
          (ap (option_map seat_of) (get_or_past rows c.len-row.result None (omega (arith, at))))
          (done c.insert.result ok c.insert.ensures.updates).0
          (λ j. let seats = seat_push rows (Some one) j in rw (items, at) seats);
      left = omega (arith, len, t.left, ap length (more rows _ one items), length_push (live rows) one);
    }

pub returns-clause-listed : goal.returns-clause-listed
returns-clause-listed c =
    more c.remove.new.self.rows.items _ c.args.thread c.push_reserved.ensures.items
    ∙ ap (λ ts. ts ++ c.args.thread ∷ []) c.remove.ensures.listed
