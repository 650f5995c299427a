use Rattle.bd_driver.proofs.{Deals.{opens}, Seats.{own_all}, Words.{History, Kept, List, Slot, [], ap, arith, newcomers, opening, page_word, ready_of, replicate, subst, sym, ℕ, ◌-◌, ◌<◌, ◌∙◌, ◌∷◌, ◌≡◌}}
use Rattle.bd_driver.proofs.driver.Driver.new.Goals as goal

pub new-requires : goal.new-requires
new-requires c =
    let stands = c.in-Ok-for_seats.ensures in
    let p = c.page_while_taken-page.ensures in
    let taken : c.page_while_taken-page.result ≡ page_word c.args.seats 1 [] = p.page ∙ ap (λ (e : History). page_word e.seats 1 e.entries) stands in
    let bits : ready_of c.args.seats [] < 2147483648 = subst (λ (e : History). ready_of e.seats e.entries < 2147483648) stands p.bits in
    let page : c.page_while_taken-page.result - 1 ≡ page_word c.args.seats 0 [] = omega arith in
    let words : c.as_slice.result.now ≡ (c.page_while_taken-page.result - 1) ∷ replicate c.args.seats 0 = c.as_slice.ensures.value ∙ c.in-Ok-lay_words.ensures in
    subst (λ (z : List ℕ × List Slot). Kept c.args.seats (opening z.0 z.1 (newcomers c.args.seats 0 c.args.seats))) (λ i. (sym words i, sym c.in-Ok-lay_slots.ensures i))
    (opens c.args.seats _ c.in-Ok-for_seats.engine stands page bits)

pub returns-clause-own : goal.returns-clause-own
returns-clause-own c = own_all _ _ _ c.in-Ok-deal.ensures.dealt
