-- A look keeps the rule.
use Rattle.bd_driver.proofs.{Keeping.{repage, review}, PageWord.{page_parts}, Views.{keeps_taker, starts_all}, Words.{Allows, Each, Fits, Hands, IsPage, Kept, List, Option, Slot, State, View, [], ap, arith, bit_of, get_elem?, get_or, keeps, length, looked, looked_at, none, page_word, ready_of, refl, some, step, subst, sym, view_of, ℕ, ◌%◌, ◌/◌, ◌<◌, ◌∙◌, ◌∷◌, ◌≡◌}}

pub bit_small : (taken_by : Option ℕ) → bit_of taken_by < 2
bit_small none = omega arith
bit_small (some t) = omega arith

-- by the rule word 0 is the published history's page
pub found_word : (seats : ℕ) (s : State Slot (List View)) (k : Kept seats s) → get_or s.words 0 0 ≡ page_word seats (bit_of k.taken_by) k.entries
found_word seats s k = ap (λ ws. get_or ws 0 0) k.words

pub found_page : (seats : ℕ) (s : State Slot (List View)) (k : Kept seats s) → IsPage seats (get_or s.words 0 0) k.entries
found_page seats s k =
    let parts = page_parts (bit_of k.taken_by) (ready_of seats k.entries) (length k.entries) (bit_small k.taken_by) k.small.1 in
    (ap (λ (n : ℕ). n / 4294967296) (found_word seats s k) ∙ parts.0, ap (λ (n : ℕ). n / 2 % 2147483648) (found_word seats s k) ∙ parts.1)

-- what the rule says of the one view of a seat
pub of_one : (seats : ℕ) (s : State Slot (List View)) (k : Kept seats s) (id : ℕ) (vs : List View) → get_elem? s.views id ≡ some vs → vs ≡ view_of vs ∷ [] → Fits seats k.entries k.carrier k.taken_by k.mailboxes id (view_of vs)
of_one seats s k id vs at one = (subst (Each (Fits seats k.entries k.carrier k.taken_by k.mailboxes id)) one (k.each id vs at)).0

pub looks : (seats slots id : ℕ) (me : Hands) → me.0 ≡ view_of me.0 ∷ [] → Allows (Kept seats) slots id me 0 (λ n. n) (looked (step slots 0 0 0 none) me)
looks seats slots id me one s k len at small =
    let v = view_of me.0 in
    let n : ℕ = get_or s.words 0 0 in
    let w = looked_at v n k.entries in
    let mine = of_one seats s k id me.0 at one in (
      w ∷ [],
      keeps,
      tt,
      repage seats s k id me w n keeps k.taken_by (found_word seats s k) k.homes
          (keeps_taker s.views id v w k.mailboxes k.mailboxes k.taken_by (at ∙ ap some one) (λ t. t) refl (λ p h. h) k.has_taker)
          (review seats k.entries k.carrier k.carrier k.taken_by k.taken_by k.mailboxes id id v w mine (refl, refl, refl, refl) mine.held (starts_all k.entries) (λ t. ((mine.takes t).0, refl)) mine.picks mine.idle)
          (λ j u _ f. f),
      ((refl, refl, refl), k.entries, mine.begins, subst (λ z. IsPage z n k.entries) (sym mine.seats_are) (found_page seats s k), refl),
    )
