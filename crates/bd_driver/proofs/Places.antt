-- The places of a seat's entries after a run.
use Rattle.bd_driver.proofs.Words.{AllBy, Bool, Entry, List, [], ap, append-nil, arith, cond, eq-eqb, eqb, false, length, ne_eqb, places, places_from, places_of, refl, sym, true, ℕ, ◌++◌, ◌+◌, ◌∙◌, ◌∷◌, ◌≡◌, ◌≢◌}

cond_append : (b : Bool) (n : ℕ) (xs ys : List ℕ) → cond b (n ∷ (xs ++ ys)) (xs ++ ys) ≡ cond b (n ∷ xs) xs ++ ys
cond_append true n xs ys = refl
cond_append false n xs ys = refl

all_places : (who n : ℕ) (run : List Entry) → AllBy who run → places_from who n run ≡ places n (length run)
all_places who n [] h = refl
all_places who n (e ∷ es) h =
    ap (λ b. cond b (n ∷ places_from who (n + 1) es) (places_from who (n + 1) es)) (eq-eqb e.seat who h.0) ∙ ap (λ l. n ∷ l) (all_places who (n + 1) es h.1)

no_places : (who by n : ℕ) (run : List Entry) → AllBy by run → who ≢ by → places_from who n run ≡ []
no_places who by n [] h apart = refl
no_places who by n (e ∷ es) h apart =
    ap (λ b. cond b (n ∷ places_from who (n + 1) es) (places_from who (n + 1) es)) (ne_eqb e.seat who (λ s. apart (sym s ∙ h.0))) ∙ no_places who by (n + 1) es h.1 apart

append_places : (who n : ℕ) (entries run : List Entry) → places_from who n (entries ++ run) ≡ places_from who n entries ++ places_from who (n + length entries) run
append_places who n [] run = ap (λ (k : ℕ). places_from who k run) (omega arith)
append_places who n (x ∷ xs) run =
    let rest : places_from who (n + 1) (xs ++ run) ≡ places_from who (n + 1) xs ++ places_from who (n + length (x ∷ xs)) run =
    append_places who (n + 1) xs run ∙ ap (λ (k : ℕ). places_from who (n + 1) xs ++ places_from who k run) (omega arith) in
    ap (λ l. cond (eqb x.seat who) (n ∷ l) l) rest ∙ cond_append (eqb x.seat who) n (places_from who (n + 1) xs) (places_from who (n + length (x ∷ xs)) run)

pub own_grow : (who : ℕ) (entries run : List Entry) → AllBy who run → places_of who (entries ++ run) ≡ places_of who entries ++ places (length entries) (length run)
own_grow who entries run h = append_places who 0 entries run ∙ ap (λ l. places_of who entries ++ l) (ap (λ (k : ℕ). places_from who k run) (omega arith) ∙ all_places who (length entries) run h)

pub others_stay : (who by : ℕ) (entries run : List Entry) → AllBy by run → who ≢ by → places_of who (entries ++ run) ≡ places_of who entries
others_stay who by entries run h apart = append_places who 0 entries run ∙ (ap (λ l. places_of who entries ++ l) (no_places who by (0 + length entries) run h apart) ∙ append-nil (places_of who entries))
