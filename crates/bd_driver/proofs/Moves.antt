-- Publish and put at given hands: that they are allowed, and the hands after.
use Rattle.bd_driver.proofs.{Takes.{publishes, puts}, Words.{AllBy, Allows, Entry, Hands, History, Home, Kept, List, Nothing, Open, Slot, View, [], ap, bit_and, entries_in, history_of, length, none, page_word, published, published_at, put, put_at, ready_of, refl, rest, step, subst, sym, true, view_of, ℕ, ◌++◌, ◌<◌, ◌∙◌, ◌∷◌, ◌≡◌}}

-- what an exchange leaves in the slot held first
pub placed : (me m : Hands) (v : View) (slot : ℕ) (x y : Slot) (xs : List (ℕ × Slot)) → me.0 ≡ v ∷ [] → me.1 ≡ (slot, x) ∷ xs → m ≡ (me.0, (slot, y) ∷ rest me.1) → m ≡ (v ∷ [], (slot, y) ∷ xs)
placed me m v slot x y xs a b e = e ∙ (λ i. (a i, (slot, y) ∷ rest (b i)))

pub publishes_at : (seats slots id : ℕ) (me : Hands) (v : View) (xs : List (ℕ × Slot)) (slot : ℕ) (e : History) (run : List Entry) (new : ℕ) → me ≡ (v ∷ [], (slot, Home e) ∷ xs)
    → v.taker ≡ true → v.handover ≡ Open → e.entries ≡ v.seen ++ run → AllBy v.who run → new ≡ page_word v.seats 1 e.entries → (length e.entries < 4294967296) × (ready_of v.seats e.entries < 2147483648)
    → Allows (Kept seats) slots id me 0 (λ _. new) (published (step slots 0 new 0 none) me)
publishes_at seats slots id me v xs slot e run new is on free grown by page fits =
    subst (λ (m : Hands). Allows (Kept seats) slots id m 0 (λ _. new) (published (step slots 0 new 0 none) m)) (sym is)
    (publishes seats slots id (v ∷ [], (slot, Home e) ∷ xs) refl run new on free grown by page fits)

pub after_publish : (m m' : Hands) (v : View) (xs : List (ℕ × Slot)) (slot : ℕ) (e : History) (n : ℕ) → m ≡ (v ∷ [], (slot, Home e) ∷ xs) → m' ≡ (published_at (view_of m.0) n (entries_in m.1) ∷ [], m.1)
    → m' ≡ (published_at v n e.entries ∷ [], (slot, Home e) ∷ xs)
after_publish m m' v xs slot e n is then = then ∙ ap (λ (x : Hands). (published_at (view_of x.0) n (entries_in x.1) ∷ [], x.1)) is

pub puts_at : (seats slots id : ℕ) (me : Hands) (v : View) (xs : List (ℕ × Slot)) (e : History) → me ≡ (v ∷ [], (0, Home e) ∷ xs) → v.taker ≡ true → v.pick ≡ Nothing → e ≡ history_of v.seats v.seen
    → Allows (Kept seats) slots id me 0 (λ n. bit_and n 18446744073709551614) (put (step slots 0 18446744073709551614 0 none) me)
puts_at seats slots id me v xs e is on none_yet stands =
    subst (λ (m : Hands). Allows (Kept seats) slots id m 0 (λ n. bit_and n 18446744073709551614) (put (step slots 0 18446744073709551614 0 none) m)) (sym is)
    (puts seats slots id (v ∷ [], (0, Home e) ∷ xs) refl on none_yet (λ i. (0, Home (stands i)) ∷ xs))

pub after_put : (m m' : Hands) (v : View) (xs : List (ℕ × Slot)) (e : History) (n : ℕ) → m ≡ (v ∷ [], (0, Home e) ∷ xs) → m' ≡ (put_at (view_of m.0) n ∷ [], rest m.1) → m' ≡ (put_at v n ∷ [], xs)
after_put m m' v xs e n is then = then ∙ ap (λ (x : Hands). (put_at (view_of x.0) n ∷ [], rest x.1)) is
