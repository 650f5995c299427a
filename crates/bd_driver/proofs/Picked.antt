-- What is picked, while mailboxes change.
use Rattle.bd_driver.proofs.Words.{Bool, List, Mailbox, Nothing, Picked, PickedAs, Picking, Request, answered, ap, at_set, empty, false, get_elem?, picked, posted, set, shut, some, sym, true, true≢false, ℕ, ⊎_elim, ◌∙◌, ◌≡◌, ◌≢◌}

abbrev pub is_picked : Mailbox → Bool
is_picked shut = false
is_picked empty = false
is_picked (posted r n) = false
is_picked (picked r n start count) = true
is_picked (answered r n o) = false

-- what was picked at a mailbox of this number
abbrev as_pick : ℕ → Mailbox → Picking
as_pick i shut = Nothing
as_pick i empty = Nothing
as_pick i (posted r n) = Nothing
as_pick i (picked r n start count) = Picked i r n start count
as_pick i (answered r n o) = Nothing

abbrev is_some_pick : Picking → Bool
is_some_pick Nothing = false
is_some_pick (Picked i r since start count) = true

abbrev seat_in : Picking → ℕ
seat_in Nothing = 0
seat_in (Picked i r since start count) = i

-- no mailbox but this is picked
abbrev pub NoneElse : List Mailbox → ℕ → Type 0
NoneElse mailboxes i = (j : ℕ) (r : Request) (since start count : ℕ) → j ≢ i → get_elem? mailboxes j ≡ some (picked r since start count) → ⊥

pub none_else : (mailboxes : List Mailbox) (i : ℕ) → PickedAs mailboxes Nothing → NoneElse mailboxes i
none_else mailboxes i h = λ j r since start count apart e. true≢false (sym (ap is_some_pick (h j r since start count e)))

pub one_else : (mailboxes : List Mailbox) (i : ℕ) (r : Request) (since start count : ℕ) → PickedAs mailboxes (Picked i r since start count) → NoneElse mailboxes i
one_else mailboxes i r since start count h = λ j q n b m apart e. apart (sym (ap seat_in (h j q n b m e)))

-- a mailbox changes to one that isn't picked
pub picked_else : (mailboxes : List Mailbox) (i : ℕ) (new : Mailbox) (p : Picking) → is_picked new ≡ false → PickedAs mailboxes p → PickedAs (set mailboxes i new) p
picked_else mailboxes i new p off h = λ j r since start count e.
    ⊎_elim (λ (y : (j ≡ i) × (new ≡ picked r since start count)). absurd (true≢false (sym (ap is_picked y.1) ∙ off)))
    (λ (y : (j ≢ i) × (get_elem? mailboxes j ≡ some (picked r since start count))). h j r since start count y.1)
    (at_set mailboxes i j new (picked r since start count) e)

-- the one picked mailbox is no longer picked
pub picked_gone : (mailboxes : List Mailbox) (i : ℕ) (new : Mailbox) (p : Picking) → is_picked new ≡ false → NoneElse mailboxes i → PickedAs (set mailboxes i new) p
picked_gone mailboxes i new p off else = λ j r since start count e.
    ⊎_elim (λ (y : (j ≡ i) × (new ≡ picked r since start count)). absurd (true≢false (sym (ap is_picked y.1) ∙ off)))
    (λ (y : (j ≢ i) × (get_elem? mailboxes j ≡ some (picked r since start count))). absurd (else j r since start count y.0 y.1))
    (at_set mailboxes i j new (picked r since start count) e)

-- a mailbox is picked, or its places are published
pub picked_set : (mailboxes : List Mailbox) (i : ℕ) (r : Request) (since start count : ℕ) (p : Picking) → NoneElse mailboxes i → p ≡ Picked i r since start count → PickedAs (set mailboxes i (picked r since start count)) p
picked_set mailboxes i r since start count p else is = λ j q n b m e.
    ⊎_elim (λ (y : (j ≡ i) × (picked r since start count ≡ picked q n b m)). is ∙ (ap (as_pick i) y.1 ∙ ap (λ (z : ℕ). Picked z q n b m) (sym y.0)))
    (λ (y : (j ≢ i) × (get_elem? mailboxes j ≡ some (picked q n b m))). absurd (else j q n b m y.0 y.1))
    (at_set mailboxes i j (picked r since start count) (picked q n b m) e)
