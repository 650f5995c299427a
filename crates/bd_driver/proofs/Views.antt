-- Views in their places.
use Rattle.bd_driver.proofs.Words.{BeginsWith, Each, Entry, HasTaker, List, Mailbox, Nothing, Option, PickedAs, Picking, View, [], ap, append-nil, append_assoc, arith, at_set, dite, get_elem?, length, none, set, set_else, set_here, some, some-injective, some-ne-none, subst, suc, sym, true, zero, ℕ, ℕ_discrete, ⊎_elim, ◌++◌, ◌<◌, ◌∙◌, ◌∷◌, ◌≡◌, ◌≢◌}

pub inside : {A : Type 0} (l : List A) (i : ℕ) (a : A) → get_elem? l i ≡ some a → i < length l
inside [] i a e = absurd (some-ne-none a (sym e))
inside (x ∷ xs) zero a e = omega arith
inside (x ∷ xs) (suc i) a e = let h = inside xs i a e in omega arith

pub each_map : (P Q : View → Type 0) → ((v : View) → P v → Q v) → (vs : List View) → Each P vs → Each Q vs
each_map P Q f [] h = tt
each_map P Q f (v ∷ vs) h = (f v h.0, each_map P Q f vs h.1)

pub each_both : (P Q : View → Type 0) (vs : List View) → Each P vs → Each Q vs → Each (λ v. P v × Q v) vs
each_both P Q [] h i = tt
each_both P Q (v ∷ vs) h i = ((h.0, i.0), each_both P Q vs h.1 i.1)

pub each_append : (P : View → Type 0) (vs ws : List View) → Each P vs → Each P ws → Each P (vs ++ ws)
each_append P [] ws h i = i
each_append P (v ∷ vs) ws h i = (h.0, each_append P vs ws h.1 i)

-- a change of one seat's views
pub each_set : (P : ℕ → View → Type 0) (views : List (List View)) (id : ℕ) (new : List View)
    → ((j : ℕ) (vs : List View) → j ≢ id → get_elem? views j ≡ some vs → Each (P j) vs) → Each (P id) new
    → (j : ℕ) (vs : List View) → get_elem? (set views id new) j ≡ some vs → Each (P j) vs
each_set P views id new others mine j vs e =
    ⊎_elim
    (λ (x : (j ≡ id) × (new ≡ vs)). subst (λ (y : ℕ × List View). Each (P y.0) y.1) (λ i. (sym x.0 i, x.1 i)) mine)
    (λ (x : (j ≢ id) × (get_elem? views j ≡ some vs)). others j vs x.0 x.1)
    (at_set views id j new vs e)

-- the taker stays one where its next view is a taker's too, with the same pick, and what is picked stays so
pub keeps_taker : (views : List (List View)) (id : ℕ) (v w : View) (mailboxes now : List Mailbox) (taken_by : Option ℕ) → get_elem? views id ≡ some (v ∷ []) → (v.taker ≡ true → w.taker ≡ true) → w.pick ≡ v.pick
    → ((p : Picking) → PickedAs mailboxes p → PickedAs now p) → HasTaker views mailboxes taken_by → HasTaker (set views id (w ∷ [])) now taken_by
keeps_taker views id v w mailboxes now none at same pick_is picks h = picks Nothing h
keeps_taker views id v w mailboxes now (some t) at same pick_is picks h =
    dite (ℕ_discrete t id)
    (λ (e : t ≡ id).
    let both : v ∷ [] ≡ h.0 ∷ [] = some-injective _ _ (sym at ∙ (ap (get_elem? views) (sym e) ∙ h.1)) in
    let is : v ≡ h.0 = ap (λ (l : List View). view_or v l) both in
    let pick : w.pick ≡ h.0.pick = pick_is ∙ ap (λ (u : View). u.pick) is in
    (w, ap (get_elem? (set views id (w ∷ []))) e ∙ set_here views id (w ∷ []) (inside views id (v ∷ []) at), same (ap (λ (u : View). u.taker) is ∙ h.2), picks w.pick (subst (PickedAs mailboxes) (sym pick) h.3)))
    (λ (n : t ≢ id). (h.0, set_else views id t (w ∷ []) n ∙ h.1, h.2, picks h.0.pick h.3))
  where
    view_or : View → List View → View
    view_or d [] = d
    view_or d (x ∷ xs) = x

-- what is picked is the taker's
pub taker_has : (views : List (List View)) (id : ℕ) (v : View) (mailboxes : List Mailbox) → get_elem? views id ≡ some (v ∷ []) → HasTaker views mailboxes (some id) → PickedAs mailboxes v.pick
taker_has views id v mailboxes at h =
    let both : v ∷ [] ≡ h.0 ∷ [] = some-injective _ _ (sym at ∙ h.1) in
    subst (PickedAs mailboxes) (sym (ap (λ (l : List View). pick_or v.pick l) both)) h.3
  where
    pick_or : Picking → List View → Picking
    pick_or p [] = p
    pick_or p (x ∷ xs) = x.pick

pub starts_all : (entries : List Entry) → BeginsWith entries entries
starts_all entries = ([], sym (append-nil entries))

pub starts_longer : (entries run seen : List Entry) → BeginsWith entries seen → BeginsWith (entries ++ run) seen
starts_longer entries run seen h = (h.0 ++ run, ap (λ l. l ++ run) h.1 ∙ append_assoc seen h.0 run)
