-- The objects of what goes with a process.
use Rattle.bd_records.proofs.Words.{Bool, Err, Identity, List, Lying, Names, None, Object, Ok, OnErr, Option, Records, RecordsAre, Reference, Result, Some, [], ap, arith, asked_of, asks, cond, false, filter, is_among, is_asked_by, is_empty, is_in_window, list_any, list_any-append, map, name_at}
use Rattle.bd_records.proofs.Words.{named_by, not, number_of, on_slot, or_assoc, refl, same, same_turned, sym, true, value_at, ℕ, ◌&&◌, ◌++◌, ◌||◌, ◌∙◌, ◌∷◌, ◌≡◌, ◌≤◌}
use Rattle.bd_records.proofs.{Forgetting.{asked_to}, Holding.{asked_counts, not_empty}}

pub among_append : (xs ys : List Identity) (o : Identity) → is_among (xs ++ ys) o ≡ (is_among xs o || is_among ys o)
among_append xs ys o = list_any-append (λ i. same o i) xs ys

-- who asks for an object has a name for it
pub asks_named : (t : Names) (p : ℕ) (x : Identity) → asks t p x ≡ true → (n : ℕ) × (named_by t p n ≡ Some x) × (n ≤ 4294967294)
asks_named t p x e = at (number_of t p x) refl
  where
    at : (k : Option ℕ) → number_of t p x ≡ k → (n : ℕ) × (named_by t p n ≡ Some x) × (n ≤ 4294967294)
    at None f = absurd (let h : asks t p x ≡ false = ap (λ k. not (is_empty (asked_of (on_slot None (value_at t.rows p) k)))) f in cc)
    at (Some n) f = (n, t.leads p x n f, t.small p x n f)

-- ---- among the references

abbrev pub either : ℕ → Reference → Bool
either p r = is_asked_by p r.holder || is_in_window p r.holder

pub asks_is : (t : Records) (objects : List Object) (l : List Reference) (p : ℕ) (o : Identity) → RecordsAre t objects l → asks t.names p o ≡ list_any (asked_to p o) l
asks_is t objects l p o h = not_empty (asked_of (name_at t.names p o)) _ _ (h.counts.asked p o false) (h.counts.asked p o true) ∙ sym (asked_counts p o l)

abbrev objects_of : List Reference → List Identity
objects_of l = map (λ r. r.object) l

among_cons : (q : Reference → Bool) (x : Reference) (l : List Reference) (o : Identity) → is_among (objects_of (filter q (x ∷ l))) o ≡ ((q x && same o x.object) || is_among (objects_of (filter q l)) o)
among_cons q x l o = grind arith

parts : (a w s A W : Bool) → (((a || w) && s) || (A || W)) ≡ (((s && a) || A) || ((w && s) || W))
parts true w true A W = refl
parts false true true true W = refl
parts false true true false W = refl
parts false false true A W = refl
parts true true false A W = refl
parts true false false A W = refl
parts false true false A W = refl
parts false false false A W = refl

-- the objects of both kinds
pub among_either : (p : ℕ) (o : Identity) (l : List Reference) → is_among (map (λ r. r.object) (filter (either p) l)) o
    ≡ (list_any (asked_to p o) l || is_among (map (λ r. r.object) (filter (λ r. is_in_window p r.holder) l)) o)
among_either p o [] = refl
among_either p o (x ∷ l) =
    among_cons (either p) x l o
    ∙ ap (λ b. (either p x && same o x.object) || b) (among_either p o l)
    ∙ parts (is_asked_by p x.holder) (is_in_window p x.holder) (same o x.object) (list_any (asked_to p o) l) (is_among (objects_of (filter (λ r. is_in_window p r.holder) l)) o)
    ∙ ap (λ s. ((s && is_asked_by p x.holder) || list_any (asked_to p o) l) || ((is_in_window p x.holder && same o x.object) || is_among (objects_of (filter (λ r. is_in_window p r.holder) l)) o)) (same_turned o x.object)
    ∙ ap (λ b. list_any (asked_to p o) (x ∷ l) || b) (sym (among_cons (λ r. is_in_window p r.holder) x l o))

-- what is there after both
pub among_both : (t : Records) (objects : List Object) (l : List Reference) (p : ℕ) → RecordsAre t objects l → (old mid new : List Identity) → ((x : Identity) → is_among mid x ≡ (is_among old x || asks t.names p x))
    → new ≡ mid ++ map (λ r. r.object) (filter (λ r. is_in_window p r.holder) l) → (o : Identity) → is_among new o ≡ is_among (old ++ map (λ r. r.object) (filter (either p) l)) o
among_both t objects l p h old mid new put comes o =
    ap (λ (os : List Identity). is_among os o) comes
    ∙ among_append mid _ o
    ∙ ap (λ b. b || is_among (objects_of (filter (λ r. is_in_window p r.holder) l)) o) (put o ∙ ap (λ b. is_among old o || b) (asks_is t objects l p o h))
    ∙ or_assoc (is_among old o) _ _
    ∙ ap (λ b. is_among old o || b) (sym (among_either p o l))
    ∙ sym (among_append old _ o)

-- where nothing goes, nothing is asked for, and nothing lies in the window
pub none_either : (p : ℕ) (l : List Reference) → list_any (either p) l ≡ false → ((o : Identity) → list_any (asked_to p o) l ≡ false) × (filter (λ r. is_in_window p r.holder) l ≡ [])
none_either p [] e = (λ o. refl, refl)
none_either p (x ∷ l) e =
    let more = none_either p l (grind (arith, e)) in
    let asked : is_asked_by p x.holder ≡ false = grind (arith, e) in
    let inside : is_in_window p x.holder ≡ false = grind (arith, e) in
    (λ o. grind (arith, more.0 o, asked), ap (λ b. cond b (x ∷ filter (λ r. is_in_window p r.holder) l) (filter (λ r. is_in_window p r.holder) l)) inside ∙ more.1)

pub nil_of_references : (vs : List Lying) → map (λ (v : Lying). v.reference) vs ≡ [] → vs ≡ []
nil_of_references [] e = refl
nil_of_references (v ∷ vs) e = absurd cc

-- nothing passes, and nothing is left
pub none_passes : {A : Type 0} (q : A → Bool) (xs : List A) → list_any q xs ≡ false → filter q xs ≡ []
none_passes q [] e = refl
none_passes q (x ∷ xs) e = grind (arith, none_passes q xs, e)

pub not_false : (b : Bool) → (b ≡ false → ⊥) → b ≡ true
not_false true h = refl
not_false false h = absurd (h refl)

pub on_err_of : {T E P : Type 0} (r : Result T E) → P → OnErr r P
on_err_of (Ok x) h = tt
on_err_of (Err e) h = h
