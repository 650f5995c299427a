-- Names that were given since the table was settled.
use Rattle.bd_records.proofs.Words.{Bool, Identity, List, Name, None, [], ap, append-nil, append_assoc, arith, cond, is_some, length, new_number, number_in, refl, sym, with_number, ℕ, ◌++◌, ◌∙◌, ◌∷◌, ◌≡◌, ◌≤◌}

pub nil_of : {A : Type 0} (xs : List A) → length xs ≤ 0 → xs ≡ []
nil_of [] h = refl
nil_of (x ∷ xs) h = absurd (omega arith)

-- all of it was taken back
pub all_back : (base given : List Name) → length given ≤ 0 → base ++ given ≡ base
all_back base given h = ap (λ g. base ++ g) (nil_of given h) ∙ append-nil base

-- A name that comes in last is the last one given.
pub one_given : (base given l : List Name) (m : Name) → l ≡ base ++ given → l ++ m ∷ [] ≡ base ++ (given ++ m ∷ [])
one_given base given l m e = ap (λ xs. xs ++ m ∷ []) e ∙ append_assoc base given (m ∷ [])

pub new_name : (from_zero : Bool) (p n : ℕ) (l : List Name) (o : Identity) → number_in l p o ≡ None → n ≡ new_number from_zero p l
    → l ++ record { process = p; number = n; object = o } ∷ [] ≡ with_number from_zero p l o
new_name from_zero p n l o e is =
    ap (λ k. l ++ record { process = p; number = k; object = o } ∷ []) is
    ∙ ap (λ b. cond b l (l ++ record { process = p; number = new_number from_zero p l; object = o } ∷ [])) (sym (ap is_some e))
