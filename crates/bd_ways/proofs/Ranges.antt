-- What is looked for, left out or changed in a part of a list, outside of which nothing passes.
use Rattle.std.proofs.Common.{◌≡◌, ℕ, zero, suc, ◌+◌, ◌≤◌, ◌<◌, Bool, true, false, not, ◌&&◌, ◌||◌, cond, List, [], ◌∷◌, ◌++◌, Some, None, filter, find, take, drop, length, get_or, set, is_some, refl, ap, sym, ◌∙◌, arith}
use Rattle.std.specs.List.{list_any, between}
use Rattle.std.proofs.lemmas.Slice.{between_is}
use Rattle.std.proofs.lemmas.List.{take-append-drop, get_or_default, set-get_or}
use Rattle.bd_space.specs.Words.{changed}
use Rattle.bd_ways.specs.Ranges.{IsWithin, IsPartOf}
use Rattle.bd_space.proofs.Changed.{changed_then, changed_else}

pub none_before : {A : Type 0} (q : A → Bool) (xs : List A) (i : ℕ) → ((k : ℕ) (d : A) → k < i → k < length xs → q (get_or xs k d) ≡ false) → list_any q (take i xs) ≡ false
none_before q [] zero h = refl
none_before q [] (suc i) h = refl
none_before q (x ∷ xs) zero h = refl
none_before q (x ∷ xs) (suc i) h = rw (h 0 x (omega arith) (omega arith)) (none_before q xs i (λ k d a b. h (suc k) d (omega arith) (omega arith)))

pub none_after : {A : Type 0} (q : A → Bool) (xs : List A) (i : ℕ) → ((k : ℕ) (d : A) → i ≤ k → k < length xs → q (get_or xs k d) ≡ false) → list_any q (drop i xs) ≡ false
none_after q [] zero h = refl
none_after q [] (suc i) h = refl
none_after q (x ∷ xs) zero h = rw (h 0 x (omega arith) (omega arith)) (none_after q xs zero (λ k d a b. h (suc k) d (omega arith) (omega arith)))
none_after q (x ∷ xs) (suc i) h = none_after q xs i (λ k d a b. h (suc k) d (omega arith) (omega arith))

-- what passes the one test passes the other
abbrev pub Implies : {A : Type 0} → (A → Bool) → (A → Bool) → List A → Type 0
Implies q r [] = Unit {0}
Implies q r (x ∷ xs) = (q x ≡ true → r x ≡ true) × Implies q r xs

pub implies_all : {A : Type 0} (q r : A → Bool) → ((x : A) → q x ≡ true → r x ≡ true) → (xs : List A) → Implies q r xs
implies_all q r h [] = tt
implies_all q r h (x ∷ xs) = (h x, implies_all q r h xs)

implied : {A : Type 0} (q r : A → Bool) (x : A) → (q x ≡ true → r x ≡ true) → r x ≡ false → q x ≡ false
implied q r x h e = by (q x) refl
  where
    by : (b : Bool) → q x ≡ b → b ≡ false
    by true g = sym (h g) ∙ e
    by false g = refl

pub no_head : (a b : Bool) → (a || b) ≡ false → (a ≡ false) × (b ≡ false)
no_head true b h = absurd (cc)
no_head false b h = (refl, h)

fewer_before : {A : Type 0} (q r : A → Bool) (xs : List A) (i : ℕ) → Implies q r xs → list_any r (take i xs) ≡ false → list_any q (take i xs) ≡ false
fewer_before q r [] zero h e = refl
fewer_before q r [] (suc i) h e = refl
fewer_before q r (x ∷ xs) zero h e = refl
fewer_before q r (x ∷ xs) (suc i) h e = let g = no_head (r x) _ e in rw (implied q r x h.0 g.0) (fewer_before q r xs i h.1 g.1)

fewer_after : {A : Type 0} (q r : A → Bool) (xs : List A) (i : ℕ) → Implies q r xs → list_any r (drop i xs) ≡ false → list_any q (drop i xs) ≡ false
fewer_after q r [] zero h e = refl
fewer_after q r [] (suc i) h e = refl
fewer_after q r (x ∷ xs) zero h e = let g = no_head (r x) _ e in rw (implied q r x h.0 g.0) (fewer_after q r xs zero h.1 g.1)
fewer_after q r (x ∷ xs) (suc i) h e = fewer_after q r xs i h.1 e

pub within_fewer : {A : Type 0} (q r : A → Bool) (xs : List A) (i j : ℕ) → Implies q r xs → IsWithin r i j xs → IsWithin q i j xs
within_fewer q r xs i j h w = record { before = fewer_before q r xs i h w.before; after = fewer_after q r xs j h w.after }

pub find_none : {A : Type 0} (q : A → Bool) (xs : List A) → list_any q xs ≡ false → find q xs ≡ None
find_none q [] h = refl
find_none q (x ∷ xs) h = let g = no_head (q x) _ h in rw g.0 (find_none q xs g.1)

pub changed_none : {A : Type 0} (q : A → Bool) (f : A → A) (xs : List A) → list_any q xs ≡ false → changed q f xs ≡ xs
changed_none q f [] h = refl
changed_none q f (x ∷ xs) h = let g = no_head (q x) _ h in rw (g.0, changed_none q f xs g.1) refl

pub filter_none : {A : Type 0} (q : A → Bool) (xs : List A) → list_any q xs ≡ false → filter (λ x. not (q x)) xs ≡ xs
filter_none q [] h = refl
filter_none q (x ∷ xs) h = let g = no_head (q x) _ h in rw (g.0, filter_none q xs g.1) refl

pub any_some : {A : Type 0} (p : A → Bool) (xs : List A) → list_any p xs ≡ is_some (find p xs)
any_some p [] = refl
any_some {A} p (x ∷ xs) = by (p x) (any_some p xs)
  where
    by : (b : Bool) → list_any p xs ≡ is_some (find p xs)
        → (b || list_any p xs) ≡ is_some (cond b (Some x) (find p xs))
    by true e = refl
    by false e = e

find_part : {A : Type 0} (q : A → Bool) (xs : List A) (i j : ℕ) → i ≤ j → list_any q (take i xs) ≡ false → list_any q (drop j xs) ≡ false
    → find q (drop i (take j xs)) ≡ find q xs
find_part q [] zero zero h b a = refl
find_part q [] zero (suc j) h b a = refl
find_part q [] (suc i) zero h b a = refl
find_part q [] (suc i) (suc j) h b a = refl
find_part q (x ∷ xs) zero zero h b a = sym (find_none q (x ∷ xs) a)
find_part q (x ∷ xs) zero (suc j) h b a = ap (λ o. cond (q x) (Some x) o) (find_part q xs zero j (omega arith) refl a)
find_part q (x ∷ xs) (suc i) zero h b a = absurd (omega arith)
find_part q (x ∷ xs) (suc i) (suc j) h b a =
    let g = no_head (q x) _ b in find_part q xs i j (omega arith) g.1 a ∙ ap (λ t. cond t (Some x) (find q xs)) (sym g.0)

find_between : {A : Type 0} (q : A → Bool) (xs ys : List A) (i j : ℕ) → i ≤ j → IsWithin q i j xs → ys ≡ between i j xs → find q ys ≡ find q xs
find_between q xs ys i j h w e = ap (find q) (e ∙ between_is xs i j) ∙ find_part q xs i j h w.before w.after

pub any_between : {A : Type 0} (q : A → Bool) (xs ys : List A) (i j : ℕ) → i ≤ j → IsWithin q i j xs → ys ≡ between i j xs → list_any q ys ≡ list_any q xs
any_between q xs ys i j h w e = any_some q ys ∙ ap is_some (find_between q xs ys i j h w e) ∙ sym (any_some q xs)

filter_empty : {A : Type 0} (q : A → Bool) (xs : List A) → list_any q xs ≡ false → filter q xs ≡ []
filter_empty q [] h = refl
filter_empty q (x ∷ xs) h = let g = no_head (q x) _ h in rw g.0 (filter_empty q xs g.1)

filter_part : {A : Type 0} (q : A → Bool) (xs : List A) (i j : ℕ) → i ≤ j → list_any q (take i xs) ≡ false → list_any q (drop j xs) ≡ false
    → filter q (drop i (take j xs)) ≡ filter q xs
filter_part q [] zero zero h b a = refl
filter_part q [] zero (suc j) h b a = refl
filter_part q [] (suc i) zero h b a = refl
filter_part q [] (suc i) (suc j) h b a = refl
filter_part q (x ∷ xs) zero zero h b a = sym (filter_empty q (x ∷ xs) a)
filter_part q (x ∷ xs) zero (suc j) h b a = ap (λ ys. cond (q x) (x ∷ ys) ys) (filter_part q xs zero j (omega arith) refl a)
filter_part q (x ∷ xs) (suc i) zero h b a = absurd (omega arith)
filter_part q (x ∷ xs) (suc i) (suc j) h b a =
    let g = no_head (q x) _ b in filter_part q xs i j (omega arith) g.1 a ∙ ap (λ t. cond t (x ∷ filter q xs) (filter q xs)) (sym g.0)

pub changed_first : {A : Type 0} (q : A → Bool) (f : A → A) (xs : List A) (i j : ℕ) → IsWithin q i j xs
    → xs ≡ changed q f (take i xs) ++ drop i xs
changed_first q f xs i j w = sym (ap (λ ys. ys ++ drop i xs) (changed_none q f (take i xs) w.before) ∙ take-append-drop i xs)

changed_append : {A : Type 0} (q : A → Bool) (f : A → A) (xs ys : List A) → changed q f (xs ++ ys) ≡ changed q f xs ++ changed q f ys
changed_append q f [] ys = refl
changed_append q f (x ∷ xs) ys = ap (λ zs. cond (q x) (f x) x ∷ zs) (changed_append q f xs ys)

pub changed_last : {A : Type 0} (q : A → Bool) (f : A → A) (xs : List A) (i j : ℕ) → IsWithin q i j xs
    → changed q f (take j xs) ++ drop j xs ≡ changed q f xs
changed_last q f xs i j w =
    ap (λ ys. changed q f (take j xs) ++ ys) (sym (changed_none q f (drop j xs) w.after))
    ∙ sym (changed_append q f (take j xs) (drop j xs)) ∙ ap (changed q f) (take-append-drop j xs)

-- one more, read as d and written as x
pub changed_written : {A : Type 0} (q : A → Bool) (f : A → A) (xs ys : List A) (i : ℕ) (d x : A) → ys ≡ changed q f (take i xs) ++ drop i xs → i < length xs → i < length ys
    → d ≡ get_or ys i d → x ≡ get_or ys i x → q d ≡ true → set ys i (f x) ≡ changed q f (take (i + 1) xs) ++ drop (i + 1) xs
changed_written q f xs ys i d x e h k read same t =
    ap (λ z. set ys i (f z)) (same ∙ get_or_default ys i x d k) ∙ changed_then q f xs ys i d e h (ap q (sym read) ∙ t)

pub changed_left : {A : Type 0} (q : A → Bool) (f : A → A) (xs ys : List A) (i : ℕ) (d : A) → ys ≡ changed q f (take i xs) ++ drop i xs → i < length xs
    → d ≡ get_or ys i d → q d ≡ false → ys ≡ changed q f (take (i + 1) xs) ++ drop (i + 1) xs
changed_left q f xs ys i d e h read t = sym (set-get_or ys i d) ∙ changed_else q f xs ys i d e h (ap q (sym read) ∙ t)

pub find_of : {A : Type 0} (q r : A → Bool) (ys xs : List A) → ((x : A) → q x ≡ true → r x ≡ true) → IsPartOf r ys xs → find q ys ≡ find q xs
find_of q r ys xs h p = find_between q xs ys p.from p.to p.order (within_fewer q r xs p.from p.to (implies_all q r h xs) p.within) p.is

pub any_of : {A : Type 0} (q r : A → Bool) (ys xs : List A) → ((x : A) → q x ≡ true → r x ≡ true) → IsPartOf r ys xs → list_any q ys ≡ list_any q xs
any_of q r ys xs h p = any_some q ys ∙ ap is_some (find_of q r ys xs h p) ∙ sym (any_some q xs)

pub filter_of : {A : Type 0} (q r : A → Bool) (ys xs : List A) → ((x : A) → q x ≡ true → r x ≡ true) → IsPartOf r ys xs → filter q ys ≡ filter q xs
filter_of q r ys xs h p =
    let w = within_fewer q r xs p.from p.to (implies_all q r h xs) p.within in
    ap (filter q) (p.is ∙ between_is xs p.from p.to) ∙ filter_part q xs p.from p.to p.order w.before w.after

pub first_of_both : (a b : Bool) → (a && b) ≡ true → a ≡ true
first_of_both true b h = refl
first_of_both false b h = absurd (cc)

pub last_two : (a b c : Bool) → ((a && b) && c) ≡ true → (b && c) ≡ true
last_two true b c h = h
last_two false b c h = absurd (cc)

pub same_filter : {A : Type 0} (s t : A → Bool) → ((x : A) → s x ≡ t x) → (xs : List A) → filter s xs ≡ filter t xs
same_filter s t h [] = refl
same_filter s t h (x ∷ xs) = rw (h x, same_filter s t h xs) refl

pub same_any : {A : Type 0} (s t : A → Bool) → ((x : A) → s x ≡ t x) → (xs : List A) → list_any s xs ≡ list_any t xs
same_any s t h [] = refl
same_any s t h (x ∷ xs) = rw (h x, same_any s t h xs) refl

pub all_stay : {A : Type 0} (s : A → Bool) → ((x : A) → s x ≡ true) → (xs : List A) → filter s xs ≡ xs
all_stay s h [] = refl
all_stay s h (x ∷ xs) = rw (h x) (ap (λ ys. x ∷ ys) (all_stay s h xs))
