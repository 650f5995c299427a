-- What a process has as owner of its objects goes last of all that goes with it.
use Rattle.bd_objects.proofs.Words.{Bool, List, Object, Reference, [], ap, cond, false, filter, is_asked_by, is_dropped_with, is_in_window, is_of_owner, not, owned_in, refl, sym, true, ℕ, ◌&&◌, ◌||◌, ◌∙◌, ◌∷◌, ◌≡◌}

-- ---- filters

module _ {A : Type 0} where
  one_filter : (f : A → Bool) (x : A) (xs ys : List A) → xs ≡ ys → (b : Bool) → f x ≡ b → cond (f x) (x ∷ xs) xs ≡ cond b (x ∷ ys) ys
  one_filter f x xs ys is b e = ap (λ c. cond c (x ∷ xs) xs) e ∙ ap (λ zs. cond b (x ∷ zs) zs) is

  one_more : (f g h : A → Bool) (x : A) (fs hs : List A) → (f x && g x) ≡ h x → filter g fs ≡ hs → (b : Bool) → f x ≡ b
      → filter g (cond b (x ∷ fs) fs) ≡ cond (h x) (x ∷ hs) hs
  one_more f g h x fs hs is rest true e = one_filter g x _ _ rest (h x) (ap (λ c. c && g x) (sym e) ∙ is)
  one_more f g h x fs hs is rest false e = rest ∙ ap (λ c. cond c (x ∷ hs) hs) (ap (λ c. c && g x) (sym e) ∙ is)

  pub both_filters : (f g h : A → Bool) → ((x : A) → (f x && g x) ≡ h x) → (xs : List A) → filter g (filter f xs) ≡ filter h xs
  both_filters f g h is [] = refl
  both_filters f g h is (x ∷ xs) = one_more f g h x (filter f xs) (filter h xs) (is x) (both_filters f g h is xs) (f x) refl

-- ---- all that goes with the process

module _ (p : ℕ) (objects : List Object) where
  -- the process has it as owner
  abbrev pub is_own : Reference → Bool
  is_own r = owned_in objects p r.object && is_of_owner r.holder

  either : (a b k : Bool) → (not (a || b) && not k) ≡ not (a || b || k)
  either true b k = refl
  either false true k = refl
  either false false k = refl

  pub goes_with : (l : List Reference)
      → filter (λ r. not (is_own r)) (filter (λ r. not (is_asked_by p r.holder || is_in_window p r.holder)) l)
      ≡ filter (λ r. not (is_dropped_with objects p r)) l
  goes_with = both_filters _ _ _ (λ r. either (is_asked_by p r.holder) (is_in_window p r.holder) (is_own r))
