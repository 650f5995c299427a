-- The one uncleared notification on a name.
use Rattle.bd_deaths.proofs.Words.{All, All-cons, All-head, All-tail, Bool, DeathNotification, DeathTable, DeathsAre, Entry, Identity, List, NameKey, None, Option, Some, [], ap, arith, asks_on, at_name, cond, count_by, death_of, eq-eqb, false}
use Rattle.bd_deaths.proofs.Words.{false_from_ne_true, filter, find, found_passes, get_or, is_notification, is_uncleared_on, made_of, map, none_found, not, only_uncleared_in, option_map, pairs_head, pairs_tail, refl, sym, true, uncleared_in, ℕ, ◌&&◌}
use Rattle.bd_deaths.proofs.Words.{◌+◌, ◌==◌, ◌||◌, ◌∙◌, ◌∷◌, ◌≡◌}
use Rattle.bd_deaths.proofs.{Changes.{asks_uncleared, filter_map, find_map, find_same, once_name, once_place}, Indexed.{Once, found_once, later_off}, Sharing.{count_cons}}

module _ {A : Type 0} where
  -- two tests that at most one passes, and of which both find the same one
  pub alike : (p q : A → Bool) (xs : List A) (e : A) → Once p xs → Once q xs → find p xs ≡ Some e → find q xs ≡ Some e → All (λ x. p x ≡ q x) xs
  alike p q [] e a b f g = λ k d h. absurd (omega arith)
  alike p q (x ∷ xs) e a b f g = at (p x) (q x) refl refl f g (alike p q xs e (pairs_tail (λ y z. p y ≡ true → p z ≡ true → ⊥) x xs a) (pairs_tail (λ y z. q y ≡ true → q z ≡ true → ⊥) x xs b))
    where
      P : A → A → Type 0
      P y z = p y ≡ true → p z ≡ true → ⊥

      Q : A → A → Type 0
      Q y z = q y ≡ true → q z ≡ true → ⊥

      at : (c d : Bool) → p x ≡ c → q x ≡ d → cond c (Some x) (find p xs) ≡ Some e → cond d (Some x) (find q xs) ≡ Some e
          → (find p xs ≡ Some e → find q xs ≡ Some e → All (λ x. p x ≡ q x) xs) → All (λ x. p x ≡ q x) (x ∷ xs)
      at true true h k f g rest =
          All-cons (λ x. p x ≡ q x) x xs (h ∙ sym k)
          (λ i d lt. false_from_ne_true (p (get_or xs i d)) (pairs_head P x xs a i d lt h) ∙ sym (false_from_ne_true (q (get_or xs i d)) (pairs_head Q x xs b i d lt k)))
      at false false h k f g rest = All-cons (λ x. p x ≡ q x) x xs (h ∙ sym k) (rest f g)
      at true false h k f g rest = let is : x ≡ e = cc in let on = found_passes q xs e g in absurd (let off = ap q (sym is) ∙ k in cc)
      at false true h k f g rest = let is : x ≡ e = cc in let on = found_passes p xs e f in absurd (let off = ap p (sym is) ∙ h in cc)

  filter_same : (p q : A → Bool) (xs : List A) → All (λ x. p x ≡ q x) xs → filter p xs ≡ filter q xs
  filter_same p q [] all = refl
  filter_same p q (x ∷ xs) all = (λ i. cond (All-head (λ x. p x ≡ q x) x xs all i) (x ∷ filter_same p q xs (All-tail (λ x. p x ≡ q x) x xs all) i) (filter_same p q xs (All-tail (λ x. p x ≡ q x) x xs all) i))

  count_none : (q : A → Bool) (xs : List A) → find q xs ≡ None → count_by q xs ≡ 0
  count_none q [] f = refl
  count_none q (x ∷ xs) f = at (q x) refl f (count_none q xs)
    where
      at : (b : Bool) → q x ≡ b → cond b (Some x) (find q xs) ≡ None → (find q xs ≡ None → count_by q xs ≡ 0) → count_by q (x ∷ xs) ≡ 0
      at true e f rest = absurd cc
      at false e f rest = let a = count_cons q x xs false e in let r = rest f in omega (arith, a, r)

  one_of : (q : A → Bool) (xs : List A) (y : A) → Once q xs → find q xs ≡ Some y → count_by q xs ≡ 1
  one_of q [] y once f = absurd cc
  one_of q (x ∷ xs) y once f = at (q x) refl f (one_of q xs y (pairs_tail (λ a b. q a ≡ true → q b ≡ true → ⊥) x xs once))
    where
      at : (b : Bool) → q x ≡ b → cond b (Some x) (find q xs) ≡ Some y → (find q xs ≡ Some y → count_by q xs ≡ 1) → count_by q (x ∷ xs) ≡ 1
      at true e f rest = let a = count_cons q x xs true e in let r = count_none q xs (later_off q x xs once e) in omega (arith, a, r)
      at false e f rest = let a = count_cons q x xs false e in let r = rest f in omega (arith, a, r)

pub count_map : (q : DeathNotification → Bool) (es : List Entry) → count_by q (map death_of es) ≡ count_by (λ e. q (death_of e)) es
count_map q [] = refl
count_map q (e ∷ es) =
    count_cons q (death_of e) (map death_of es) (q (death_of e)) refl ∙ ap (λ n. cond (q (death_of e)) 1 0 + n) (count_map q es) ∙ sym (count_cons (λ e. q (death_of e)) e es (q (death_of e)) refl)

module _ (t : DeathTable) (l : List DeathNotification) (h : DeathsAre t l) (p : ℕ) (o : Identity) where
  abbrev key : NameKey
  key = record { process = p; object = o }

  abbrev stays : DeathNotification → Bool
  stays y = not (at_name p o y.process y.object) || (y.cleared || false)

  stays_unless : (y : DeathNotification) → not (asks_on key y) ≡ stays y
  stays_unless y = three y.cleared (at_name p o y.process y.object)
    where
      three : (c a : Bool) → not (not c && a) ≡ (not a || (c || false))
      three true true = refl
      three true false = refl
      three false true = refl
      three false false = refl

  found_in : find (λ e. is_uncleared_on p o (death_of e)) h.entries ≡ find (λ e. asks_on key (death_of e)) h.entries
  found_in = find_same _ _ (λ e. sym (asks_uncleared key (death_of e))) h.entries

  -- the one, with its entry
  entry_of : (x : DeathNotification) → uncleared_in l p o ≡ Some x → (e : Entry) × (find (λ e. asks_on key (death_of e)) h.entries ≡ Some e) × (death_of e ≡ x)
  entry_of x is = of (find (λ e. asks_on key (death_of e)) h.entries) refl (sym (ap (option_map death_of) found_in) ∙ sym (find_map death_of (is_uncleared_on p o) h.entries) ∙ ap (find (is_uncleared_on p o)) h.deaths_are ∙ is)
    where
      of : (f : Option Entry) → find (λ e. asks_on key (death_of e)) h.entries ≡ f → option_map death_of f ≡ Some x → (e : Entry) × (find (λ e. asks_on key (death_of e)) h.entries ≡ Some e) × (death_of e ≡ x)
      of None f k = absurd cc
      of (Some e) f k = (e, f, cc)

  -- where the name is gone, it goes alone
  pub one_goes : (x : DeathNotification) → uncleared_in l p o ≡ Some x → filter stays l ≡ filter (λ y. not (is_notification x.made y)) l
  one_goes x is =
      let f = entry_of x is in
      let es = h.entries in
      let made : made_of f.0 ≡ x.made = ap (λ (y : DeathNotification). y.made) f.2 in
      let place = found_once (λ e. made_of e == x.made) (λ e. asks_on key (death_of e)) es f.0 (once_place es h.are.apart x.made) f.1 (eq-eqb (made_of f.0) x.made made) in
      let both = alike (λ e. asks_on key (death_of e)) (λ e. made_of e == x.made) es f.0 (once_name es h.are.apart key) (once_place es h.are.apart x.made) f.1 place in
      ap (filter stays) (sym h.deaths_are) ∙ sym (filter_map death_of stays es)
      ∙ ap (map death_of) (filter_same (λ e. stays (death_of e)) (λ e. not (made_of e == x.made)) es (λ k d lt. sym (stays_unless (death_of (get_or es k d))) ∙ ap not (both k d lt)))
      ∙ filter_map death_of (λ y. not (is_notification x.made y)) es ∙ ap (filter (λ y. not (is_notification x.made y))) h.deaths_are

  -- none is there, and none goes
  pub none_goes : uncleared_in l p o ≡ None → filter stays l ≡ l
  none_goes is = all l (none_found (is_uncleared_on p o) l is)
    where
      all : (ys : List DeathNotification) → All (λ y. is_uncleared_on p o y ≡ false) ys → filter stays ys ≡ ys
      all [] off = refl
      all (y ∷ ys) off =
          rw (sym (stays_unless y) ∙ ap not (asks_uncleared key y ∙ All-head (λ y. is_uncleared_on p o y ≡ false) y ys off)) (ap (λ zs. y ∷ zs) (all ys (All-tail (λ y. is_uncleared_on p o y ≡ false) y ys off)))

  pub only_one : only_uncleared_in l p o ≡ uncleared_in l p o
  only_one = at (uncleared_in l p o) refl
    where
      q : DeathNotification → Bool
      q = is_uncleared_on p o

      at : (f : Option DeathNotification) → uncleared_in l p o ≡ f → cond (count_by q l == 1) (uncleared_in l p o) None ≡ uncleared_in l p o
      at None is = rw is (none (count_by q l == 1))
        where
          none : (b : Bool) → cond {A = Option DeathNotification} b None None ≡ None
          none true = refl
          none false = refl
      at (Some x) is =
          let f = entry_of x is in
          let one : count_by q l ≡ 1 = ap (count_by q) (sym h.deaths_are) ∙ count_map q h.entries ∙ one_of (λ e. q (death_of e)) h.entries f.0 (λ i j d lt w a b. once_name h.entries h.are.apart key i j d lt w (asks_uncleared key (death_of (get_or h.entries i d)) ∙ a) (asks_uncleared key (death_of (get_or h.entries j d)) ∙ b)) (found_in ∙ f.1) in
          rw (eq-eqb (count_by q l) 1 one) refl
