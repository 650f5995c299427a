-- What is at a key, when the values change.
use Rattle.std.proofs.Common.{◌≡◌, ℕ, zero, suc, filter, ◌<◌, ◌≤◌, ◌+◌, ◌⊎◌, Bool, true, false, cond, ltb, List, [], ◌∷◌, ◌++◌, length, get_or, set, Option, Some, None, IfSome, is_some, option_map, refl, ap, sym, subst, ◌∙◌, arith, inl, inr, zero-le}
use Rattle.std.proofs.lemmas.Bool.{cases_order, lt-ltb, le-ltb}
use Rattle.std.proofs.lemmas.List.{get_or_push, get_or_append_left, get_or-set_same, get_or-set_other}
use Rattle.std.proofs.lemmas.List.Sums.{length-filter}
use Rattle.bd_keys.specs.declared.key.WordKey.{WordKey}
use Rattle.bd_keys.specs.declared.node.Node.{Node}
use Rattle.bd_keys.specs.declared.treed.TreeMap.{TreeMap}
use Rattle.bd_keys.specs.Keys.{same_word, place_in}
use Rattle.bd_keys.specs.Walk.{blank, keys}
use Rattle.bd_keys.specs.Tree.{IsTree}
use Rattle.bd_keys.specs.Treed.{value_at, place_of, tree_look}
use Rattle.bd_keys.proofs.Keys.{word_eq, word_self}
use Rattle.bd_keys.proofs.Places.{place_some, place_push}
use Rattle.bd_keys.proofs.Walks.{keys_length, find_own}

-- a key's place has a value
pub inside : {V : Type 0} (ns : List Node) (vs : List (Option V)) (k : WordKey) (i : ℕ) → length vs ≡ length ns
    → place_in (keys ns) k ≡ Some i → i < length vs
inside ns vs k i alike here = omega (arith, alike, (place_some (keys ns) k i here).0, keys_length ns)

pub within : {V : Type 0} (m : TreeMap V) (k : WordKey) (o : Option ℕ) → o ≡ place_of m k
    → IfSome o (λ i. i < length m.values.items)
within m k None e = tt
within m k (Some i) e = inside m.tree.nodes.items m.values.items k i m.alike (sym e)

pub look_none : {V : Type 0} (m : TreeMap V) (k : WordKey) → place_of m k ≡ None → tree_look m k ≡ None
unfolding tree_look
look_none m k e = ap (value_at m.values.items) e

none_live : {V : Type 0} (vs : List (Option V)) (i : ℕ) → length (filter is_some vs) ≡ 0 → get_or vs i None ≡ None
none_live [] i e = refl
none_live (None ∷ vs) zero e = refl
none_live (None ∷ vs) (suc i) e = none_live vs i e
none_live (Some x ∷ vs) i e = absurd (omega (arith, e))

-- where no key has a value, none is found
pub nothing_there : {V : Type 0} (m : TreeMap V) (k : WordKey) → m.live ≡ 0 → tree_look m k ≡ None
unfolding tree_look
nothing_there m k e = at (place_of m k)
  where
    at : (o : Option ℕ) → value_at m.values.items o ≡ None
    at None = refl
    at (Some i) = none_live m.values.items i (length-filter is_some m.values.items ∙ sym m.counted ∙ e)

-- Equal values at equal keys give equal looks.
pub alike_values : {V : Type 0} (vs ws : List (Option V)) (ks js : List WordKey) (l : WordKey) → vs ≡ ws → ks ≡ js
    → value_at vs (place_in ks l) ≡ value_at ws (place_in js l)
alike_values vs ws ks js l e f = ap (λ o. value_at vs (place_in o l)) f ∙ ap (λ o. value_at o (place_in js l)) e

-- a new key comes after the others, with its value
pub value_push : {V : Type 0} (ks : List WordKey) (vs : List (Option V)) (k l : WordKey) (v : Option V)
    → place_in ks k ≡ None → length vs ≡ length ks
    → value_at (vs ++ v ∷ []) (place_in (ks ++ k ∷ []) l) ≡ cond (same_word k l) v (value_at vs (place_in ks l))
value_push ks vs k l v new alike =
    ap (value_at (vs ++ v ∷ [])) (place_push ks k l new) ∙ at (same_word k l) (place_in ks l) refl
  where
    at : (b : Bool) (o : Option ℕ) → place_in ks l ≡ o
        → value_at (vs ++ v ∷ []) (cond b (Some (length ks)) o) ≡ cond b v (value_at vs o)
    at true o e = get_or_push vs v None (length ks) alike
    at false None e = refl
    at false (Some j) e = get_or_append_left vs (v ∷ []) None j (omega (arith, alike, (place_some ks l j e).0))

-- a value changes at the place of a key
pub value_set : {V : Type 0} (ks : List WordKey) (vs : List (Option V)) (k l : WordKey) (i : ℕ) (v : Option V)
    → place_in ks k ≡ Some i → i < length vs
    → value_at (set vs i v) (place_in ks l) ≡ cond (same_word k l) v (value_at vs (place_in ks l))
value_set ks vs k l i v here less = at (same_word k l) refl (place_in ks l) refl
  where
    at : (b : Bool) → same_word k l ≡ b → (o : Option ℕ) → place_in ks l ≡ o
        → value_at (set vs i v) o ≡ cond b v (value_at vs o)
    at true e o f =
        let is : o ≡ Some i = sym f ∙ ap (place_in ks) (sym (word_eq k l e)) ∙ here in
        subst (λ p. value_at (set vs i v) p ≡ v) (sym is) (get_or-set_same vs i v None less)
    at false e None f = refl
    at false e (Some j) f =
        get_or-set_other vs i j v None (λ q.
        let is : k ≡ l =
        sym (place_some ks k i here).1 ∙ ap (λ n. get_or ks n blank) (sym q) ∙ (place_some ks l j f).1 in
        let same : same_word k l ≡ true = subst (λ z. same_word k z ≡ true) is (word_self k) in
        absurd (cc))

-- a change of what isn't there shows nowhere
pub hidden : {V : Type 0} (m : WordKey → Option V) (k l : WordKey) (f : Option V → Option V)
    → m k ≡ None → f None ≡ None → m l ≡ cond (same_word k l) (f (m l)) (m l)
hidden m k l f none stays = at (same_word k l) refl
  where
    at : (b : Bool) → same_word k l ≡ b → m l ≡ cond b (f (m l)) (m l)
    at true e = let there : m l ≡ None = ap m (sym (word_eq k l e)) ∙ none in there ∙ sym stays ∙ ap f (sym there)
    at false e = refl

replaced : {V : Type 0} (v : V) (o : Option V) → is_some o ≡ true → Some v ≡ option_map (λ y. v) o
replaced v None h = absurd (cc)
replaced v (Some x) h = refl

-- a value that comes where there is one takes its place
pub some_there : {V : Type 0} (m : WordKey → Option V) (k l : WordKey) (v : V) → is_some (m k) ≡ true
    → cond (same_word k l) (Some v) (m l) ≡ cond (same_word k l) (option_map (λ y. v) (m l)) (m l)
some_there m k l v some = at (same_word k l) refl
  where
    at : (b : Bool) → same_word k l ≡ b → cond b (Some v) (m l) ≡ cond b (option_map (λ y. v) (m l)) (m l)
    at true e = replaced v (m l) (ap (λ z. is_some (m z)) (sym (word_eq k l e)) ∙ some)
    at false e = refl

-- what is at a place below a number
abbrev pub value_below : {V : Type 0} → List (Option V) → ℕ → Option ℕ → Option V
value_below vs i None = None
value_below vs i (Some j) = cond (ltb j i) (get_or vs j None) None

pub below_none : {V : Type 0} (vs : List (Option V)) (o : Option ℕ) → None ≡ value_below vs 0 o
below_none vs None = refl
below_none vs (Some j) = ap (λ b. cond b (get_or vs j None) None) (sym (le-ltb j 0 zero-le))

pub below_all : {V : Type 0} (ns : List Node) (vs : List (Option V)) (i : ℕ) (l : WordKey) → length vs ≡ length ns
    → length vs ≤ i → value_below vs i (place_in (keys ns) l) ≡ value_at vs (place_in (keys ns) l)
below_all ns vs i l alike all = at (place_in (keys ns) l) refl
  where
    at : (o : Option ℕ) → place_in (keys ns) l ≡ o → value_below vs i o ≡ value_at vs o
    at None e = refl
    at (Some j) e =
        ap (λ b. cond b (get_or vs j None) None) (lt-ltb j i (omega (arith, all, inside ns vs l j alike e)))

-- whether a place is below a number, at the next one, where that isn't the place
ltb_next : (j i : ℕ) → (j < i) ⊎ (i < j) → ltb j i ≡ ltb j (i + 1)
ltb_next j i (inl low) = lt-ltb j i low ∙ sym (lt-ltb j (i + 1) (omega (arith, low)))
ltb_next j i (inr high) = le-ltb j i (omega (arith, high)) ∙ sym (le-ltb j (i + 1) (omega (arith, high)))

-- nothing comes in at a place that has nothing
pub below_skip : {V : Type 0} (vs : List (Option V)) (i : ℕ) (o : Option ℕ) → get_or vs i None ≡ None
    → value_below vs i o ≡ value_below vs (i + 1) o
below_skip vs i None h = refl
below_skip vs i (Some j) h = elim (cases_order j i) [
  | inl q ↦
      let none : get_or vs j None ≡ None = ap (λ n. get_or vs n None) q ∙ h in
      ap (λ b. cond b (get_or vs j None) None) (le-ltb j i (omega (arith, q))) ∙ sym none
      ∙ ap (λ b. cond b (get_or vs j None) None) (sym (lt-ltb j (i + 1) (omega (arith, q))))
  | inr apart ↦ ap (λ b. cond b (get_or vs j None) None) (ltb_next j i apart)
]

-- with the value of the next place its key comes in
below_more : {V : Type 0} (ns : List Node) (t : IsTree ns) (vs : List (Option V)) (i : ℕ) (l : WordKey)
    → i < length ns
    → cond (same_word (get_or (keys ns) i blank) l) (get_or vs i None) (value_below vs i (place_in (keys ns) l))
    ≡ value_below vs (i + 1) (place_in (keys ns) l)
below_more ns t vs i l less = at (same_word (get_or (keys ns) i blank) l) refl (place_in (keys ns) l) refl
  where
    at : (b : Bool) → same_word (get_or (keys ns) i blank) l ≡ b → (o : Option ℕ) → place_in (keys ns) l ≡ o
        → cond b (get_or vs i None) (value_below vs i o) ≡ value_below vs (i + 1) o
    at true e o f =
        let is : o ≡ Some i =
        sym f ∙ ap (place_in (keys ns)) (sym (word_eq (get_or (keys ns) i blank) l e)) ∙ find_own ns t i less in
        subst (λ p. get_or vs i None ≡ value_below vs (i + 1) p) (sym is)
        (ap (λ b. cond b (get_or vs i None) None) (sym (lt-ltb i (i + 1) (omega arith))))
    at false e None f = refl
    at false e (Some j) f = elim (cases_order j i) [
      | inl q ↦
          let is : get_or (keys ns) i blank ≡ l =
          ap (λ n. get_or (keys ns) n blank) (sym q) ∙ (place_some (keys ns) l j f).1 in
          let same : same_word (get_or (keys ns) i blank) l ≡ true =
          subst (λ z. same_word (get_or (keys ns) i blank) z ≡ true) is (word_self (get_or (keys ns) i blank)) in
          absurd (cc)
      | inr apart ↦ ap (λ b. cond b (get_or vs j None) None) (ltb_next j i apart)
    ]

pub below_insert : {V : Type 0} (ns : List Node) (t : IsTree ns) (vs : List (Option V)) (i : ℕ) (k l : WordKey) (v : V)
    (o : Option V) → i < length ns → k ≡ get_or (keys ns) i blank → get_or vs i None ≡ Some v
    → o ≡ value_below vs i (place_in (keys ns) l)
    → cond (same_word k l) (Some v) o ≡ value_below vs (i + 1) (place_in (keys ns) l)
below_insert ns t vs i k l v o less is here was =
    ap (λ q. cond (same_word q l) (Some v) o) is
    ∙ ap (λ x. cond (same_word (get_or (keys ns) i blank) l) x o) (sym here)
    ∙ ap (λ x. cond (same_word (get_or (keys ns) i blank) l) (get_or vs i None) x) was ∙ below_more ns t vs i l less
