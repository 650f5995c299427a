-- The walk to a key.
use Rattle.std.proofs.Common.{◌≡◌, ◌≢◌, ℕ, zero, suc, ◌+◌, ◌-◌, ◌/◌, ◌<◌, ◌==◌, Bool, true, false, cond, List, [], ◌∷◌, length, get_or, Option, Some, None, refl, ap, sym, subst, ◌∙◌, arith}
use Rattle.std.proofs.lemmas.Bool.{eqb-true, eqb-false, ne_eqb}
use Rattle.std.proofs.lemmas.List.{length-map, get_or-map}
use Rattle.bd_keys.specs.declared.key.WordKey.{WordKey}
use Rattle.bd_keys.specs.declared.node.Node.{Node}
use Rattle.bd_keys.specs.Keys.{same_word, spread, place_in}
use Rattle.bd_keys.specs.Walk.{blank, no_node, node_at, keys, toward, next, onward, end_from, end_of}
use Rattle.bd_keys.specs.Tree.{Agree, IsTree}
use Rattle.bd_keys.proofs.Keys.{word_eq, word_self}
use Rattle.bd_keys.proofs.Places.{place_some, place_none}

-- a step goes to the child, from a node of another key
pub next_some : (ns : List Node) (i : ℕ) (k : WordKey) (j : ℕ) → next ns i k ≡ Some j
    → (same_word (node_at ns i).key k ≡ false) × (toward (node_at ns i) (spread k) ≡ j)
    × (toward (node_at ns i) (spread k) ≢ 0)
unfolding next
next_some ns i k j h = at (same_word (node_at ns i).key k) refl (toward (node_at ns i) (spread k) == 0) refl h
  where
    at : (b : Bool) → same_word (node_at ns i).key k ≡ b → (z : Bool)
        → (toward (node_at ns i) (spread k) == 0) ≡ z
        → cond b None (cond z None (Some (toward (node_at ns i) (spread k)))) ≡ Some j
        → (same_word (node_at ns i).key k ≡ false) × (toward (node_at ns i) (spread k) ≡ j)
        × (toward (node_at ns i) (spread k) ≢ 0)
    at true e z f g = absurd (cc)
    at false e true f g = absurd (cc)
    at false e false f g =
        let there : toward (node_at ns i) (spread k) ≡ j = cc in
        (e, there, eqb-false (toward (node_at ns i) (spread k)) 0 f)

-- a step, by whether the key is found and by the child
abbrev step : Bool → ℕ → Option ℕ
step b c = cond b None (cond (c == 0) None (Some c))

pub next_at : (ns : List Node) (i : ℕ) (k : WordKey) (j : ℕ) → same_word (node_at ns i).key k ≡ false
    → toward (node_at ns i) (spread k) ≡ j → j ≢ 0 → next ns i k ≡ Some j
unfolding next
next_at ns i k j e t n =
    ap (λ b. step b (toward (node_at ns i) (spread k))) e
    ∙ ap (step false) t ∙ ap (λ b. cond b None (Some j)) (ne_eqb j 0 n)

pub next_own : (ns : List Node) (i : ℕ) (k : WordKey) → same_word (node_at ns i).key k ≡ true → next ns i k ≡ None
unfolding next
next_own ns i k e =
    ap (λ b. step b (toward (node_at ns i) (spread k))) e

pub next_stuck : (ns : List Node) (i : ℕ) (k : WordKey) → same_word (node_at ns i).key k ≡ false
    → toward (node_at ns i) (spread k) ≡ 0 → next ns i k ≡ None
unfolding next
next_stuck ns i k e t =
    ap (λ b. step b (toward (node_at ns i) (spread k))) e
    ∙ ap (step false) t

-- where it doesn't go on from a node of another key, no more go that way
pub next_none : (ns : List Node) (i : ℕ) (k : WordKey) → next ns i k ≡ None
    → same_word (node_at ns i).key k ≡ false → toward (node_at ns i) (spread k) ≡ 0
next_none ns i k h e = at (toward (node_at ns i) (spread k) == 0) refl
  where
    at : (z : Bool) → (toward (node_at ns i) (spread k) == 0) ≡ z → toward (node_at ns i) (spread k) ≡ 0
    at true f = eqb-true (toward (node_at ns i) (spread k)) 0 f
    at false f =
        let on = next_at ns i k (toward (node_at ns i) (spread k)) e refl
        (eqb-false (toward (node_at ns i) (spread k)) 0 f) in
        absurd (cc)

pub end_none : (ns : List Node) (f i : ℕ) (k : WordKey) → next ns i k ≡ None → end_from ns (suc f) i k ≡ i
unfolding end_from
end_none ns f i k e = ap (onward i (λ j. end_from ns f j k)) e

pub end_some : (ns : List Node) (f i : ℕ) (k : WordKey) (j : ℕ) → next ns i k ≡ Some j
    → end_from ns (suc f) i k ≡ end_from ns f j k
unfolding end_from
end_some ns f i k j e = ap (onward i (λ n. end_from ns f n k)) e

pub key_at : (ns : List Node) (i : ℕ) → i < length ns → get_or (keys ns) i blank ≡ (node_at ns i).key
key_at ns i h = get_or-map (λ (n : Node). n.key) ns i no_node blank h

pub keys_length : (ns : List Node) → length (keys ns) ≡ length ns
keys_length ns = length-map ns (λ (n : Node). n.key)

module _ (ns : List Node) (t : IsTree ns) where
  pub step_inside : (i : ℕ) (k : WordKey) (j : ℕ) → i < length ns → next ns i k ≡ Some j → j < length ns
  step_inside i k j h e =
      let s = next_some ns i k j e in
      subst (λ c. c < length ns) s.1 ((t.nodes i h).within (spread k) s.2)

  pub step_deeper : (i : ℕ) (k : WordKey) (j : ℕ) → i < length ns → next ns i k ≡ Some j
      → (node_at ns j).bit ≡ (node_at ns i).bit + 3
  step_deeper i k j h e =
      let s = next_some ns i k j e in
      subst (λ c. (node_at ns c).bit ≡ (node_at ns i).bit + 3) s.1 ((t.nodes i h).deeper (spread k) s.2)

  pub step_agrees : (i : ℕ) (k : WordKey) (j : ℕ) → i < length ns → next ns i k ≡ Some j
      → Agree (node_at ns i).bit (spread (node_at ns i).key) (spread k)
      → Agree (node_at ns j).bit (spread (node_at ns j).key) (spread k)
  step_agrees i k j h e a =
      let s = next_some ns i k j e in
      let more = (t.nodes i h).agrees (spread k) s.2 a in
      subst (λ n. Agree n (spread (node_at ns j).key) (spread k)) (sym (step_deeper i k j h e))
      (subst (λ c. Agree ((node_at ns i).bit + 3) (spread (node_at ns c).key) (spread k)) s.1 more)

  end_inside : (f i : ℕ) (k : WordKey) → i < length ns → end_from ns f i k < length ns
  unfolding end_from
  end_inside zero i k h = h
  end_inside (suc f) i k h = at (λ j l. end_inside f j k l) (next ns i k) refl
    where
      at : ((j : ℕ) → j < length ns → end_from ns f j k < length ns)
          → (o : Option ℕ) → next ns i k ≡ o → onward i (λ j. end_from ns f j k) o < length ns
      at again None e = h
      at again (Some j) e = again j (step_inside i k j h e)

  -- a node further at each step, the walk ends before its steps are used up
  end_last : (f i : ℕ) (k : WordKey) → i < length ns → f + (node_at ns i).bit / 3 ≡ 44
      → next ns (end_from ns f i k) k ≡ None
  unfolding end_from
  end_last zero i k h b = absurd (omega (arith, b, (t.nodes i h).bit))
  end_last (suc f) i k h b = at (λ j l d. end_last f j k l d) (next ns i k) refl
    where
      at : ((j : ℕ) → j < length ns → f + (node_at ns j).bit / 3 ≡ 44 → next ns (end_from ns f j k) k ≡ None)
          → (o : Option ℕ) → next ns i k ≡ o → next ns (onward i (λ j. end_from ns f j k) o) k ≡ None
      at again None e = e
      at again (Some j) e = again j (step_inside i k j h e) (omega (arith, b, step_deeper i k j h e))

  end_agrees : (f i : ℕ) (k : WordKey) → i < length ns
      → Agree (node_at ns i).bit (spread (node_at ns i).key) (spread k)
      → Agree (node_at ns (end_from ns f i k)).bit (spread (node_at ns (end_from ns f i k)).key) (spread k)
  unfolding end_from
  end_agrees zero i k h a = a
  end_agrees (suc f) i k h a = at (λ j l d. end_agrees f j k l d) (next ns i k) refl
    where
      at : ((j : ℕ) → j < length ns → Agree (node_at ns j).bit (spread (node_at ns j).key) (spread k)
          → Agree (node_at ns (end_from ns f j k)).bit (spread (node_at ns (end_from ns f j k)).key) (spread k))
          → (o : Option ℕ) → next ns i k ≡ o
          → Agree (node_at ns (onward i (λ j. end_from ns f j k) o)).bit
          (spread (node_at ns (onward i (λ j. end_from ns f j k) o)).key) (spread k)
      at again None e = a
      at again (Some j) e = again j (step_inside i k j h e) (step_agrees i k j h e a)

  pub end_of_inside : 0 < length ns → (k : WordKey) → end_of ns k < length ns
  unfolding end_of
  end_of_inside h k = end_inside 44 0 k h

  pub end_of_last : 0 < length ns → (k : WordKey) → next ns (end_of ns k) k ≡ None
  unfolding end_of
  end_of_last h k = end_last 44 0 k h (omega (arith, t.root))

  pub end_of_agrees : 0 < length ns → (k : WordKey)
      → Agree (node_at ns (end_of ns k)).bit (spread (node_at ns (end_of ns k)).key) (spread k)
  unfolding end_of
  end_of_agrees h k =
      let none : Agree 0 (spread (node_at ns 0).key) (spread k) = omega arith in
      end_agrees 44 0 k h (subst (λ n. Agree n (spread (node_at ns 0).key) (spread k)) (sym t.root) none)

  -- a key's walk ends at its place
  pub end_own : (k : WordKey) (j : ℕ) → place_in (keys ns) k ≡ Some j → (j < length ns) × (end_of ns k ≡ j)
      × ((node_at ns j).key ≡ k)
  end_own k j e =
      let p = place_some (keys ns) k j e in
      let less : j < length ns = omega (arith, p.0, keys_length ns) in
      let is : (node_at ns j).key ≡ k = sym (key_at ns j less) ∙ p.1 in
      (less, subst (λ z. end_of ns z ≡ j) is (t.own j less), is)

  pub find_here : 0 < length ns → (k : WordKey) → same_word (node_at ns (end_of ns k)).key k ≡ true
      → place_in (keys ns) k ≡ Some (end_of ns k)
  find_here h k eq = at (place_in (keys ns) k) refl
    where
      at : (o : Option ℕ) → place_in (keys ns) k ≡ o → o ≡ Some (end_of ns k)
      at None e =
          let inside = end_of_inside h k in
          absurd (place_none (keys ns) k (end_of ns k) e (omega (arith, inside, keys_length ns))
          (key_at ns (end_of ns k) inside ∙ word_eq (node_at ns (end_of ns k)).key k eq))
      at (Some j) e = ap Some (sym (end_own k j e).1)

  pub find_none : (k : WordKey) → same_word (node_at ns (end_of ns k)).key k ≡ false → place_in (keys ns) k ≡ None
  find_none k ne = at (place_in (keys ns) k) refl
    where
      at : (o : Option ℕ) → place_in (keys ns) k ≡ o → o ≡ None
      at None e = refl
      at (Some j) e =
          let o = end_own k j e in
          let is : (node_at ns (end_of ns k)).key ≡ k = subst (λ i. (node_at ns i).key ≡ k) (sym o.1) o.2 in
          let same : same_word (node_at ns (end_of ns k)).key k ≡ true =
          subst (λ z. same_word z k ≡ true) (sym is) (word_self k) in
          absurd (cc)

  pub none_apart : (k : WordKey) → place_in (keys ns) k ≡ None → (i : ℕ) → i < length ns → (node_at ns i).key ≡ k → ⊥
  none_apart k e i h q = place_none (keys ns) k i e (omega (arith, h, keys_length ns)) (key_at ns i h ∙ q)

  -- each key is at its place
  pub find_own : (i : ℕ) → i < length ns → place_in (keys ns) (get_or (keys ns) i blank) ≡ Some i
  find_own i h = at (place_in (keys ns) (get_or (keys ns) i blank)) refl
    where
      at : (o : Option ℕ) → place_in (keys ns) (get_or (keys ns) i blank) ≡ o → o ≡ Some i
      at None e = absurd (none_apart (get_or (keys ns) i blank) e i h (sym (key_at ns i h)))
      at (Some j) e =
          let o = end_own (get_or (keys ns) i blank) j e in
          ap Some (sym o.1 ∙ ap (end_of ns) (key_at ns i h) ∙ t.own i h)

  -- a walk, step by step: so many steps are left at a node that the walk ends where it is to end
  abbrev pub OnTheWay : WordKey → ℕ → Type 0
  OnTheWay k i = (f : ℕ) → f + (node_at ns i).bit / 3 ≡ 44 → end_from ns f i k ≡ end_of ns k

  pub walk_begins : (k : WordKey) → OnTheWay k 0
  unfolding end_of
  walk_begins k f b =
      let all : f ≡ 44 = omega (arith, b, t.root) in
      ap (λ n. end_from ns n 0 k) all

  pub walk_goes : (k : WordKey) (i j : ℕ) → i < length ns → next ns i k ≡ Some j → OnTheWay k i → OnTheWay k j
  walk_goes k i j h e w f b =
      sym (end_some ns f i k j e) ∙ w (suc f) (omega (arith, b, step_deeper i k j h e))

  pub walk_ends : (k : WordKey) (i : ℕ) → i < length ns → next ns i k ≡ None → OnTheWay k i → i ≡ end_of ns k
  walk_ends k i h e w =
      let o = t.nodes i h in
      sym (end_none ns (43 - (node_at ns i).bit / 3) i k e)
      ∙ w (suc (43 - (node_at ns i).bit / 3)) (omega (arith, o.bit))

  pub walk_falls : (k : WordKey) (i j : ℕ) → i < length ns → next ns i k ≡ Some j
      → 44 - (node_at ns j).bit / 3 < 44 - (node_at ns i).bit / 3
  walk_falls k i j h e = let o = t.nodes i h in omega (arith, o.bit, step_deeper i k j h e)

-- in an empty tree there is none
pub find_empty : (ns : List Node) (k : WordKey) → length ns ≡ 0 → place_in (keys ns) k ≡ None
unfolding place_in
find_empty [] k h = refl
find_empty (n ∷ ns) k h = absurd (omega (arith, h))
