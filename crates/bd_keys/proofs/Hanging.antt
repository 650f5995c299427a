-- A tree with a new key.
use Rattle.std.proofs.Common.{◌≡◌, ◌≢◌, ℕ, zero, suc, ◌+◌, ◌*◌, ◌/◌, ◌%◌, ◌^◌, ◌<◌, ◌≤◌, ◌⊎◌, inl, inr, true, false, List, [], ◌∷◌, ◌++◌, length, get_or, set, Option, Some, None, refl, ap, sym, subst, ◌∙◌, arith, mod-eq_of_lt, add_comm}
use Rattle.std.proofs.lemmas.Bool.{false_from_ne_true, cases_eq, cases_lt}
use Rattle.std.proofs.lemmas.Nat.{mod-pow-add}
use Rattle.std.proofs.Math.Pow.{pow_mono}
use Rattle.std.proofs.lemmas.List.{length-set, length_push, get_or_push, get_or_append_left, get_or-replicate, get_or-set_same, get_or-set_other, map-set, set-get_or}
use Rattle.bd_keys.specs.declared.key.WordKey.{WordKey}
use Rattle.bd_keys.specs.declared.node.Node.{Node}
use Rattle.bd_keys.specs.Keys.{same_word, spread, place_in}
use Rattle.bd_keys.specs.Walk.{blank, leaf, no_node, node_at, keys, way, toward, linked, next, onward, end_from, end_of, hung, hanging}
use Rattle.bd_keys.specs.Tree.{Agree, IsNode, IsTree}
use Rattle.bd_keys.proofs.Keys.{word_eq, word_self, spread_eq, spread_below}
use Rattle.bd_keys.proofs.Walks.{next_some, next_at, next_own, next_none, end_none, end_some, key_at, step_inside, step_deeper, end_of_inside, end_of_last, end_of_agrees, none_apart}

-- with a child where x goes, what goes the same way goes to the child, and the rest where it went
toward_linked : (m : Node) (x c y : ℕ) → length m.children ≡ 8
    → ((way m y ≡ way m x) × (toward (linked m x c) y ≡ c))
    ⊎ ((way m y ≢ way m x) × (toward (linked m x c) y ≡ toward m y))
toward_linked m x c y eight = elim (cases_eq (way m y) (way m x)) [
  | inl q ↦
      inl (
        q,
        ap (λ w. get_or (set m.children (way m x) c) w 0) q
            ∙ get_or-set_same m.children (way m x) c 0 (omega (arith, eight)),
      )
  | inr n ↦ inr (n, get_or-set_other m.children (way m x) (way m y) c 0 n)
]

toward_same : (m : Node) (x y : ℕ) → way m y ≡ way m x → toward m y ≡ toward m x
toward_same m x y e = ap (λ w. get_or m.children w 0) e

toward_leaf : (k : WordKey) (n y : ℕ) → toward (leaf k n) y ≡ 0
toward_leaf k n y = get_or-replicate 8 (way (leaf k n) y) 0 0 (omega arith)

-- two numbers that agree, and go the same way, agree in three bits more
three_more : (n x y : ℕ) → Agree n x y → x / 2 ^ n % 8 ≡ y / 2 ^ n % 8 → Agree (n + 3) x y
three_more n x y a e =
    let sum : x % 2 ^ (3 + n) ≡ y % 2 ^ (3 + n) =
    mod-pow-add x 3 n ∙ ap (λ b. b * 2 ^ n + x % 2 ^ n) e ∙ ap (λ r. (y / 2 ^ n % 8) * 2 ^ n + r) a
    ∙ sym (mod-pow-add y 3 n) in
    subst (λ m. Agree m x y) (add_comm 3 n) sum

-- past its 128 bits a number has no more
past_all : (k : WordKey) (n : ℕ) → 128 ≤ n → k.word < 2 ^ 64 → k.process < 2 ^ 64 → spread k < 2 ^ n
past_all k n past word process = omega (arith, spread_below k word process, pow_mono past)

module _ (ns : List Node) (t : IsTree ns) (k : WordKey) (some : 0 < length ns)
    (new : place_in (keys ns) k ≡ None) (word : k.word < 2 ^ 64) (process : k.process < 2 ^ 64) where
  abbrev grown : List Node
  grown = hung ns k ++ hanging ns k ∷ []

  abbrev parent : Node
  parent = node_at ns (end_of ns k)

  inside : end_of ns k < length ns
  inside = end_of_inside ns t some k

  eight : length parent.children ≡ 8
  eight = (t.nodes (end_of ns k) inside).children

  pub grown_length : length grown ≡ length ns + 1
  grown_length = length_push (hung ns k) (hanging ns k) ∙ ap (λ n. n + 1) (length-set ns (end_of ns k) _)

  at_new : node_at grown (length ns) ≡ hanging ns k
  at_new = get_or_push (hung ns k) (hanging ns k) no_node (length ns) (length-set ns (end_of ns k) _)

  at_old : (i : ℕ) → i < length ns → node_at grown i ≡ node_at (hung ns k) i
  at_old i h =
      get_or_append_left (hung ns k) (hanging ns k ∷ []) no_node i
      (omega (arith, h, length-set ns (end_of ns k) (linked parent (spread k) (length ns))))

  at_end : node_at grown (end_of ns k) ≡ linked parent (spread k) (length ns)
  at_end = at_old (end_of ns k) inside ∙ get_or-set_same ns (end_of ns k) _ no_node inside

  at_other : (i : ℕ) → i < length ns → i ≢ end_of ns k → node_at grown i ≡ node_at ns i
  at_other i h n = at_old i h ∙ get_or-set_other ns (end_of ns k) i _ no_node n

  key_kept : (i : ℕ) → i < length ns → (node_at grown i).key ≡ (node_at ns i).key
  key_kept i h = elim (cases_eq i (end_of ns k)) [
    | inl q ↦
        ap (λ j. (node_at grown j).key) q ∙ ap (λ (n : Node). n.key) at_end ∙ ap (λ j. (node_at ns j).key) (sym q)
    | inr n ↦ ap (λ (m : Node). m.key) (at_other i h n)
  ]

  bit_kept : (i : ℕ) → i < length ns → (node_at grown i).bit ≡ (node_at ns i).bit
  bit_kept i h = elim (cases_eq i (end_of ns k)) [
    | inl q ↦
        ap (λ j. (node_at grown j).bit) q ∙ ap (λ (n : Node). n.bit) at_end ∙ ap (λ j. (node_at ns j).bit) (sym q)
    | inr n ↦ ap (λ (m : Node). m.bit) (at_other i h n)
  ]

  apart : parent.key ≡ k → ⊥
  apart = none_apart ns t k new (end_of ns k) inside

  other : same_word parent.key k ≡ false
  other = false_from_ne_true (same_word parent.key k) (λ e. apart (word_eq parent.key k e))

  stuck : toward parent (spread k) ≡ 0
  stuck = next_none ns (end_of ns k) k (end_of_last ns t some k) other

  -- past all bits of a number the keys would be the same
  shallow : parent.bit < 128
  shallow = elim (cases_lt parent.bit 128) [
    | inl less ↦ less
    | inr past ↦
        let o = t.nodes (end_of ns k) inside in
        let same : spread parent.key ≡ spread k =
        sym (mod-eq_of_lt (past_all parent.key parent.bit past o.word o.process)) ∙ end_of_agrees ns t some k
        ∙ mod-eq_of_lt (past_all k parent.bit past word process) in
        absurd (apart (spread_eq parent.key k o.word word same))
  ]

  -- what went on from a node goes on to where it went
  toward_kept : (i y : ℕ) → i < length ns → toward (node_at ns i) y ≢ 0
      → toward (node_at grown i) y ≡ toward (node_at ns i) y
  toward_kept i y h n = elim (cases_eq i (end_of ns k)) [
    | inr d ↦ ap (λ m. toward m y) (at_other i h d)
    | inl q ↦
        elim (toward_linked parent (spread k) (length ns) y eight) [
          | inr s ↦
              ap (λ j. toward (node_at grown j) y) q ∙ ap (λ m. toward m y) at_end ∙ s.1
              ∙ ap (λ j. toward (node_at ns j) y) (sym q)
          | inl s ↦
              absurd (n (ap (λ j. toward (node_at ns j) y) q ∙ toward_same parent (spread k) y s.0 ∙ stuck))
        ]
  ]

  node_new : IsNode grown (hanging ns k)
  node_new = record {
    bit = omega (arith, shallow);
    children = refl;
    word = word;
    process = process;
    within = λ y n. absurd (n (toward_leaf k (parent.bit + 3) y));
    deeper = λ y n. absurd (n (toward_leaf k (parent.bit + 3) y));
    agrees = λ y n a. absurd (n (toward_leaf k (parent.bit + 3) y));
  }

  node_other : (i : ℕ) → i < length ns → IsNode grown (node_at ns i)
  node_other i h =
      let o = t.nodes i h in
      record {
        bit = o.bit;
        children = o.children;
        word = o.word;
        process = o.process;
        within = λ y n. omega (arith, o.within y n, grown_length);
        deeper = λ y n. bit_kept (toward (node_at ns i) y) (o.within y n) ∙ o.deeper y n;
        agrees = λ y n a. subst (λ q. Agree ((node_at ns i).bit + 3) (spread q) y)
            (sym (key_kept (toward (node_at ns i) y) (o.within y n))) (o.agrees y n a);
      }

  -- where a number goes from the parent: to the new node, or as before
  leads : (y : ℕ) → toward (linked parent (spread k) (length ns)) y ≢ 0
      → ((way parent y ≡ way parent (spread k))
      × (toward (linked parent (spread k) (length ns)) y ≡ length ns))
      ⊎ ((toward (linked parent (spread k) (length ns)) y ≡ toward parent y) × (toward parent y ≢ 0))
  leads y n = elim (toward_linked parent (spread k) (length ns) y eight) [
    | inl s ↦ inl s
    | inr s ↦ inr (s.1, λ z. n (s.1 ∙ z))
  ]

  node_parent : IsNode grown (linked parent (spread k) (length ns))
  node_parent =
      let o = t.nodes (end_of ns k) inside in
      record {
        bit = o.bit;
        children = length-set parent.children (way parent (spread k)) (length ns) ∙ eight;
        word = o.word;
        process = o.process;
        within = λ y n. elim (leads y n) [
          | inl s ↦ subst (λ c. c < length grown) (sym s.1) (omega (arith, grown_length))
          | inr s ↦ subst (λ c. c < length grown) (sym s.0) (omega (arith, o.within y s.1, grown_length))
        ];
        deeper = λ y n. elim (leads y n) [
          | inl s ↦ subst (λ c. (node_at grown c).bit ≡ parent.bit + 3) (sym s.1) (ap (λ (m : Node). m.bit) at_new)
          | inr s ↦
              subst (λ c. (node_at grown c).bit ≡ parent.bit + 3) (sym s.0)
              (bit_kept (toward parent y) (o.within y s.1) ∙ o.deeper y s.1)
        ];
        agrees = λ y n a. elim (leads y n) [
          | inl s ↦
              subst (λ c. Agree (parent.bit + 3) (spread (node_at grown c).key) y) (sym s.1)
              (subst (λ (m : Node). Agree (parent.bit + 3) (spread m.key) y) (sym at_new)
              (three_more parent.bit (spread k) y (sym (end_of_agrees ns t some k) ∙ a) (sym s.0)))
          | inr s ↦
              subst (λ c. Agree (parent.bit + 3) (spread (node_at grown c).key) y) (sym s.0)
              (subst (λ q. Agree (parent.bit + 3) (spread q) y)
              (sym (key_kept (toward parent y) (o.within y s.1))) (o.agrees y s.1 a))
        ];
      }

  next_kept : (i : ℕ) (l : WordKey) (j : ℕ) → i < length ns → next ns i l ≡ Some j → next grown i l ≡ Some j
  next_kept i l j h e =
      let s = next_some ns i l j e in
      next_at grown i l j (subst (λ q. same_word q l ≡ false) (sym (key_kept i h)) s.0)
      (toward_kept i (spread l) h s.2 ∙ s.1) (λ z. s.2 (s.1 ∙ z))

  -- the walk to an older key's node is as it was
  end_kept : (f i : ℕ) (l : WordKey) (j : ℕ) → i < length ns → end_from ns f i l ≡ j → (node_at ns j).key ≡ l
      → end_from grown f i l ≡ j
  unfolding end_from
  end_kept zero i l j h e q = e
  end_kept (suc f) i l j h e q = at (λ c less g. end_kept f c l j less g q) (next ns i l) refl e
    where
      at : ((c : ℕ) → c < length ns → end_from ns f c l ≡ j → end_from grown f c l ≡ j)
          → (o : Option ℕ) → next ns i l ≡ o → onward i (λ n. end_from ns f n l) o ≡ j
          → end_from grown (suc f) i l ≡ j
      at again None d g =
          let is : (node_at grown i).key ≡ l = key_kept i h ∙ ap (λ n. (node_at ns n).key) g ∙ q in
          end_none grown f i l
          (next_own grown i l (subst (λ z. same_word z l ≡ true) (sym is) (word_self l))) ∙ g
      at again (Some c) d g =
          end_some grown f i l c (next_kept i l c h d) ∙ again c (step_inside ns t i l c h d) g

  stops : (f : ℕ) → end_from grown f (length ns) k ≡ length ns
  unfolding end_from
  stops zero = refl
  stops (suc f) =
      end_none grown f (length ns) k
      (next_own grown (length ns) k (subst (λ (m : Node). same_word m.key k ≡ true) (sym at_new) (word_self k)))

  next_new : next grown (end_of ns k) k ≡ Some (length ns)
  next_new =
      next_at grown (end_of ns k) k (length ns)
      (subst (λ q. same_word q k ≡ false) (sym (key_kept (end_of ns k) inside)) other)
      (ap (λ m. toward m (spread k)) at_end ∙ here) (λ z. omega (arith, z, some))
    where
      here : toward (linked parent (spread k) (length ns)) (spread k) ≡ length ns
      here = elim (toward_linked parent (spread k) (length ns) (spread k) eight) [ inl s ↦ s.1 | inr s ↦ absurd (s.0 refl) ]

  -- the walk to the new key goes on from where it ended
  end_new : (f i : ℕ) → i < length ns → f + (node_at ns i).bit / 3 ≡ 44 → end_from ns f i k ≡ end_of ns k
      → end_from grown f i k ≡ length ns
  unfolding end_from
  end_new zero i h b e = absurd (omega (arith, b, (t.nodes i h).bit))
  end_new (suc f) i h b e = at (λ c less d g. end_new f c less d g) (next ns i k) refl e
    where
      at : ((c : ℕ) → c < length ns → f + (node_at ns c).bit / 3 ≡ 44 → end_from ns f c k ≡ end_of ns k
          → end_from grown f c k ≡ length ns)
          → (o : Option ℕ) → next ns i k ≡ o → onward i (λ n. end_from ns f n k) o ≡ end_of ns k
          → end_from grown (suc f) i k ≡ length ns
      at again None d g =
          end_some grown f i k (length ns) (subst (λ n. next grown n k ≡ Some (length ns)) (sym g) next_new) ∙ stops f
      at again (Some c) d g =
          end_some grown f i k c (next_kept i k c h d)
          ∙ again c (step_inside ns t i k c h d) (omega (arith, b, step_deeper ns t i k c h d)) g

  own_old : (i : ℕ) → i < length ns → end_of grown (node_at ns i).key ≡ i
  unfolding end_of
  own_old i h = end_kept 44 0 (node_at ns i).key i some (t.own i h) refl

  own_new : end_of grown k ≡ length ns
  unfolding end_of
  own_new = end_new 44 0 some (omega (arith, t.root)) refl

  pub grown_tree : length ns < 2 ^ 32 → IsTree grown
  grown_tree room = record {
    count = omega (arith, room, grown_length);
    root = bit_kept 0 some ∙ t.root;
    nodes = λ i h. elim (cases_lt i (length ns)) [
      | inl less ↦
          elim (cases_eq i (end_of ns k)) [
            | inl q ↦
                subst (λ j. IsNode grown (node_at grown j)) (sym q) (subst (IsNode grown) (sym at_end) node_parent)
            | inr n ↦ subst (IsNode grown) (sym (at_other i less n)) (node_other i less)
          ]
      | inr more ↦
          let is : i ≡ length ns = omega (arith, h, more, grown_length) in
          subst (λ j. IsNode grown (node_at grown j)) (sym is) (subst (IsNode grown) (sym at_new) node_new)
    ];
    own = λ i h. elim (cases_lt i (length ns)) [
      | inl less ↦ subst (λ q. end_of grown q ≡ i) (sym (key_kept i less)) (own_old i less)
      | inr more ↦
          let is : i ≡ length ns = omega (arith, h, more, grown_length) in
          subst (λ j. end_of grown (node_at grown j).key ≡ j) (sym is)
          (subst (λ (m : Node). end_of grown m.key ≡ length ns) (sym at_new) own_new)
    ];
  }

  pub hung_keys : keys (hung ns k) ≡ keys ns
  hung_keys =
      map-set (λ (n : Node). n.key) ns (end_of ns k) _
      ∙ ap (set (keys ns) (end_of ns k)) (sym (key_at ns (end_of ns k) inside))
      ∙ set-get_or (keys ns) (end_of ns k) blank

root_own : (k : WordKey) → end_of (leaf k 0 ∷ []) k ≡ 0
unfolding end_of
root_own k = end_none (leaf k 0 ∷ []) 43 0 k (next_own (leaf k 0 ∷ []) 0 k (word_self k))

-- the first key makes the root
pub root_tree : (k : WordKey) → k.word < 2 ^ 64 → k.process < 2 ^ 64 → IsTree (leaf k 0 ∷ [])
root_tree k word process = record {
  count = omega arith;
  root = refl;
  nodes = λ i h. subst (λ j. IsNode (leaf k 0 ∷ []) (node_at (leaf k 0 ∷ []) j)) (first i h) (record {
    bit = omega arith;
    children = refl;
    word = word;
    process = process;
    within = λ y n. absurd (n (toward_leaf k 0 y));
    deeper = λ y n. absurd (n (toward_leaf k 0 y));
    agrees = λ y n a. absurd (n (toward_leaf k 0 y));
  });
  own = λ i h. subst (λ j. end_of (leaf k 0 ∷ []) (node_at (leaf k 0 ∷ []) j).key ≡ j) (first i h) (root_own k);
}
  where
    first : (i : ℕ) → i < length (leaf k 0 ∷ []) → 0 ≡ i
    first i h = omega (arith, h)
