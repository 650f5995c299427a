-- A node among the others.
use Rattle.std.proofs.Common.{◌≡◌, ℕ, zero, suc, ◌==◌, ◌<◌, ◌&&◌, nat_lt, Bool, true, false, cond, List, [], ◌∷◌, length, get_or, set, Option, Some, None, refl, sym, ap, ◌∙◌, arith}
use Rattle.std.proofs.lemmas.Bool.{eqb-true}
use Rattle.std.proofs.{lemmas.Bool.Decides.{nat_tests}, lemmas.Grind.{common_steps}}
use Rattle.bd_chains.specs.Rows.{hits}
use Rattle.bd_ring.specs.Rings.{node_at, next_at, prev_at, spot, with_next, with_prev}
use Rattle.bd_ring.specs.declared.nodes.Node.{Node}

-- what each number has after one node was written
pub node_set : (ns : List Node) (i : ℕ) (n : Node) (j : ℕ) → i < length ns → node_at (set ns i n) j ≡ cond (i == j) n (node_at ns j)
node_set [] i n j lt = absurd (omega (arith, lt))
node_set (x ∷ xs) zero n zero lt = grind arith
node_set (x ∷ xs) zero n (suc j) lt = grind arith
node_set (x ∷ xs) (suc i) n zero lt = grind arith
node_set (x ∷ xs) (suc i) n (suc j) lt = grind (arith, node_set xs i n j)

-- a number that is there, and one that isn't
pub writes_in : (ns : List Node) (k : ℕ) (n : Node) (j : ℕ) → k < length ns → node_at (set ns k n) j ≡ cond (nat_lt k (length ns) && (k == j)) n (node_at ns j)
writes_in ns k n j lt =
    let yes : nat_lt k (length ns) ≡ true = grind (arith, nat_tests, common_steps, lt) in
    rw yes (node_set ns k n j lt)

pub writes_out : (ns : List Node) (k : ℕ) (n : Node) (j : ℕ) → (k < length ns → ⊥) → node_at ns j ≡ cond (nat_lt k (length ns) && (k == j)) n (node_at ns j)
writes_out ns k n j out =
    let no : nat_lt k (length ns) ≡ false = grind (arith, nat_tests, common_steps, out) in
    rw no refl

-- the same of a node that was read and changed
pub changes_in : (ns : List Node) (k : ℕ) (change : Node → Node) (t : Node) (j : ℕ) → k < length ns → get_or ns k t ≡ t
    → node_at (set ns k (change t)) j ≡ cond (nat_lt k (length ns) && (k == j)) (change (node_at ns k)) (node_at ns j)
changes_in ns k change t j lt seen =
    writes_in ns k (change t) j lt ∙ ap (λ (n : Node). cond (nat_lt k (length ns) && (k == j)) (change n) (node_at ns j)) (sym seen ∙ read ns k lt)
  where
    read : (xs : List Node) (k : ℕ) → k < length xs → get_or xs k t ≡ node_at xs k
    read [] k lt = absurd (omega (arith, lt))
    read (x ∷ xs) zero lt = refl
    read (x ∷ xs) (suc k) lt = read xs k (omega (arith, lt))

module _ (ns us : List Node) (k : ℕ) (n : Node) (writes : (j : ℕ) → node_at us j ≡ cond (nat_lt k (length ns) && (k == j)) n (node_at ns j)) where
  -- what the new node says as the old one did, all say as before
  pub kept : {A : Type 0} (g : Node → A) → g n ≡ g (node_at ns k) → (j : ℕ) → g (node_at us j) ≡ g (node_at ns j)
  kept g same j = ap g (writes j) ∙ by (nat_lt k (length ns)) (k == j) refl
    where
      by : (a b : Bool) → (k == j) ≡ b → g (cond (a && b) n (node_at ns j)) ≡ g (node_at ns j)
      by true true e = same ∙ ap (λ i. g (node_at ns i)) (eqb-true k j e)
      by true false e = refl
      by false true e = refl
      by false false e = refl

  -- where the number is there, it has the new node
  pub put : {A : Type 0} (g : Node → A) → k < length ns → (j : ℕ) → g (node_at us j) ≡ cond (k == j) (g n) (g (node_at ns j))
  put g lt j = ap g (writes j) ∙ by (nat_lt k (length ns)) (k == j) (grind (arith, nat_tests, common_steps, lt))
    where
      by : (a b : Bool) → a ≡ true → g (cond (a && b) n (node_at ns j)) ≡ cond b (g n) (g (node_at ns j))
      by true true e = refl
      by true false e = refl
      by false b e = absurd cc

-- the link after one, or to the first
module _ (ns us : List Node) (l : ℕ) (at to : Option ℕ)
    (writes : (j : ℕ) → node_at us j ≡ cond (nat_lt (spot l at) (length ns) && (spot l at == j)) (with_next at to (node_at ns (spot l at))) (node_at ns j)) where
  pub nexts_set : spot l at < length ns → (m : ℕ) (o : Option ℕ) → next_at us m o ≡ cond (hits l at m o) to (next_at ns m o)
  nexts_set = by at writes
    where
      by : (at : Option ℕ) → ((j : ℕ) → node_at us j ≡ cond (nat_lt (spot l at) (length ns) && (spot l at == j)) (with_next at to (node_at ns (spot l at))) (node_at ns j))
          → spot l at < length ns → (m : ℕ) (o : Option ℕ) → next_at us m o ≡ cond (hits l at m o) to (next_at ns m o)
      by None w lt m None = put ns us l (with_next None to (node_at ns l)) w (λ (n : Node). n.first) lt m
      by None w lt m (Some y) = kept ns us l (with_next None to (node_at ns l)) w (λ (n : Node). n.next) refl y
      by (Some x) w lt m None = kept ns us x (with_next (Some x) to (node_at ns x)) w (λ (n : Node). n.first) refl m
      by (Some x) w lt m (Some y) = put ns us x (with_next (Some x) to (node_at ns x)) w (λ (n : Node). n.next) lt y

  pub next_keeps : {A : Type 0} (g : Node → A) → ((a : Option ℕ) (n : Node) → g (with_next a to n) ≡ g n) → (j : ℕ) → g (node_at us j) ≡ g (node_at ns j)
  next_keeps g same = kept ns us (spot l at) (with_next at to (node_at ns (spot l at))) writes g (same at (node_at ns (spot l at)))

  pub prevs_stay : (m : ℕ) (o : Option ℕ) → prev_at us m o ≡ prev_at ns m o
  prevs_stay m None = next_keeps (λ (n : Node). n.last) (λ a n. by a n) m
    where
      by : (a : Option ℕ) (n : Node) → (with_next a to n).last ≡ n.last
      by None n = refl
      by (Some x) n = refl
  prevs_stay m (Some y) = next_keeps (λ (n : Node). n.prev) (λ a n. by a n) y
    where
      by : (a : Option ℕ) (n : Node) → (with_next a to n).prev ≡ n.prev
      by None n = refl
      by (Some x) n = refl

-- the link before one, or to the last
module _ (ns us : List Node) (l : ℕ) (at to : Option ℕ)
    (writes : (j : ℕ) → node_at us j ≡ cond (nat_lt (spot l at) (length ns) && (spot l at == j)) (with_prev at to (node_at ns (spot l at))) (node_at ns j)) where
  pub prevs_set : spot l at < length ns → (m : ℕ) (o : Option ℕ) → prev_at us m o ≡ cond (hits l at m o) to (prev_at ns m o)
  prevs_set = by at writes
    where
      by : (at : Option ℕ) → ((j : ℕ) → node_at us j ≡ cond (nat_lt (spot l at) (length ns) && (spot l at == j)) (with_prev at to (node_at ns (spot l at))) (node_at ns j))
          → spot l at < length ns → (m : ℕ) (o : Option ℕ) → prev_at us m o ≡ cond (hits l at m o) to (prev_at ns m o)
      by None w lt m None = put ns us l (with_prev None to (node_at ns l)) w (λ (n : Node). n.last) lt m
      by None w lt m (Some y) = kept ns us l (with_prev None to (node_at ns l)) w (λ (n : Node). n.prev) refl y
      by (Some x) w lt m None = kept ns us x (with_prev (Some x) to (node_at ns x)) w (λ (n : Node). n.last) refl m
      by (Some x) w lt m (Some y) = put ns us x (with_prev (Some x) to (node_at ns x)) w (λ (n : Node). n.prev) lt y

  pub prev_keeps : {A : Type 0} (g : Node → A) → ((a : Option ℕ) (n : Node) → g (with_prev a to n) ≡ g n) → (j : ℕ) → g (node_at us j) ≡ g (node_at ns j)
  prev_keeps g same = kept ns us (spot l at) (with_prev at to (node_at ns (spot l at))) writes g (same at (node_at ns (spot l at)))

  pub nexts_stay : (m : ℕ) (o : Option ℕ) → next_at us m o ≡ next_at ns m o
  nexts_stay m None = prev_keeps (λ (n : Node). n.first) (λ a n. by a n) m
    where
      by : (a : Option ℕ) (n : Node) → (with_prev a to n).first ≡ n.first
      by None n = refl
      by (Some x) n = refl
  nexts_stay m (Some y) = prev_keeps (λ (n : Node). n.next) (λ a n. by a n) y
    where
      by : (a : Option ℕ) (n : Node) → (with_prev a to n).next ≡ n.next
      by None n = refl
      by (Some x) n = refl

pub ring_stays : (to a : Option ℕ) (n : Node) → (with_next a to n).ring ≡ n.ring
ring_stays to None n = refl
ring_stays to (Some x) n = refl

pub used_stays : (to a : Option ℕ) (n : Node) → (with_next a to n).used ≡ n.used
used_stays to None n = refl
used_stays to (Some x) n = refl

pub ring_stays_too : (to a : Option ℕ) (n : Node) → (with_prev a to n).ring ≡ n.ring
ring_stays_too to None n = refl
ring_stays_too to (Some x) n = refl

pub used_stays_too : (to a : Option ℕ) (n : Node) → (with_prev a to n).used ≡ n.used
used_stays_too to None n = refl
used_stays_too to (Some x) n = refl

-- what the code writes is that
pub written_next : (ns us : List Node) (l : ℕ) (at to : Option ℕ) (k : ℕ) → k ≡ spot l at
    → ((j : ℕ) → node_at us j ≡ cond (nat_lt k (length ns) && (k == j)) (with_next at to (node_at ns k)) (node_at ns j))
    → (j : ℕ) → node_at us j ≡ cond (nat_lt (spot l at) (length ns) && (spot l at == j)) (with_next at to (node_at ns (spot l at))) (node_at ns j)
written_next ns us l at to k is writes j = writes j ∙ ap (λ i. cond (nat_lt i (length ns) && (i == j)) (with_next at to (node_at ns i)) (node_at ns j)) is

-- what the code writes is that
pub written_prev : (ns us : List Node) (l : ℕ) (at to : Option ℕ) (k : ℕ) → k ≡ spot l at
    → ((j : ℕ) → node_at us j ≡ cond (nat_lt k (length ns) && (k == j)) (with_prev at to (node_at ns k)) (node_at ns j))
    → (j : ℕ) → node_at us j ≡ cond (nat_lt (spot l at) (length ns) && (spot l at == j)) (with_prev at to (node_at ns (spot l at))) (node_at ns j)
written_prev ns us l at to k is writes j = writes j ∙ ap (λ i. cond (nat_lt i (length ns) && (i == j)) (with_prev at to (node_at ns i)) (node_at ns j)) is
