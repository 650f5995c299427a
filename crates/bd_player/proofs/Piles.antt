-- One line more in the pile of its seat.
use Rattle.std.proofs.Common.{◌≡◌, ℕ, zero, suc, ◌==◌, ◌<◌, Bool, true, false, cond, List, [], ◌∷◌, ◌++◌, length, map, get_or, set, refl, sym, ap, ◌∙◌, arith}
use Rattle.std.proofs.lemmas.Bool.{eqb-true, eq-eqb}
use Rattle.std.proofs.lemmas.List.{append_assoc, append-nil}
use Rattle.bd_script.specs.declared.script.Line.{Line}
use Rattle.bd_player.specs.Piles.{lines_of, pile_at, ArePiles, IsPut}

clash : {b : Bool} → b ≡ true → b ≡ false → ⊥
clash a b = absurd cc

abbrev pub as_first : Line → Line
as_first l = record l { seat = 0 }

own : (line : Line) (k : ℕ) → line.seat ≡ k → lines_of k (line ∷ []) ≡ as_first line ∷ []
own line k is = by (line.seat == k) (eq-eqb line.seat k is)
  where
    by : (b : Bool) → b ≡ true → cond b (as_first line ∷ []) [] ≡ as_first line ∷ []
    by true e = refl
    by false e = absurd cc

no_own : (line : Line) (k : ℕ) → (line.seat == k) ≡ false → lines_of k (line ∷ []) ≡ []
no_own line k far = by (line.seat == k) far
  where
    by : (b : Bool) → b ≡ false → cond b (as_first line ∷ []) [] ≡ []
    by false e = refl
    by true e = absurd cc

-- the first line, and then the others
lines_split : (k : ℕ) (line : Line) (rest : List Line) → lines_of k (line ∷ []) ++ lines_of k rest ≡ lines_of k (line ∷ rest)
lines_split k line rest = by (line.seat == k)
  where
    by : (b : Bool) → cond b (as_first line ∷ []) [] ++ lines_of k rest ≡ cond b (as_first line ∷ lines_of k rest) (lines_of k rest)
    by true = refl
    by false = refl

module _ {V : Type 0} (g : V → List Line) where
  -- where a pile was changed
  same_length : (vs : List V) (i : ℕ) (w : V) → length (map g (set vs i w)) ≡ length (map g vs)
  same_length [] i w = refl
  same_length (x ∷ xs) zero w = refl
  same_length (x ∷ xs) (suc i) w = ap suc (same_length xs i w)

  put_here : (vs : List V) (i : ℕ) (w : V) → i < length vs → pile_at (map g (set vs i w)) i ≡ g w
  put_here [] i w lt = absurd (omega (arith, lt))
  put_here (x ∷ xs) zero w lt = refl
  put_here (x ∷ xs) (suc i) w lt = put_here xs i w (omega (arith, lt))

  put_there : (vs : List V) (i k : ℕ) (w : V) → (k ≡ i → ⊥) → pile_at (map g (set vs i w)) k ≡ pile_at (map g vs) k
  put_there [] i k w isnt = refl
  put_there (x ∷ xs) zero zero w isnt = absurd (isnt refl)
  put_there (x ∷ xs) zero (suc k) w isnt = refl
  put_there (x ∷ xs) (suc i) zero w isnt = refl
  put_there (x ∷ xs) (suc i) (suc k) w isnt = put_there xs i k w (λ e. isnt (ap suc e))

  stands : (vs : List V) (i : ℕ) (v : V) → i < length vs → pile_at (map g vs) i ≡ g (get_or vs i v)
  stands [] i v lt = absurd (omega (arith, lt))
  stands (x ∷ xs) zero v lt = refl
  stands (x ∷ xs) (suc i) v lt = stands xs i v (omega (arith, lt))

  pub is_put : (vs us : List V) (line : Line) (i : ℕ) (v w : V) → us ≡ set vs i w → i ≡ line.seat → i < length vs → get_or vs i v ≡ v → g w ≡ g v ++ as_first line ∷ [] → IsPut line (map g vs) (map g us)
  is_put vs us line i v w written is lt there grown = record {
    many = ap (λ ws. length (map g ws)) written ∙ same_length vs i w;
    each = λ k below. ap (λ ws. pile_at (map g ws) k) written ∙ by k (i == k) refl;
  }
    where
      by : (k : ℕ) (b : Bool) → (i == k) ≡ b → pile_at (map g (set vs i w)) k ≡ pile_at (map g vs) k ++ lines_of k (line ∷ [])
      by k true e =
          let same : i ≡ k = eqb-true i k e in
          let old : pile_at (map g vs) k ≡ g v = ap (pile_at (map g vs)) (sym same) ∙ stands vs i v lt ∙ ap g there in
          ap (pile_at (map g (set vs i w))) (sym same) ∙ put_here vs i w lt ∙ grown ∙ ap (λ xs. xs ++ as_first line ∷ []) (sym old) ∙ ap (λ ys. pile_at (map g vs) k ++ ys) (sym (own line k (sym is ∙ same)))
      by k false e =
          put_there vs i k w (λ q. clash (eq-eqb i k (sym q)) e)
          ∙ sym (append-nil (pile_at (map g vs) k)) ∙ ap (λ ys. pile_at (map g vs) k ++ ys) (sym (no_own line k (ap (λ j. j == k) (sym is) ∙ e)))

  -- the piles, and what is still to be put there
  pub record Goes (seats : ℕ) (lines rest : List Line) (vs : List V) : Type 0 where
    pub many : length (map g vs) ≡ seats
    pub each : (k : ℕ) → k < seats → pile_at (map g vs) k ++ lines_of k rest ≡ lines_of k lines

  pub begins : (seats : ℕ) (lines : List Line) (vs : List V) → ArePiles seats [] (map g vs) → Goes seats lines lines vs
  begins seats lines vs h = record { many = h.many; each = λ k lt. ap (λ xs. xs ++ lines_of k lines) (h.each k lt) }

  pub goes_on : (seats : ℕ) (lines before rest : List Line) (line : Line) (vs us : List V) → Goes seats lines before vs → before ≡ line ∷ rest → IsPut line (map g vs) (map g us) → Goes seats lines rest us
  goes_on seats lines before rest line vs us h is put = record {
    many = put.many ∙ h.many;
    each = λ k lt.
        let many = h.many in
        ap (λ xs. xs ++ lines_of k rest) (put.each k (omega (arith, lt, many)))
        ∙ append_assoc (pile_at (map g vs) k) (lines_of k (line ∷ [])) (lines_of k rest)
        ∙ ap (λ ys. pile_at (map g vs) k ++ ys) (lines_split k line rest ∙ ap (lines_of k) (sym is))
        ∙ h.each k lt;
  }

  pub ends : (seats : ℕ) (lines rest : List Line) (vs : List V) → Goes seats lines rest vs → rest ≡ [] → ArePiles seats lines (map g vs)
  ends seats lines rest vs h none = record {
    many = h.many;
    each = λ k lt. sym (append-nil (pile_at (map g vs) k)) ∙ ap (λ ys. pile_at (map g vs) k ++ lines_of k ys) (sym none) ∙ h.each k lt;
  }
