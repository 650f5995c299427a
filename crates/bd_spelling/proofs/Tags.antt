-- A value behind a byte that says which kind it is.
use Rattle.std.proofs.Common.{◌≡◌, ℕ, Bool, true, false, cond, eqb, List, [], ◌∷◌, ◌++◌, Option, Some, refl, sym, ap, subst, ◌∙◌, append_assoc}
use Rattle.std.specs.List.{AllByRecursion}
use Rattle.std.proofs.lemmas.Bool.{eqb-true}
use Rattle.bd_uapi.specs.Bytes.{IsBytes}
use Rattle.bd_spelling.specs.Codes.{numbered}
use Rattle.bd_spelling.specs.Reading.{◌>>=◌, byte_from, tagged, bare, thrice}
use Rattle.bd_spelling.proofs.FieldLaws.{bind_some, some_is, Takes, Takes_then, Takes_behind, IsBytes_rest, Reads, byte_takes}

-- what is read behind a tag is spelled with it
pub record Row {A : Type 0} (spell : A → List ℕ) (Fits : A → Type 0) (tag : ℕ) (read : List ℕ → Option (A × List ℕ)) : Type 0 where
  pub takes : (bytes : List ℕ) (x : A × List ℕ) → IsBytes bytes → read bytes ≡ Some x → Takes (tag ∷ bytes) (spell x.0) x.1 × Fits x.0

abbrev pub RowOf : {A : Type 0} → (A → List ℕ) → (A → Type 0) → ℕ × (List ℕ → Option (A × List ℕ)) → Type 0
RowOf spell Fits row = Row spell Fits row.0 row.1

pub bare_row : {A : Type 0} (spell : A → List ℕ) (Fits : A → Type 0) (tag : ℕ) (v : A) → spell v ≡ tag ∷ [] → Fits v → Row spell Fits tag (bare v)
bare_row {A} spell Fits tag v spelled fit = record {
  takes = λ bytes x fits e.
      let made : Takes (tag ∷ bytes) (spell v) bytes × Fits v = (record { parts = ap (λ (t : List ℕ). t ++ bytes) (sym spelled); rest_fits = fits }, fit) in
      subst (λ (y : A × List ℕ). Takes (tag ∷ bytes) (spell y.0) y.1 × Fits y.0) (some_is (v, bytes) x e) made;
}

-- one and three values of one kind
pub once_row : {A V : Type 0} (spell : A → List ℕ) (Fits : A → Type 0) (read : List ℕ → Option (V × List ℕ)) (s : V → List ℕ) (F : V → Type 0) → Reads read s F
    → (tag : ℕ) (make : V → A) → ((a : V) → spell (make a) ≡ tag ∷ s a) → ((a : V) → F a → Fits (make a))
    → Row spell Fits tag (λ bytes. read bytes >>= λ a. Some (make a.0, a.1))
once_row {A} {V} spell Fits read s F reads tag make spelled fit = record {
  takes = λ bytes x fits e.
      let p = bind_some (read bytes) (λ a. Some (make a.0, a.1)) x e in
      let t = reads.takes bytes p.0 fits p.1 in
      let made : Takes (tag ∷ bytes) (spell (make p.0.0)) p.0.1 × Fits (make p.0.0) =
      (subst (λ (w : List ℕ). Takes (tag ∷ bytes) w p.0.1) (sym (spelled p.0.0)) (Takes_behind tag bytes (s p.0.0) p.0.1 t.0), fit p.0.0 t.1) in
      subst (λ (y : A × List ℕ). Takes (tag ∷ bytes) (spell y.0) y.1 × Fits y.0) (some_is (make p.0.0, p.0.1) x p.2) made;
}

pub thrice_row : {A V : Type 0} (spell : A → List ℕ) (Fits : A → Type 0) (read : List ℕ → Option (V × List ℕ)) (s : V → List ℕ) (F : V → Type 0) → Reads read s F
    → (tag : ℕ) (make : V → V → V → A) → ((a b c : V) → spell (make a b c) ≡ tag ∷ (s a ++ s b ++ s c)) → ((a b c : V) → F a → F b → F c → Fits (make a b c))
    → Row spell Fits tag (thrice read make)
thrice_row {A} {V} spell Fits read s F reads tag make spelled fit = record {
  takes = λ bytes x fits e.
      let p = bind_some (read bytes) (λ a. read a.1 >>= λ b. read b.1 >>= λ c. Some (make a.0 b.0 c.0, c.1)) x e in
      let q = bind_some (read p.0.1) (λ b. read b.1 >>= λ c. Some (make p.0.0 b.0 c.0, c.1)) x p.2 in
      let u = bind_some (read q.0.1) (λ c. Some (make p.0.0 q.0.0 c.0, c.1)) x q.2 in
      let t0 = reads.takes bytes p.0 fits p.1 in
      let t1 = reads.takes p.0.1 q.0 t0.0.rest_fits q.1 in
      let t2 = reads.takes q.0.1 u.0 t1.0.rest_fits u.1 in
      let two = Takes_then bytes (s p.0.0) p.0.1 (s q.0.0) q.0.1 t0.0 t1.0 in
      let all = Takes_then bytes (s p.0.0 ++ s q.0.0) q.0.1 (s u.0.0) u.0.1 two t2.0 in
      let v = make p.0.0 q.0.0 u.0.0 in
      let made : Takes (tag ∷ bytes) (spell v) u.0.1 × Fits v =
      (subst (λ (w : List ℕ). Takes (tag ∷ bytes) w u.0.1) (sym (spelled p.0.0 q.0.0 u.0.0)) (Takes_behind tag bytes (s p.0.0 ++ s q.0.0 ++ s u.0.0) u.0.1 all), fit p.0.0 q.0.0 u.0.0 t0.1 t1.1 t2.1) in
      subst (λ (y : A × List ℕ). Takes (tag ∷ bytes) (spell y.0) y.1 × Fits y.0) (some_is (v, u.0.1) x u.2) made;
}

pub thrice_again : {A V : Type 0} (read : List ℕ → Option (V × List ℕ)) (s : V → List ℕ) (F : V → Type 0) → Reads read s F → (make : V → V → V → A) (a b c : V) (rest : List ℕ) → F a → F b → F c
    → thrice read make (s a ++ s b ++ s c ++ rest) ≡ Some (make a b c, rest)
thrice_again read s F reads make a b c rest fa fb fc =
    let regrouped : s a ++ s b ++ s c ++ rest ≡ s a ++ (s b ++ (s c ++ rest)) = simp append_assoc in
    ap (thrice read make) regrouped ∙ rw (reads.again a (s b ++ (s c ++ rest)) fa, reads.again b (s c ++ rest) fb, reads.again c rest fc) refl

-- ---- what has a number

numbered_is : {A : Type 0} (number : A → ℕ) (xs : List A) (n : ℕ) (x : A) → numbered number xs n ≡ Some x → number x ≡ n
numbered_is number [] n x e = absurd cc
numbered_is {A} number (y ∷ ys) n x e = go (numbered_is number ys n x) (eqb (number y) n) refl e
  where
    go : (numbered number ys n ≡ Some x → number x ≡ n) → (b : Bool) → eqb (number y) n ≡ b → cond b (Some y) (numbered number ys n) ≡ Some x → number x ≡ n
    go others true t f = ap number (sym (some_is y x f)) ∙ eqb-true _ _ t
    go others false t f = others f

pub numbered_row : {A B : Type 0} (spell : B → List ℕ) (Fits : B → Type 0) (number : A → ℕ) (xs : List A)
    → (tag : ℕ) (make : A → B) → ((a : A) → spell (make a) ≡ tag ∷ number a ∷ []) → ((a : A) → Fits (make a))
    → Row spell Fits tag (λ bytes. byte_from bytes >>= λ n. numbered number xs n.0 >>= λ a. Some (make a, n.1))
numbered_row {A} {B} spell Fits number xs tag make spelled fit = record {
  takes = λ bytes x fits e.
      let p = bind_some (byte_from bytes) (λ n. numbered number xs n.0 >>= λ a. Some (make a, n.1)) x e in
      let q = bind_some (numbered number xs p.0.0) (λ a. Some (make a, p.0.1)) x p.2 in
      let is : bytes ≡ p.0.0 ∷ p.0.1 = byte_takes bytes p.0 p.1 in
      let rest_fits : IsBytes p.0.1 = IsBytes_rest p.0.0 p.0.1 (subst IsBytes is fits) in
      let n-is : number q.0 ≡ p.0.0 = numbered_is number xs p.0.0 q.0 q.1 in
      let text : spell (make q.0) ≡ tag ∷ p.0.0 ∷ [] = spelled q.0 ∙ ap (λ (n : ℕ). tag ∷ n ∷ []) n-is in
      let parts : tag ∷ bytes ≡ spell (make q.0) ++ p.0.1 = ap (λ (t : List ℕ). tag ∷ t) is ∙ ap (λ (t : List ℕ). t ++ p.0.1) (sym text) in
      let made : Takes (tag ∷ bytes) (spell (make q.0)) p.0.1 × Fits (make q.0) = (record { parts = parts; rest_fits = rest_fits }, fit q.0) in
      subst (λ (y : B × List ℕ). Takes (tag ∷ bytes) (spell y.0) y.1 × Fits y.0) (some_is (make q.0, p.0.1) x q.2) made;
}

-- ---- all rows

tagged_takes : {A : Type 0} (spell : A → List ℕ) (Fits : A → Type 0) (rows : List (ℕ × (List ℕ → Option (A × List ℕ)))) (tag : ℕ) (bytes : List ℕ) (x : A × List ℕ)
    → AllByRecursion (RowOf spell Fits) rows → IsBytes bytes → tagged rows tag bytes ≡ Some x → Takes (tag ∷ bytes) (spell x.0) x.1 × Fits x.0
tagged_takes spell Fits [] tag bytes x right fits e = absurd cc
tagged_takes {A} spell Fits (row ∷ rows) tag bytes x right fits e = go (tagged_takes spell Fits rows tag bytes x right.1 fits) (eqb tag row.0) refl e
  where
    go : (tagged rows tag bytes ≡ Some x → Takes (tag ∷ bytes) (spell x.0) x.1 × Fits x.0) → (b : Bool) → eqb tag row.0 ≡ b → cond b (row.1 bytes) (tagged rows tag bytes) ≡ Some x → Takes (tag ∷ bytes) (spell x.0) x.1 × Fits x.0
    go others true t f = subst (λ (n : ℕ). Takes (n ∷ bytes) (spell x.0) x.1 × Fits x.0) (sym (eqb-true _ _ t)) (right.0.takes bytes x fits f)
    go others false t f = others f

pub rows_take : {A : Type 0} (spell : A → List ℕ) (Fits : A → Type 0) (rows : List (ℕ × (List ℕ → Option (A × List ℕ)))) → AllByRecursion (RowOf spell Fits) rows
    → (bytes : List ℕ) (x : A × List ℕ) → IsBytes bytes → (byte_from bytes >>= λ tag. tagged rows tag.0 tag.1) ≡ Some x → Takes bytes (spell x.0) x.1 × Fits x.0
rows_take spell Fits rows right bytes x fits e =
    let p = bind_some (byte_from bytes) (λ tag. tagged rows tag.0 tag.1) x e in
    let is : bytes ≡ p.0.0 ∷ p.0.1 = byte_takes bytes p.0 p.1 in
    let rest_fits : IsBytes p.0.1 = IsBytes_rest p.0.0 p.0.1 (subst IsBytes is fits) in
    subst (λ (b : List ℕ). Takes b (spell x.0) x.1 × Fits x.0) (sym is) (tagged_takes spell Fits rows p.0.0 p.0.1 x right rest_fits p.2)
