-- What is kept and what is told of objects and references.
use Rattle.bd_records.proofs.Words.{Asked, Bool, Carried, Count, CountsAre, Handshake, Holder, Identity, List, Manager, NameRow, Object, ObjectRow, Option, Records, RecordsAre, Reference, Some, Target, [], ap, arith, asked_of, beq, carried_of, cond, count_by, eqb-true, false, gives_name_to, held_in}
use Rattle.bd_records.proofs.Words.{is_asked_by, is_asking, is_carried_to, is_carrying, is_empty, is_handshake, is_held, is_shaking, is_to, list_any, name_at, nat_lt, not, of_strength, owed_of, owned_in, refl, row_at, same, same_eq, strong_in, sym, total_of, true, without_first, ℕ, ◌&&◌, ◌-◌, ◌||◌}
use Rattle.bd_records.proofs.Words.{◌∙◌, ◌∷◌, ◌≡◌}
use Rattle.bd_records.proofs.{Lists.{any_counts, found_is, found_passes}, Tallies.{Test, count_first, on}}

-- ---- which reference goes

beq_eq : (a b : Bool) → beq a b ≡ true → a ≡ b
beq_eq true true h = refl
beq_eq true false h = absurd cc
beq_eq false true h = absurd cc
beq_eq false false h = refl

asked_is : (p : ℕ) (h : Holder) → is_asked_by p h ≡ true → h ≡ Asked p
asked_is p (Asked q) e = ap Asked (eqb-true q p e)
asked_is p (Carried c q) e = absurd cc
asked_is p (Target c q) e = absurd cc
asked_is p Handshake e = absurd cc
asked_is p Manager e = absurd cc

shaken_is : (h : Holder) → is_handshake h ≡ true → h ≡ Handshake
shaken_is (Asked q) e = absurd cc
shaken_is (Carried c q) e = absurd cc
shaken_is (Target c q) e = absurd cc
shaken_is Handshake e = refl
shaken_is Manager e = absurd cc

-- those that pass are alike for each counter, so it is the same which one goes
module _ (p : Reference → Bool) (r : Reference) (alike : (x : Reference) → p x ≡ true → (x.object ≡ r.object) × (x.strong ≡ r.strong) × (x.holder ≡ r.holder)) where
  pub goes : (l : List Reference) → list_any p l ≡ true → (g : Test) → count_by (on g) (without_first p l) ≡ count_by (on g) l - cond (on g r) 1 0
  goes l any g =
      let f = found_is p l any in
      let a = alike f.0 (found_passes p l f.0 f.1) in
      count_first p (on g) l f.0 f.1 ∙ ap (λ b. count_by (on g) l - cond b 1 0) (same_test f.0 a.0 a.1 a.2)
    where
      same_test : (x : Reference) → x.object ≡ r.object → x.strong ≡ r.strong → x.holder ≡ r.holder → on g x ≡ on g r
      same_test x a b c = (λ i. g (a i) (b i) (c i))

pub asking_alike : (p : ℕ) (o : Identity) (s : Bool) (x : Reference) → is_asking p o s x ≡ true → (x.object ≡ o) × (x.strong ≡ s) × (x.holder ≡ Asked p)
asking_alike p o s x e = (same_eq x.object o (grind (arith, e)), beq_eq x.strong s (grind (arith, e)), asked_is p x.holder (grind (arith, e)))

pub shaking_alike : (o : Identity) (s : Bool) (x : Reference) → is_shaking o s x ≡ true → (x.object ≡ o) × (x.strong ≡ s) × (x.holder ≡ Handshake)
shaking_alike o s x e = (same_eq x.object o (grind (arith, e)), beq_eq x.strong s (grind (arith, e)), shaken_is x.holder (grind (arith, e)))

-- no buffer holds it
pub asked_off : (p : ℕ) (o : Identity) (s : Bool) (x : Reference) → is_asking p o s x ≡ true → is_held x ≡ false
asked_off p o s x e = let a = asking_alike p o s x e in grind (arith, a.2)

pub shaken_off : (o : Identity) (s : Bool) (x : Reference) → is_shaking o s x ≡ true → is_held x ≡ false
shaken_off o s x e = let a = shaking_alike o s x e in grind (arith, a.2)

-- ---- what counts tell

any_either : (p q t : Reference → Bool) → ((x : Reference) → p x ≡ (q x || t x)) → (l : List Reference) → list_any p l ≡ (list_any q l || list_any t l)
any_either p q t same [] = refl
any_either p q t same (x ∷ l) = grind (arith, any_either p q t same l, same x)

any_alike : (p q : Reference → Bool) → ((x : Reference) → p x ≡ q x) → (l : List Reference) → list_any p l ≡ list_any q l
any_alike p q same [] = refl
any_alike p q same (x ∷ l) = grind (arith, any_alike p q same l, same x)

either : (a b : Bool) → b ≡ ((beq a false && b) || (beq a true && b))
either true true = refl
either true false = refl
either false true = refl
either false false = refl

pub not_empty : (c : Count) (n m : ℕ) → of_strength false c ≡ n → of_strength true c ≡ m → not (is_empty c) ≡ (nat_lt 0 n || nat_lt 0 m)
not_empty c n m e f = grind (arith, e, f)

pub held_counts : (o : Identity) (l : List Reference) → held_in l o ≡ (nat_lt 0 (count_by (is_to o false) l) || nat_lt 0 (count_by (is_to o true) l))
held_counts o l =
    any_either (λ r. same r.object o) (is_to o false) (is_to o true) (λ x. either x.strong (same x.object o)) l
    ∙ (λ i. any_counts (is_to o false) l i || any_counts (is_to o true) l i)

strong_test : (a b : Bool) → (a && b) ≡ (beq a true && b)
strong_test true b = refl
strong_test false b = refl

pub strong_counts : (o : Identity) (l : List Reference) → strong_in l o ≡ nat_lt 0 (count_by (is_to o true) l)
strong_counts o l = any_alike (λ r. r.strong && same r.object o) (is_to o true) (λ x. strong_test x.strong (same x.object o)) l ∙ any_counts (is_to o true) l

name_test : (p : ℕ) (h : Holder) → gives_name_to p h ≡ (is_asked_by p h || is_carried_to p h)
name_test p (Asked q) = grind arith
name_test p (Carried c q) = grind arith
name_test p (Target c q) = refl
name_test p Handshake = refl
name_test p Manager = refl

pub refers_counts : (p : ℕ) (o : Identity) (l : List Reference) → list_any (λ r. same r.object o && gives_name_to p r.holder) l
    ≡ ((nat_lt 0 (count_by (is_asking p o false) l) || nat_lt 0 (count_by (is_asking p o true) l)) || (nat_lt 0 (count_by (is_carrying p o false) l) || nat_lt 0 (count_by (is_carrying p o true) l)))
refers_counts p o l =
    any_either (λ r. same r.object o && gives_name_to p r.holder) (λ r. same r.object o && is_asked_by p r.holder) (λ r. same r.object o && is_carried_to p r.holder)
    (λ x. grind (arith, name_test p x.holder)) l
    ∙ (λ i. any_either (λ r. same r.object o && is_asked_by p r.holder) (is_asking p o false) (is_asking p o true) (λ x. grind (arith, either x.strong (same x.object o && is_asked_by p x.holder))) l i
    || any_either (λ r. same r.object o && is_carried_to p r.holder) (is_carrying p o false) (is_carrying p o true) (λ x. grind (arith, either x.strong (same x.object o && is_carried_to p x.holder))) l i)
    ∙ (λ i. (any_counts (is_asking p o false) l i || any_counts (is_asking p o true) l i) || (any_counts (is_carrying p o false) l i || any_counts (is_carrying p o true) l i))

pub strongly_counts : (p : ℕ) (o : Identity) (l : List Reference) → list_any (λ r. r.strong && same r.object o && gives_name_to p r.holder) l
    ≡ (nat_lt 0 (count_by (is_asking p o true) l) || nat_lt 0 (count_by (is_carrying p o true) l))
strongly_counts p o l =
    any_either (λ r. r.strong && same r.object o && gives_name_to p r.holder) (is_asking p o true) (is_carrying p o true)
    (λ x. test x.strong (same x.object o) (gives_name_to p x.holder) (is_asked_by p x.holder) (is_carried_to p x.holder) (name_test p x.holder)) l
    ∙ (λ i. any_counts (is_asking p o true) l i || any_counts (is_carrying p o true) l i)
  where
    test : (a b d e f : Bool) → d ≡ (e || f) → (a && b && d) ≡ ((beq a true && b && e) || (beq a true && b && f))
    test true true d e f h = h
    test true false d e f h = refl
    test false b d e f h = refl

pub or_true : (a b : Bool) → a ≡ true → (a || b) ≡ true
or_true true b h = refl
or_true false b h = absurd cc

pub or_false : (a b : Bool) → a ≡ false → (a || b) ≡ b
or_false true b h = absurd cc
or_false false b h = refl

pub asked_counts : (p : ℕ) (o : Identity) (l : List Reference) → list_any (λ r. same r.object o && is_asked_by p r.holder) l
    ≡ (nat_lt 0 (count_by (is_asking p o false) l) || nat_lt 0 (count_by (is_asking p o true) l))
asked_counts p o l =
    any_either (λ r. same r.object o && is_asked_by p r.holder) (is_asking p o false) (is_asking p o true) (λ x. grind (arith, either x.strong (same x.object o && is_asked_by p x.holder))) l
    ∙ (λ i. any_counts (is_asking p o false) l i || any_counts (is_asking p o true) l i)

one_of : (a b : Bool) → not (a && b) ≡ (not a || not b)
one_of true b = refl
one_of false b = refl

-- a name's record tells whether a reference gives the name of another's object
pub given_counts : (O : Identity → Option ObjectRow) (N : ℕ → Identity → Option NameRow) (objects : List Object) (l : List Reference) → CountsAre O N objects l
    → (p : ℕ) (o : Identity) (w : NameRow) → N p o ≡ Some w → owned_in objects p o ≡ false
    → not (is_empty w.asked && is_empty w.carried) ≡ list_any (λ r. same r.object o && gives_name_to p r.holder) l
given_counts O N objects l h p o w is free =
    let a = ap (λ v. of_strength false (asked_of v)) (sym is) ∙ h.asked p o false in
    let b = ap (λ v. of_strength true (asked_of v)) (sym is) ∙ h.asked p o true in
    let d = ap (λ v. of_strength false (carried_of v)) (sym is) ∙ h.carried p o false free in
    let e = ap (λ v. of_strength true (carried_of v)) (sym is) ∙ h.carried p o true free in
    one_of (is_empty w.asked) (is_empty w.carried) ∙ (λ i. not_empty w.asked _ _ a b i || not_empty w.carried _ _ d e i) ∙ sym (refers_counts p o l)

-- whose the object is may be asked last
pub given_last : (owned refers named : Bool) → (owned ≡ false → refers ≡ named) → (refers && not owned) ≡ (not owned && named)
given_last true true named h = refl
given_last true false named h = refl
given_last false true named h = h refl
given_last false false named h = h refl

-- ---- what records tell

module _ (t : Records) (objects : List Object) (l : List Reference) (h : RecordsAre t objects l) where
  pub held_told : (o : Identity) (w : Option ObjectRow) → row_at t.objects o ≡ w → not (is_empty (total_of w)) ≡ held_in l o
  held_told o w is =
      not_empty (total_of w) _ _ (ap (λ v. of_strength false (total_of v)) (sym is) ∙ h.counts.totals o false) (ap (λ v. of_strength true (total_of v)) (sym is) ∙ h.counts.totals o true)
      ∙ sym (held_counts o l)

  pub strong_told : (o : Identity) (w : Option ObjectRow) → row_at t.objects o ≡ w → nat_lt 0 (of_strength true (total_of w)) ≡ strong_in l o
  strong_told o w is = ap (nat_lt 0) (ap (λ v. of_strength true (total_of v)) (sym is) ∙ h.counts.totals o true) ∙ sym (strong_counts o l)

  pub shaken_told : (o : Identity) (s : Bool) (w : Option ObjectRow) → row_at t.objects o ≡ w → nat_lt 0 (of_strength s (owed_of w)) ≡ list_any (is_shaking o s) l
  shaken_told o s w is = ap (nat_lt 0) (ap (λ v. of_strength s (owed_of v)) (sym is) ∙ h.counts.owed o s) ∙ sym (any_counts (is_shaking o s) l)

  pub asked_told : (p : ℕ) (o : Identity) (s : Bool) (w : Option NameRow) → name_at t.names p o ≡ w → nat_lt 0 (of_strength s (asked_of w)) ≡ list_any (is_asking p o s) l
  asked_told p o s w is = ap (nat_lt 0) (ap (λ v. of_strength s (asked_of v)) (sym is) ∙ h.counts.asked p o s) ∙ sym (any_counts (is_asking p o s) l)

  pub strongly_told : (p : ℕ) (o : Identity) → owned_in objects p o ≡ false → (w : Option NameRow) → name_at t.names p o ≡ w
      → (nat_lt 0 (of_strength true (asked_of w)) || nat_lt 0 (of_strength true (carried_of w))) ≡ list_any (λ r. r.strong && same r.object o && gives_name_to p r.holder) l
  strongly_told p o free w is =
      let a = ap (λ v. of_strength true (asked_of v)) (sym is) ∙ h.counts.asked p o true in
      let b = ap (λ v. of_strength true (carried_of v)) (sym is) ∙ h.counts.carried p o true free in
      (λ i. nat_lt 0 (a i) || nat_lt 0 (b i)) ∙ sym (strongly_counts p o l)
