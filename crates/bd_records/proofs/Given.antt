-- Names that were given since they were settled.
use Rattle.bd_records.proofs.Words.{AreBlank, Bool, CountsAre, Identity, IsBlank, KeepsSettled, List, Name, NameRow, Names, NamesAre, None, Object, ObjectRow, Option, Records, Reference, Settled, Since, Some, Sound, Uses, [], ap, append-nil, append_assoc, arith, asked_of, carried_of, cond, count_by}
use Rattle.bd_records.proofs.Words.{eq-eqb, false, filter, has_object, is_asking, is_carrying, is_some, length, length-append, min, name_at, new_number, new_row, no_count, not, number_of, of_strength, owned_in, refl, same, same_self, subst, sym, true, with_number, ℕ, ◌&&◌, ◌++◌, ◌+◌, ◌-◌, ◌==◌, ◌∙◌}
use Rattle.bd_records.proofs.Words.{◌∷◌, ◌≡◌, ◌≤◌}
use Rattle.bd_records.proofs.{GivenNames.{nil_of}, Singles.{last_dropped}}

-- ---- blank names

pub blank_put : (b : Bool) (o : Identity) (w v : Option NameRow) → v ≡ cond b (Some (new_row o)) w → IsBlank w → IsBlank v
blank_put true o w v e h = (ap asked_of e, ap carried_of e)
blank_put false o w v e h = (ap asked_of e ∙ h.0, ap carried_of e ∙ h.1)

pub blank_gone : (b : Bool) (w v : Option NameRow) → v ≡ cond b None w → IsBlank w → IsBlank v
blank_gone true w v e h = (ap asked_of e, ap carried_of e)
blank_gone false w v e h = (ap asked_of e ∙ h.0, ap carried_of e ∙ h.1)

pub all_put : (t u : Names) (p : ℕ) (o : Identity) → ((q : ℕ) (x : Identity) → name_at u q x ≡ cond ((p == q) && same o x) (Some (new_row o)) (name_at t q x))
    → (ms : List Name) → AreBlank t ms → AreBlank u ms
all_put t u p o rows [] h = tt
all_put t u p o rows (m ∷ ms) h = (blank_put ((p == m.process) && same o m.object) o (name_at t m.process m.object) (name_at u m.process m.object) (rows m.process m.object) h.0, all_put t u p o rows ms h.1)

pub all_gone : (t u : Names) (p : ℕ) (o : Identity) → ((q : ℕ) (x : Identity) → name_at u q x ≡ cond ((p == q) && same o x) None (name_at t q x))
    → (ms : List Name) → AreBlank t ms → AreBlank u ms
all_gone t u p o rows [] h = tt
all_gone t u p o rows (m ∷ ms) h = (blank_gone ((p == m.process) && same o m.object) (name_at t m.process m.object) (name_at u m.process m.object) (rows m.process m.object) h.0, all_gone t u p o rows ms h.1)

pub all_kept : (t u : Names) → ((q : ℕ) (x : Identity) → name_at u q x ≡ name_at t q x) → (ms : List Name) → AreBlank t ms → AreBlank u ms
all_kept t u rows [] h = tt
all_kept t u rows (m ∷ ms) h = ((ap asked_of (rows m.process m.object) ∙ h.0.0, ap carried_of (rows m.process m.object) ∙ h.0.1), all_kept t u rows ms h.1)

pub blank_more : (t : Names) (ms : List Name) (m : Name) → AreBlank t ms → IsBlank (name_at t m.process m.object) → AreBlank t (ms ++ m ∷ [])
blank_more t [] m h k = (k, tt)
blank_more t (n ∷ ms) m h k = (h.0, blank_more t ms m h.1 k)

pub blank_last : (t : Names) (ms : List Name) (m : Name) → AreBlank t (ms ++ m ∷ []) → AreBlank t ms × IsBlank (name_at t m.process m.object)
blank_last t [] m h = (tt, h.0)
blank_last t (n ∷ ms) m h = let k = blank_last t ms m h.1 in ((h.0, k.0), k.1)

-- ---- one comes

pub here : (p : ℕ) (o : Identity) → ((p == p) && same o o) ≡ true
here p o = rw (eq-eqb p p refl, same_self o) refl

pub since_had : (t : Records) (zero : Bool) (p : ℕ) (o : Identity) (base names : List Name) → Since t base names → is_some (number_of t.names p o) ≡ true → Since t base (with_number zero p names o)
since_had t zero p o base names h had =
    subst (Since t base) (sym (ap (λ b. cond b names (names ++ record { process = p; number = new_number zero p names; object = o } ∷ [])) (ap is_some (h.stands.numbers_are p o) ∙ had))) h

-- ---- all go

pub last_of : (base all given l : List Name) (m : Name) → Sound l → l ≡ base ++ all → all ≡ given ++ m ∷ [] → filter (λ k. not (has_object m.process m.object k)) l ≡ base ++ given
last_of base all given l m h e k =
    let key = has_object m.process m.object in
    let is : l ≡ (base ++ given) ++ m ∷ [] = e ∙ ap (λ g. base ++ g) k ∙ sym (append_assoc base given (m ∷ [])) in
    let pass : key m ≡ true = rw (eq-eqb m.process m.process refl, same_self m.object) refl in
    ap (filter (λ x. not (key x))) is ∙ last_dropped key (base ++ given) m pass (subst (λ xs. count_by key xs ≤ 1) is (h.one_name m.process m.object))

zero_counts : (s : Bool) → of_strength s no_count ≡ 0
zero_counts true = refl
zero_counts false = refl

-- a blank name counts nothing
pub blank_counts : (O : Identity → Option ObjectRow) (N : ℕ → Identity → Option NameRow) (objects : List Object) (l : List Reference) → CountsAre O N objects l → (p : ℕ) (o : Identity) → IsBlank (N p o)
    → (s : Bool) → owned_in objects p o ≡ false → (count_by (is_asking p o s) l ≡ 0) × (count_by (is_carrying p o s) l ≡ 0)
blank_counts O N objects l h p o blank s free =
    (sym (h.asked p o s) ∙ ap (of_strength s) blank.0 ∙ zero_counts s, sym (h.carried p o s free) ∙ ap (of_strength s) blank.1 ∙ zero_counts s)

-- ---- none can be taken back

none_given : (l given : List Name) → l ≡ l ++ given → given ≡ []
none_given l given e = let long = ap length e ∙ length-append l given in nil_of given (omega arith)

-- no name is given where none was
pub nothing_since : (t : Records) (names : List Name) → Settled t names → t.given.items ≡ []
nothing_since t names s = none_given names t.given.items s.grows

-- the names are these from now on
pub settled_now : (t u : Records) (names left : List Name) → Settled t names → NamesAre u.names left → u.given.items ≡ t.given.items → Settled u left
settled_now t u names left s are same =
    let none = same ∙ nothing_since t names s in
    record { stands = are; grows = sym (append-nil left) ∙ ap (λ (g : List Name). left ++ g) (sym none); blank = subst (AreBlank u.names) (sym none) tt }

pub settled_kept : (t u : Records) → ((l : List Name) → NamesAre t.names l → NamesAre u.names l) → u.given.items ≡ t.given.items → KeepsSettled t u
settled_kept t u kept same names s = settled_now t u names names s (kept names s.stands) same

-- one that takes no room after another
pub uses_nothing : (t u v : Records) → Uses t u 0 0 0 → Uses u v 0 0 0 → Uses t v 0 0 0
uses_nothing t u v a b = record {
  objects_fit = omega (arith, a.objects_fit, b.objects_fit);
  references_fit = omega (arith, a.references_fit, b.references_fit);
  names_fit = λ p. omega (arith, a.names_fit p, b.names_fit p);
}

-- the less of two, one of which stays or grows
pub less_stays : (a b o : ℕ) → a ≤ b → min a o ≤ min b o + 0
less_stays a b o h = omega (arith, h)

-- one fewer of either
pub one_fewer : (most a b m n : ℕ) → a ≤ b + 1 → n ≤ m + 1 → min a (most - m) ≤ min b (most - n) + 1
one_fewer most a b m n h k = omega (arith, h, k)
