-- What a process asked for goes, name by name.
use Rattle.bd_records.proofs.Words.{Bool, Identity, List, None, Object, Option, Records, RecordsAre, Reference, Some, [], ap, arith, asked_of, count_by, false, filter, is_asked_by, is_asking, is_named_at, list_any, named_by, nat_lt, not, number_of, of_strength, on_slot, refl, same_self, subst, sym}
use Rattle.bd_records.proofs.Words.{true, value_at, ℕ, ◌&&◌, ◌<◌, ◌^◌, ◌||◌, ◌∙◌, ◌∷◌, ◌≡◌}
use Rattle.bd_records.proofs.{Forgetting.{asked_to}, Holding.{asked_counts}, Lists.{filter_within, none_left}, Tallies.{none_of_either}}

abbrev pub asked_by : ℕ → Reference → Bool
asked_by p r = is_asked_by p r.holder

-- those of others
abbrev pub others_than : ℕ → List Reference → List Reference
others_than p l = filter (λ r. not (is_asked_by p r.holder)) l

-- without what was asked for by a name
abbrev pub unnamed : ℕ → Option Identity → List Reference → List Reference
unnamed p w l = filter (λ r. not (is_named_at w r.object && is_asked_by p r.holder)) l

pub kept_unnamed : (p : ℕ) (l : List Reference) → filter (λ (r : Reference). not (is_named_at None r.object && is_asked_by p r.holder)) l ≡ l
kept_unnamed p [] = refl
kept_unnamed p (x ∷ l) = ap (λ ys. x ∷ ys) (kept_unnamed p l)

not_both : (a b : Bool) → not b ≡ true → not (a && b) ≡ true
not_both true b e = e
not_both false b e = refl

-- others' stay
pub others_stay : (p : ℕ) (w : Option Identity) (l : List Reference) → others_than p (unnamed p w l) ≡ others_than p l
others_stay p w l = filter_within (λ r. not (is_asked_by p r.holder)) (λ r. not (is_named_at w r.object && is_asked_by p r.holder)) (λ r e. not_both (is_named_at w r.object) (is_asked_by p r.holder) e) l

none_kept : (f q : Reference → Bool) (l : List Reference) → list_any f l ≡ false → list_any f (filter q l) ≡ false
none_kept f q [] e = refl
none_kept f q (x ∷ l) e = grind (arith, none_kept f q l, e)

-- what isn't asked for any more stays so
pub still_unasked : (p : ℕ) (o : Identity) (w : Option Identity) (l : List Reference) → list_any (asked_to p o) l ≡ false → list_any (asked_to p o) (unnamed p w l) ≡ false
still_unasked p o w l e = none_kept (asked_to p o) (λ r. not (is_named_at w r.object && is_asked_by p r.holder)) l e

pub now_unasked : (p : ℕ) (o : Identity) (w : Option Identity) (l : List Reference) → w ≡ Some o → list_any (asked_to p o) (unnamed p w l) ≡ false
now_unasked p o w l e = subst (λ v. list_any (asked_to p o) (unnamed p v l) ≡ false) (sym e) (none_left (asked_to p o) l)

-- of no object: of none
pub all_unasked : (p : ℕ) (l : List Reference) → ((o : Identity) → list_any (asked_to p o) l ≡ false) → list_any (asked_by p) l ≡ false
all_unasked p [] none = refl
all_unasked p (x ∷ l) none = grind (arith, all_unasked p l (λ o. grind (arith, none o)), none x.object, same_self x.object)

-- nothing is asked for that has no name, and nothing by a name by which nothing is
pub nothing_asked_for : (t : Records) (objects : List Object) (l : List Reference) (p : ℕ) → RecordsAre t objects l
    → ((m : ℕ) → m < 2 ^ 32 → (o : Identity) → named_by t.names p m ≡ Some o → list_any (asked_to p o) l ≡ false) → (o : Identity) → list_any (asked_to p o) l ≡ false
nothing_asked_for t objects l p h none o = at (number_of t.names p o) refl
  where
    at : (k : Option ℕ) → number_of t.names p o ≡ k → list_any (asked_to p o) l ≡ false
    at None e =
        let zero : (s : Bool) → count_by (is_asking p o s) l ≡ 0 = (λ s. sym (h.counts.asked p o s) ∙ ap (λ k. of_strength s (asked_of (on_slot None (value_at t.names.rows p) k))) e ∙ none_of_either s) in
        asked_counts p o l ∙ (λ i. nat_lt 0 (zero false i) || nat_lt 0 (zero true i))
    at (Some n) e = none n (let s = t.names.small p o n e in omega (arith, s)) o (t.names.leads p o n e)
