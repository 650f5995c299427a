-- What an acknowledgement that is owed holds is held already, and strongly if it is a strong one.
use Rattle.bd_objects.proofs.Words.{Bool, HoldsAlike, Identity, List, None, Object, Option, Reference, Some, Space, Work, WorkKind, [], and_parts, ap, false, flat_map, handshakes, handshakes_for, handshakes_of, held_in, if◌then◌else◌, inl, inr}
use Rattle.bd_objects.proofs.Words.{length, list_any-append, not, object_in, or_cases, or_left, or_right, owed, refl, returns_of, returns_of_object, same, same_eq, shakes, strong_in, subst, suc, sym, true, ℕ, ◌&&◌, ◌++◌, ◌+◌, ◌||◌, ◌∙◌, ◌∷◌, ◌≡◌}
use Rattle.bd_objects.proofs.Apart.{found_same}
use Rattle.bd_uapi.specs.declared.command.Return.TheVariants as br
use Rattle.bd_space.specs.declared.space.WorkKind.TheVariants as work

-- ---- what is owed

rest_none : (c d : Bool) (ptr cookie : ℕ) → flat_map shakes ((if c then (br.Release ptr cookie ∷ []) else []) ++ (if d then (br.Decrefs ptr cookie ∷ []) else [])) ≡ []
rest_none true true ptr cookie = refl
rest_none true false ptr cookie = refl
rest_none false true ptr cookie = refl
rest_none false false ptr cookie = refl

owed_is : (a b c d : Bool) (ptr cookie : ℕ)
    → flat_map shakes ((if a then (br.Increfs ptr cookie ∷ []) else []) ++ (if b then (br.Acquire ptr cookie ∷ []) else [])
    ++ (if c then (br.Release ptr cookie ∷ []) else []) ++ (if d then (br.Decrefs ptr cookie ∷ []) else [])) ≡ owed a b
owed_is true true c d ptr cookie = ap (λ xs. false ∷ true ∷ xs) (rest_none c d ptr cookie)
owed_is true false c d ptr cookie = ap (λ xs. false ∷ xs) (rest_none c d ptr cookie)
owed_is false true c d ptr cookie = ap (λ xs. true ∷ xs) (rest_none c d ptr cookie)
owed_is false false c d ptr cookie = rest_none c d ptr cookie

-- ---- references whose objects these references hold

module _ (refs : List Reference) where
  strong_held : (rs : List Reference) (o : Identity) → strong_in rs o ≡ true → held_in rs o ≡ true
  strong_held [] o h = absurd (cc)
  strong_held (r ∷ rs) o h = elim (or_cases (r.strong && same r.object o) (strong_in rs o) h) [
    | inl e ↦ or_left _ _ (and_parts r.strong (same r.object o) e).1
    | inr e ↦ or_right _ _ (strong_held rs o e)
  ]

  pub record IsBacked (r : Reference) : Type 0 where
    pub held : held_in refs r.object ≡ true
    pub strong : r.strong ≡ true → strong_in refs r.object ≡ true

  abbrev AreBacked : List Reference → Type 0
  AreBacked [] = Unit {0}
  AreBacked (r ∷ rs) = IsBacked r × AreBacked rs

  backed_append : (rs more : List Reference) → AreBacked rs → AreBacked more → AreBacked (rs ++ more)
  backed_append [] more h k = k
  backed_append (r ∷ rs) more h k = (h.0, backed_append rs more h.1 k)

  backed_held : (rs : List Reference) (o : Identity) → AreBacked rs → held_in rs o ≡ true → held_in refs o ≡ true
  backed_held [] o b h = absurd (cc)
  backed_held (r ∷ rs) o b h = elim (or_cases (same r.object o) (held_in rs o) h) [
    | inl e ↦ subst (λ i. held_in refs i ≡ true) (same_eq r.object o e) b.0.held
    | inr e ↦ backed_held rs o b.1 e
  ]

  backed_strong : (rs : List Reference) (o : Identity) → AreBacked rs → strong_in rs o ≡ true → strong_in refs o ≡ true
  backed_strong [] o b h = absurd (cc)
  backed_strong (r ∷ rs) o b h = elim (or_cases (r.strong && same r.object o) (strong_in rs o) h) [
    | inl e ↦ (let k = and_parts r.strong (same r.object o) e in subst (λ i. strong_in refs i ≡ true) (same_eq r.object o k.1) (b.0.strong k.0))
    | inr e ↦ backed_strong rs o b.1 e
  ]

  absorbed : (a b : Bool) → (b ≡ true → a ≡ true) → (a || b) ≡ a
  absorbed true b h = refl
  absorbed false true h = sym (h refl)
  absorbed false false h = refl

  backed_alike : (rs : List Reference) → AreBacked rs → HoldsAlike refs (refs ++ rs)
  backed_alike rs b = λ o. (
    list_any-append (λ r. same r.object o) refs rs ∙ absorbed _ _ (backed_held rs o b),
    list_any-append (λ r. r.strong && same r.object o) refs rs ∙ absorbed _ _ (backed_strong rs o b),
  )

  backed_owed : (place k : ℕ) (o : Identity) (weak strong : Bool) → (weak ≡ true → held_in refs o ≡ true) → (strong ≡ true → strong_in refs o ≡ true)
      → AreBacked (handshakes_for place k o (owed weak strong))
  backed_owed place k o true true h g = (record { held = h refl; strong = λ e. absurd (cc) }, (record { held = h refl; strong = g }, tt))
  backed_owed place k o true false h g = (record { held = h refl; strong = λ e. absurd (cc) }, tt)
  backed_owed place k o false true h g = (record { held = strong_held refs o (g refl); strong = g }, tt)
  backed_owed place k o false false h g = tt

  backed_object : (place k : ℕ) (objects : List Object) (o : Identity) (ox : Option Object) → object_in objects o ≡ ox
      → AreBacked (handshakes_for place k o (flat_map shakes (returns_of_object refs ox)))
  backed_object place k objects o None e = tt
  backed_object place k objects o (Some x) e =
      let is = same_eq x.id o (found_same objects o x e) in
      let a = held_in refs x.id && not x.told_weak in
      let b = strong_in refs x.id && not x.told_strong in
      subst (λ bs. AreBacked (handshakes_for place k o bs)) (sym (owed_is a b _ _ x.ptr x.cookie))
      (backed_owed place k o a b (λ h. subst (λ i. held_in refs i ≡ true) is (and_parts _ _ h).0) (λ h. subst (λ i. strong_in refs i ≡ true) is (and_parts _ _ h).0))

module _ (s : Space) where
  backed_kind : (k : ℕ) (kind : WorkKind) → AreBacked s.references (handshakes_of s k kind)
  unfolding returns_of
  backed_kind k (work.Notice o) = backed_object s.references s.steps k s.objects o (object_in s.objects o) refl
  backed_kind k (work.Complete spam) = tt
  backed_kind k (work.Refusal r) = tt
  backed_kind k (work.Call b) = tt
  backed_kind k (work.Reply b) = tt
  backed_kind k (work.Verdict r) = tt
  backed_kind k (work.Death n) = tt
  backed_kind k (work.Cleared cookie) = tt

  backed_all : (ws : List Work) (k : ℕ) → AreBacked s.references (handshakes s k ws)
  backed_all [] k = tt
  backed_all (w ∷ ws) k = backed_append s.references (handshakes_of s k w.kind) _ (backed_kind k w.kind) (backed_all ws (k + length (handshakes_of s k w.kind)))

  pub holds_alike : (ws : List Work) → HoldsAlike s.references (s.references ++ handshakes s 0 ws)
  holds_alike ws = backed_alike s.references (handshakes s 0 ws) (backed_all ws 0)

-- what an owner is told follows from what is held
pub alike_returns : (these others : List Reference) → HoldsAlike these others → (ox : Option Object) → returns_of_object others ox ≡ returns_of_object these ox
alike_returns these others h None = refl
alike_returns these others h (Some x) = rw ((h x.id).0, (h x.id).1) refl

-- those of a notice's object
length_for : (place k : ℕ) (o : Identity) (bs : List Bool) → length (handshakes_for place k o bs) ≡ length bs
length_for place k o [] = refl
length_for place k o (b ∷ bs) = ap suc (length_for place (k + 1) o bs)

pub handshakes_notice : (s : Space) (l : List Reference) (place k : ℕ) (o : Identity) (kind : WorkKind) (bs : List Bool) → kind ≡ work.Notice o → s.steps ≡ place → HoldsAlike s.references l
    → flat_map shakes (returns_of_object l (object_in s.objects o)) ≡ bs → (handshakes_for place k o bs ≡ handshakes_of s k kind) × (length bs ≡ length (handshakes_of s k kind))
unfolding returns_of
handshakes_notice s l place k o kind bs e at h owes =
    let these : flat_map shakes (returns_of_object s.references (object_in s.objects o)) ≡ bs = ap (flat_map shakes) (sym (alike_returns s.references l h (object_in s.objects o))) ∙ owes in
    let all : handshakes_for place k o bs ≡ handshakes_of s k kind =
    sym (ap (handshakes_of s k) e ∙ ap (λ n. handshakes_for n k o (flat_map shakes (returns_of_object s.references (object_in s.objects o)))) at ∙ ap (handshakes_for place k o) these) in
    (all, sym (length_for place k o bs) ∙ ap length all)
