use Rattle.bd_objects.proofs.Words.{Bool, Handshake, Identity, IsHere, IsHomed, List, Object, Records, RecordsAre, Reference, Settled, Uses, [], append-nil, append_assoc, arith, false, handshakes_for, length, or_left, or_right, owed, reference_of}
use Rattle.bd_objects.proofs.Words.{refl, subst, sym, true, ℕ, ◌++◌, ◌+◌, ◌∷◌, ◌≡◌}
use Rattle.bd_objects.proofs.{Homed.{plain_homed}, Spent.{none_used, then_uses, widened}, reading.{add_acknowledgements.{Goals.{else-weak, then-weak}}}}
use Rattle.bd_objects.proofs.reading.add_acknowledgements.Goals as goal

both : (place k next : ℕ) (o : Identity) (weak strong : Bool) (l : List Reference) (a b : Reference) → weak ≡ true → strong ≡ true → a ≡ reference_of place k o false Handshake
    → next ≡ k + 1 → b ≡ reference_of place next o true Handshake → (l ++ a ∷ []) ++ b ∷ [] ≡ l ++ handshakes_for place k o (owed weak strong)
both place k next o weak strong l a b w s e n g = rw (w, s, e, g, n) (append_assoc l (reference_of place k o false Handshake ∷ []) _)

one : (place k next : ℕ) (o : Identity) (weak strong : Bool) (l : List Reference) (b : Reference) → weak ≡ false → strong ≡ true
    → next ≡ k → b ≡ reference_of place next o true Handshake → l ++ b ∷ [] ≡ l ++ handshakes_for place k o (owed weak strong)
one place k next o weak strong l b w s n g = rw (w, s, g, n) refl

-- an acknowledgement of an object that is there
homed : (t : Records) (objects : List Object) (l : List Reference) → RecordsAre t objects l → (r : Reference) (place k : ℕ) (o : Identity) (strong : Bool)
    → r ≡ reference_of place k o strong Handshake → IsHere o objects → IsHomed t objects r
homed t objects l h r place k o strong is here =
    subst (IsHomed t objects) (sym is) (plain_homed t objects l h (reference_of place k o strong Handshake) here (λ p. refl) (λ p. refl))

pub returns-then-strong-clause-stands : goal.returns-then-strong-clause-stands
returns-then-strong-clause-stands c = λ objects l h there.
    let here = there (or_right c.args.weak c.args.strong c.if-strong.true) in
    let t = c.args.records.now in
    let last = c.push-then-strong.ensures.stands in
    elim c.if-weak.branch [
      | then-weak w ↦
          let was = subst (λ t. RecordsAre t objects (l ++ w.handshake.result ∷ [])) (sym w.records-is)
          (w.push.ensures.stands objects l (homed t objects l h _ _ _ c.args.o false w.handshake.ensures here) h) in
          subst (RecordsAre c.push-then-strong.new.self objects)
          (both c.args.place c.args.index _ c.args.o _ _ l _ _ w.if-weak.true c.if-strong.true w.handshake.ensures w.next-is c.handshake-then-strong.ensures)
          (last objects _ (homed _ objects _ was _ _ _ c.args.o true c.handshake-then-strong.ensures here) was)
      | else-weak w ↦
          let was = subst (λ t. RecordsAre t objects l) (sym w.records-is) h in
          subst (RecordsAre c.push-then-strong.new.self objects)
          (one c.args.place c.args.index _ c.args.o _ _ l _ w.if-weak.false c.if-strong.true w.next-is c.handshake-then-strong.ensures)
          (last objects l (homed _ objects l was _ _ _ c.args.o true c.handshake-then-strong.ensures here) was)
    ]

weak_alone : (place k : ℕ) (o : Identity) (weak strong : Bool) (l : List Reference) (a : Reference) → weak ≡ true → strong ≡ false → a ≡ reference_of place k o false Handshake
    → l ++ a ∷ [] ≡ l ++ handshakes_for place k o (owed weak strong)
weak_alone place k o weak strong l a w s e = rw (w, s, e) refl

neither : (place k : ℕ) (o : Identity) (weak strong : Bool) (l : List Reference) → weak ≡ false → strong ≡ false → l ≡ l ++ handshakes_for place k o (owed weak strong)
neither place k o weak strong l w s = rw (w, s) (sym (append-nil l))

pub returns-else-strong-clause-stands : goal.returns-else-strong-clause-stands
returns-else-strong-clause-stands c = λ objects l h there. elim c.if-weak.branch [
  | then-weak w ↦
      let here = there (or_left c.args.weak c.args.strong w.if-weak.true) in
      subst (λ t. RecordsAre t objects (l ++ handshakes_for c.args.place c.args.index c.args.o (owed c.args.weak c.args.strong))) (sym w.records-is)
      (subst (RecordsAre w.push.new.self objects) (weak_alone c.args.place c.args.index c.args.o c.args.weak c.args.strong l _ w.if-weak.true c.if-strong.false w.handshake.ensures)
      (w.push.ensures.stands objects l (homed c.args.records.now objects l h _ _ _ c.args.o false w.handshake.ensures here) h))
  | else-weak w ↦ subst (λ t. RecordsAre t objects (l ++ handshakes_for c.args.place c.args.index c.args.o (owed c.args.weak c.args.strong))) (sym w.records-is)
      (subst (RecordsAre c.args.records.now objects) (neither c.args.place c.args.index c.args.o c.args.weak c.args.strong l w.if-weak.false c.if-strong.false) h)
]

two_more : (k next : ℕ) (weak strong : Bool) → weak ≡ true → strong ≡ true → next ≡ k + 1 → next + 1 ≡ k + length (owed weak strong)
two_more k next weak strong w s n = rw (w, s) (omega (arith, n))

one_more : (k next : ℕ) (weak strong : Bool) → weak ≡ false → strong ≡ true → next ≡ k → next + 1 ≡ k + length (owed weak strong)
one_more k next weak strong w s n = rw (w, s) (omega (arith, n))

pub returns-then-strong-clause-index : goal.returns-then-strong-clause-index
returns-then-strong-clause-index c = elim c.if-weak.branch [
  | then-weak w ↦ two_more c.args.index c.if-weak.next c.args.weak c.args.strong w.if-weak.true c.if-strong.true w.next-is
  | else-weak w ↦ one_more c.args.index c.if-weak.next c.args.weak c.args.strong w.if-weak.false c.if-strong.true w.next-is
]

pub returns-then-strong-clause-names : goal.returns-then-strong-clause-names
returns-then-strong-clause-names c = λ names h. c.push-then-strong.ensures.settled names
    (elim c.if-weak.branch [
      | then-weak w ↦ subst (λ t. Settled t names) (sym w.records-is) (w.push.ensures.settled names h)
      | else-weak w ↦ subst (λ t. Settled t names) (sym w.records-is) h
    ])

pub returns-then-strong-clause-uses : goal.returns-then-strong-clause-uses
returns-then-strong-clause-uses c = elim c.if-weak.branch [
  | then-weak w ↦ then_uses _ _ _ 0 1 0 0 1 0 (subst (λ t. Uses c.args.records.now t 0 1 0) (sym w.records-is) w.push.ensures.uses) c.push-then-strong.ensures.uses
  | else-weak w ↦ widened _ _ 0 1 0 2 (omega arith) (subst (λ t. Uses t c.push-then-strong.new.self 0 1 0) w.records-is c.push-then-strong.ensures.uses)
]

pub returns-else-strong-clause-names : goal.returns-else-strong-clause-names
returns-else-strong-clause-names c = λ names h. elim c.if-weak.branch [
  | then-weak w ↦ subst (λ t. Settled t names) (sym w.records-is) (w.push.ensures.settled names h)
  | else-weak w ↦ subst (λ t. Settled t names) (sym w.records-is) h
]

pub returns-else-strong-clause-uses : goal.returns-else-strong-clause-uses
returns-else-strong-clause-uses c = elim c.if-weak.branch [
  | then-weak w ↦ subst (λ t. Uses c.args.records.now t 0 2 0) (sym w.records-is) (widened _ _ 0 1 0 2 (omega arith) w.push.ensures.uses)
  | else-weak w ↦ subst (λ t. Uses c.args.records.now t 0 2 0) (sym w.records-is) (none_used c.args.records.now 0 2 0)
]
