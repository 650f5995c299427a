use Rattle.bd_objects.proofs.Words.{Identity, List, Records, RecordsAre, Reference, Space, WorkKind, [], ap, append-nil, arith, handshakes_of, length, refl, subst, sym, ℕ, ◌++◌, ◌+◌, ◌∙◌, ◌≡◌}
use Rattle.bd_objects.proofs.{Holding.{handshakes_notice}, Spent.{none_used}}
use Rattle.bd_space.specs.declared.space.WorkKind.TheVariants as work
use Rattle.bd_objects.proofs.reading.add_handshakes_of.Goals as goal

pub returns-clause-stands : goal.returns-clause-stands
returns-clause-stands c = λ s l at alike h.
    let all = handshakes_notice s l c.args.place c.args.index c.in-Notice.o c.args.kind _ c.in-Notice.is at alike (c.acknowledgements-weak.ensures.owed s.objects l h) in (
      subst (λ rs. RecordsAre c.add_acknowledgements.new.records s.objects (l ++ rs)) all.0
          (c.add_acknowledgements.ensures.stands s.objects l h (c.acknowledgements-weak.ensures.here s.objects l h)),
      c.add_acknowledgements.ensures.index ∙ ap (λ k. c.args.index + k) all.1,
    )

-- nothing else is acknowledged
none_owed : (s : Space) (k : ℕ) (kind : WorkKind) → ((o : Identity) → kind ≡ work.Notice o → ⊥) → [] ≡ handshakes_of s k kind
none_owed s k (work.Notice o) other = absurd (other o refl)
none_owed s k _ other = refl

as_before : (t : Records) (s : Space) (l more : List Reference) (k : ℕ) → [] ≡ more → RecordsAre t s.objects l → RecordsAre t s.objects (l ++ more) × (k ≡ k + length more)
as_before t s l more k none h = subst (λ (rs : List Reference). RecordsAre t s.objects (l ++ rs) × (k ≡ k + length rs)) none (subst (RecordsAre t s.objects) (sym (append-nil l)) h, omega arith)

pub returns-in_default-clause-stands : goal.returns-in_default-clause-stands
returns-in_default-clause-stands c = λ s l at alike h.
    as_before c.args.records.now s l (handshakes_of s c.args.index c.args.kind) c.args.index (none_owed s c.args.index c.args.kind c.in_default.not-Notice) h

pub returns-in_default-clause-names : goal.returns-in_default-clause-names
returns-in_default-clause-names c = λ names h. h

pub returns-in_default-clause-index : goal.returns-in_default-clause-index
returns-in_default-clause-index c = omega arith

pub returns-in_default-clause-uses : goal.returns-in_default-clause-uses
returns-in_default-clause-uses c = none_used c.args.records.now 0 2 0
