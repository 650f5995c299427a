-- For TurnsAreTaken and TurnsTellOfCalls: the turns of an object as its log, and what becomes of their buffers.
use Rattle.bd_laws.proofs.words.Logic.{◌≡◌, ℕ, ◌<◌, Bool, true, false, ◌&&◌, List, Option, Some, None, ◌⊎◌, inl, inr, refl, sym, subst, ◌∙◌, arith, is_some, eqb-true, eq-eqb}
use Rattle.bd_laws.proofs.words.Types.{Identity, Object, Buffer}
use Rattle.bd_laws.proofs.words.Space.{Space, is_made_at}
use Rattle.bd_laws.proofs.words.Laws.{In, Pairs, On, Before}
use Rattle.bd_laws.proofs.Lists.{any_found, any_in}
use Rattle.bd_laws.proofs.Tests.{both, and_both}
use Rattle.bd_laws.proofs.IsInTurn.InTurn.{Turning}
use Rattle.bd_laws.proofs.IsInTurn.Passed.{Lives, Became, Ended, Passed}
use Rattle.bd_laws.proofs.IsInTurn.Received.{owner_before, on_before, one_buffer}
use Rattle.bd_audit.specs.declared.turns.Turn.{Turn}
use Rattle.bd_audit.specs.TurnSearch.{is_live, is_handed, noted_at}
use Rattle.bd_audit.specs.TurnCalls.{IsTakenBefore}

-- ---- the turns of an object

-- no live process owns the object, and none of its one-way calls has a buffer
pub record Over (o : Identity) (s : Space) : Type 0 where
  pub old : o.place < s.steps
  pub owner : (x : Object) → In x s.objects → x.id ≡ o → Lives s.processes x.owner → ⊥
  pub none : (b : Buffer) → In b s.buffers → On o b → ⊥

-- the turn's buffer lives
pub record Open (o : Identity) (t : Turn) (s : Space) (b : Buffer) : Type 0 where
  pub here : In b s.buffers
  pub made : b.made ≡ t.made
  pub on : On o b
  pub handed : b.handed ≡ is_some t.handed

pub record InOrder (t u : Turn) : Type 0 where
  pub earlier : t.made < u.made
  pub taken : IsTakenBefore t u

pub record Past (n : ℕ) (t : Turn) : Type 0 where
  pub made : t.made < n
  pub handed : (p : ℕ) → t.handed ≡ Some p → p < n
  pub ended : (p : ℕ) → t.ended ≡ Some p → p < n

pub record Logged (o : Identity) (ts : List Turn) (s : Space) : Type 0 where
  pub past : (t : Turn) → In t ts → Past s.steps t
  pub live : (t : Turn) → In t ts → t.ended ≡ None → (b : Buffer) × Open o t s b
  pub gone : (t : Turn) → In t ts → (p : ℕ) → t.ended ≡ Some p → (b : Buffer) → In b s.buffers → b.made ≡ t.made → ⊥
  pub over : (t : Turn) → In t ts → (p : ℕ) → t.ended ≡ Some p → t.handed ≡ None → Over o s
  pub order : Pairs InOrder ts

pub live_found : (buffers : List Buffer) (made : ℕ) → is_live buffers made ≡ true → (c : Buffer) × In c buffers × (c.made ≡ made)
live_found buffers made h = let c = any_found (is_made_at made) buffers h in (c.0, c.1, eqb-true c.0.made made c.2)

pub live_in : (buffers : List Buffer) (c : Buffer) (made : ℕ) → In c buffers → c.made ≡ made → is_live buffers made ≡ true
live_in buffers c made i e = any_in (is_made_at made) c buffers i (eq-eqb c.made made e)

pub handed_found : (buffers : List Buffer) (made : ℕ) → is_handed buffers made ≡ true → (c : Buffer) × In c buffers × (c.made ≡ made) × (c.handed ≡ true)
handed_found buffers made h = search (arith, any_found, both, eqb-true)

pub handed_in : (buffers : List Buffer) (c : Buffer) (made : ℕ) → In c buffers → c.made ≡ made → c.handed ≡ true → is_handed buffers made ≡ true
handed_in buffers c made i e t = any_in (λ b. is_made_at made b && b.handed) c buffers i (and_both (is_made_at made c) c.handed (eq-eqb c.made made e) t)

-- what was noted now, or before
pub noted_some : (o : Option ℕ) (n : ℕ) (now : Bool) (p : ℕ) → noted_at o n now ≡ Some p → (o ≡ Some p) ⊎ ((o ≡ None) × (now ≡ true) × (p ≡ n))
noted_some o n now p h = search arith

pub noted_none : (o : Option ℕ) (n : ℕ) (now : Bool) → noted_at o n now ≡ None → (o ≡ None) × (now ≡ false)
noted_none o n now h = search arith

pub noted_kept : (o : Option ℕ) (n : ℕ) (now : Bool) (p : ℕ) → o ≡ Some p → noted_at o n now ≡ Some p
noted_kept o n now p h = rw h refl

pub some_case : (o : Option ℕ) → (o ≡ None) ⊎ ((p : ℕ) × (o ≡ Some p))
some_case None = inl refl
some_case (Some p) = inr (p, refl)

pub never : (o : Option ℕ) → ((p : ℕ) → o ≡ Some p → ⊥) → o ≡ None
never None h = refl
never (Some p) h = absurd (h p refl)

pub ever : (o : Option ℕ) → (o ≡ None → ⊥) → (p : ℕ) × (o ≡ Some p)
ever None h = absurd (h refl)
ever (Some p) h = (p, refl)

module _ (s z : Space) (h : Before s) (turns : Turning z) (p : Passed s z) (o : Identity) where
  -- the buffer of a turn that was open, after the step
  pub stays_open : (b c : Buffer) → In b s.buffers → In c z.buffers → c.made ≡ b.made → Became s b c
  stays_open b c i j e = elim (p.from c j) [
    | inl d ↦ subst (λ x. Became s x c) (one_buffer s h.turns d.0 b d.1 i (sym d.2.made ∙ e)) d.2
    | inr n ↦ (let lt = h.turns.below b i in let m = n.made in absurd (omega arith))
  ]

  pub over_after : Over o s → Over o z
  over_after k = record {
    old = let lt = k.old in let e = p.steps in omega arith;
    owner = λ x i e l.
        let w = owner_before s z h p o x k.old i e in
        elim (p.processes l.0 l.1) [
          | inl j ↦ k.owner w.0 w.1 w.2 (j.0, j.1, j.2 ∙ l.2 ∙ sym w.3)
          | inr n ↦ (let lt = h.received.owners w.0 w.1 in let a = w.3 in let m = l.2 in absurd (omega arith))
        ];
    none = λ c i on. elim (p.from c i) [
      | inl b ↦ k.none b.0 b.1 (on_before s o b.0 c b.2 on)
      | inr n ↦ (let x = n.owned o on in k.owner x.0 x.1 x.2 x.4)
    ];
  }

  -- a receiver that ends takes all one-way calls on its objects along
  pub ended_over : (b : Buffer) → In b s.buffers → On o b → Ended z b.receiver → Over o z
  ended_over b i on k = record {
    old = let lt = h.received.old o b i on in let e = p.steps in omega arith;
    owner = λ x j e l.
        let w = owner_before s z h p o x (h.received.old o b i on) j e in
        k.process (l.0, l.1, l.2 ∙ sym w.3 ∙ h.received.own o b w.0 i on w.1 w.2);
    none = λ c j onc. elim (p.from c j) [
      | inl d ↦ k.buffers c j (d.2.receiver ∙ h.received.one o d.0 b d.1 i (on_before s o d.0 c d.2 onc) on)
      | inr n ↦ (let x = n.owned o onc in k.buffers c j (sym x.3 ∙ h.received.own o b x.0 i on x.1 x.2))
    ];
  }
