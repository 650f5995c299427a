-- For SpacesAreTidy (its part Received): the living one-way calls on an object have one receiver, the object's owner. The
-- laws of turns and others use its lemmas on buffers before and after a step.
use Rattle.bd_laws.proofs.words.Types.{Identity, Entry, Object, Buffer}
use Rattle.bd_laws.proofs.words.Space.{Space, opening, change, counted, next}
use Rattle.std.proofs.Common.{◌≡◌, ℕ, ◌<◌, inl, inr, ap, sym, ◌∙◌, arith}
use Rattle.bd_laws.proofs.words.Laws.{In, IsInTurn, On, Received, KeptBefore, Before}
use Rattle.bd_laws.proofs.Lists.{pairs_either}
use Rattle.bd_laws.proofs.IsInTurn.InTurn.{step_in_turn}
use Rattle.bd_laws.proofs.Objects.{step_kept}
pub use Rattle.bd_laws.proofs.IsInTurn.Ripening.{one_made}
use Rattle.bd_laws.proofs.IsInTurn.Passing.{step_passes}
use Rattle.bd_laws.proofs.IsInTurn.Passed.{Lives, Became, Passed}

-- ---- an object's one-way calls have one receiver

pub on_before : (s : Space) (o : Identity) (b c : Buffer) → Became s b c → On o c → On o b
on_before s o b c k on = (sym k.one_way ∙ on.0, sym k.target ∙ on.1)

pub on_after : (s : Space) (o : Identity) (b c : Buffer) → Became s b c → On o b → On o c
on_after s o b c k on = (k.one_way ∙ on.0, k.target ∙ on.1)

pub one_object : (s : Space) → KeptBefore s → (x y : Object) → In x s.objects → In y s.objects → x.id ≡ y.id → x ≡ y
one_object s h x y i j e = search (arith, pairs_either)

pub one_buffer : (s : Space) → IsInTurn s → (b c : Buffer) → In b s.buffers → In c s.buffers → b.made ≡ c.made → b ≡ c
one_buffer s h b c i j e = one_made s.steps s.buffers s.todo h b c i j e

module _ (s z : Space) (h : Before s) (p : Passed s z) where
  -- the owner of an object that was there
  abbrev pub WasOwned : Identity → ℕ → Type 0
  WasOwned o q = (x : Object) × In x s.objects × (x.id ≡ o) × (x.owner ≡ q)

  below : (o : Identity) (q : ℕ) → WasOwned o q → o.place < s.steps
  below o q w = let lt = h.objects.kept.below w.0 w.1 in let e : w.0.id.place ≡ o.place = ap (λ (i : Identity). i.place) w.2 in omega arith

  same_owner : (o : Identity) (q r : ℕ) → WasOwned o q → WasOwned o r → q ≡ r
  same_owner o q r v w = search (arith, one_object)

  -- an object of before this step was there before it
  pub owner_before : (o : Identity) (x : Object) → o.place < s.steps → In x z.objects → x.id ≡ o → WasOwned o x.owner
  owner_before o x lt i e = elim (p.objects x i) [
    | inl y ↦ (y.0, y.1, sym y.2 ∙ e, sym y.3)
    | inr n ↦ (let at = n.0 in let f : x.id.place ≡ o.place = ap (λ (k : Identity). k.place) e in absurd (omega arith))
  ]

  old_before : (o : Identity) (c : Buffer) → In c z.buffers → On o c → o.place < s.steps
  old_before o c i on = elim (p.from c i) [
    | inl b ↦ h.received.old o b.0 b.1 (on_before s o b.0 c b.2 on)
    | inr n ↦ (let x = n.owned o on in below o c.receiver (x.0, x.1, x.2, x.3))
  ]

  own_after : (o : Identity) (c : Buffer) (x : Object) → In c z.buffers → On o c → In x z.objects → x.id ≡ o → x.owner ≡ c.receiver
  own_after o c x i on j e =
      let w = owner_before o x (old_before o c i on) j e in
      elim (p.from c i) [
        | inl b ↦ sym w.3 ∙ h.received.own o b.0 w.0 b.1 (on_before s o b.0 c b.2 on) w.1 w.2 ∙ sym b.2.receiver
        | inr n ↦ (let y = n.owned o on in same_owner o x.owner c.receiver w (y.0, y.1, y.2, y.3))
      ]

  one_after : (o : Identity) (c d : Buffer) → In c z.buffers → In d z.buffers → On o c → On o d → c.receiver ≡ d.receiver
  one_after o c d i j on ond = elim (p.from c i) [
    | inl b ↦ elim (p.from d j) [
      | inl e ↦ b.2.receiver ∙ h.received.one o b.0 e.0 b.1 e.1 (on_before s o b.0 c b.2 on) (on_before s o e.0 d e.2 ond) ∙ sym e.2.receiver
      | inr n ↦ (let y = n.owned o ond in b.2.receiver ∙ sym (h.received.own o b.0 y.0 b.1 (on_before s o b.0 c b.2 on) y.1 y.2) ∙ y.3)
    ]
    | inr m ↦ (let x = m.owned o on in elim (p.from d j) [
      | inl e ↦ sym x.3 ∙ h.received.own o e.0 x.0 e.1 (on_before s o e.0 d e.2 ond) x.1 x.2 ∙ sym e.2.receiver
      | inr n ↦ (let y = n.owned o ond in same_owner o c.receiver d.receiver (x.0, x.1, x.2, x.3) (y.0, y.1, y.2, y.3))
    ])
  ]

  lives_before : (q : ℕ) → Lives s.processes q → q < s.steps
  lives_before q l = search arith

  pub received_after : Received (counted z)
  unfolding counted
  received_after =
      let steps = p.steps in
      record {
        lists = p.lists;
        own = own_after;
        one = one_after;
        old = λ o c i on. let lt = old_before o c i on in omega arith;
        born = λ q i. elim (p.processes q i) [ inl k ↦ (let lt = lives_before q.made k in omega arith) | inr e ↦ omega arith ];
        owners = λ x i. elim (p.objects x i) [
          | inl y ↦ (let lt = h.received.owners y.0 y.1 in let e = y.3 in omega arith)
          | inr n ↦ (let lt = lives_before x.owner n.1 in omega arith)
        ];
      }

pub step_before : (s : Space) (e : Entry) → Before s → Before (next s e)
step_before s e h = record {
  turns = step_in_turn s e h.turns;
  objects = step_kept s e h.objects;
  received = received_after s (change s e.seat e.step).space h (step_passes s e h.turns h.received.lists).passed;
}

pub opening_before : Before opening
opening_before = search arith
