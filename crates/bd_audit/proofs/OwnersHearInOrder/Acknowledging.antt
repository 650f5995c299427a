-- For OwnersHearInOrder: an accepted acknowledgement is of what was heard and not yet acknowledged.
use Rattle.bd_laws.proofs.words.Logic.{◌&&◌, ◌≡◌, ℕ, ◌+◌, suc, ◌≤◌, ◌==◌, Bool, true, false, cond, not, List, [], ◌∷◌, Some, Ok, inl, inr, refl, ap, sym, ◌∙◌, find, arith, list_any, eq-eqb}
use Rattle.bd_laws.proofs.words.Types.{DeadReply, Identity, Process, Actor, Object, Reference}
use mathlib.Core.Bool.{beq}
use Rattle.bd_laws.proofs.words.Space.{same, without_first, owe, ripen, follow, Space, actor, lives_in, is_shaking, is_handshake, closed, completed, done_check, acknowledge}
use Rattle.bd_space.specs.declared.space.WorkKind.TheVariants as work
use Rattle.bd_laws.proofs.words.Laws.{In, Before}
use Rattle.bd_laws.proofs.Lists.{without_in, any_in}
use Rattle.bd_laws.proofs.Tests.{and_then_ok, found_ok, unless_ok, when_none}
use Rattle.bd_laws.proofs.Machine.Adding.{told_keeps}
use Rattle.bd_laws.proofs.Machine.Settled.{settle_keeps}
use Rattle.bd_laws.proofs.Checks.{actor_acts}
use Rattle.bd_laws.proofs.KeptBefore.ObjectsKept.{and_false}
use Rattle.bd_audit.specs.Hearing.{Event, increfs_done, acquire_done}
use Rattle.bd_audit.proofs.OwnersHearInOrder.Orders.{Hearing, unheard, weakly, strongly, ended, hears_all}
use Rattle.bd_audit.proofs.OwnersHearInOrder.Tallies.{tally_without, tally_first}
use Rattle.bd_audit.proofs.OwnersHearInOrder.Telling.{tracks_weaker, follow_told}
use Rattle.bd_audit.proofs.OwnersHearInOrder.Tracking.{is_weak, is_strong, waits, number, shaken, Tells, Tracks, HeardBefore, tells_same, shaking_parts}
use Rattle.bd_audit.proofs.OwnersHearInOrder.Returns.{is_strength, at_each, shakes_object}

-- ---- what follows an accepted command

completed_told : (o : Identity) (st : Hearing) (z : Space) → Tracks ⊥ o st z → Tracks ⊥ o st (completed z)
unfolding completed closed owe ripen
completed_told o st z h =
    settle_keeps (Tracks ⊥ o st) (λ y f e k. told_keeps (Tracks ⊥ o st) (work.Verdict DeadReply) (λ z t h. h) (closed y f.made) f.caller k)
    (follow (ripen z)) (follow_told o st (ripen z) (tracks_weaker o st _ (ripen z) h))

-- ---- acknowledging

abbrev pub done_event : Bool → Event
done_event strong = cond strong acquire_done increfs_done

-- what was heard after the acknowledgement
record Answered (st : Hearing) (strong : Bool) : Type 0 where
  now : Hearing
  heard : hears_all st (done_event strong ∷ []) ≡ Some now
  weak : is_weak st ≡ is_weak now
  strong_too : is_strong st ≡ is_strong now
  less : (b : Bool) → number (waits st b) ≡ number (is_strength b strong) + number (waits now b)
  over : now ≡ ended → ⊥

answers : (st : Hearing) (strong : Bool) → waits st strong ≡ true → Answered st strong
answers unheard strong h = absurd (cc)
answers (weakly true) false h = record { now = weakly false; heard = refl; weak = refl; strong_too = refl; less = at_each _ (omega arith) (omega arith); over = λ e. absurd (cc) }
answers (weakly false) false h = absurd (cc)
answers (weakly i) true h = absurd (cc)
answers (strongly true a) false h = record { now = strongly false a; heard = refl; weak = refl; strong_too = refl; less = at_each _ (omega arith) (omega arith); over = λ e. absurd (cc) }
answers (strongly false a) false h = absurd (cc)
answers (strongly i true) true h = record { now = strongly i false; heard = refl; weak = refl; strong_too = refl; less = at_each _ (omega arith) (omega arith); over = λ e. absurd (cc) }
answers (strongly i false) true h = absurd (cc)
answers ended strong h = absurd (cc)

waits_true : (b : Bool) (n : ℕ) → suc n ≡ number b → b ≡ true
waits_true b n h = search arith

-- A Handshake reference of one strength isn't one of the other.
other_strength : (o : Identity) (r : Reference) (b : Bool) → is_shaking o (not b) r ≡ true → is_shaking o b r ≡ false
other_strength o r b h = search (arith, shaking_parts)

abbrev pub is_own_with : ℕ → ℕ → ℕ → Object → Bool
is_own_with p ptr cookie x = (x.owner == p) && (x.ptr == ptr) && (x.cookie == cookie)

pub done_checked : (s : Space) (p ptr cookie : ℕ) (strong : Bool) (y : Object) → done_check s p ptr cookie strong ≡ Ok y
    → (find (is_own_with p ptr cookie) s.objects ≡ Some y) × (list_any (is_shaking y.id strong) s.references ≡ true)
unfolding done_check
done_checked s p ptr cookie strong y h = search (arith, and_then_ok, unless_ok, when_none, found_ok)

pub actor_alive : (s : Space) (seat : ℕ) (a : Actor) → actor s seat ≡ Some a → lives_in s.processes a.process.made ≡ true
actor_alive s seat a e = any_in (λ (q : Process). q.made == a.process.made) a.process s.processes (actor_acts s seat a e).process (eq-eqb a.process.made a.process.made refl)

-- what is heard after these events, and the space z that they lead to
pub record HeardAfter (o : Identity) (st : Hearing) (n : ℕ) (events : List Event) (z : Space) : Type 0 where
  pub now : Hearing
  pub heard : hears_all st events ≡ Some now
  pub tracks : Tracks ⊥ o now z
  pub fresh : suc n ≤ o.place → now ≡ unheard

-- A step by which nothing is heard leaves what was heard, if it tracks the object still.
pub silent_after : (o : Identity) (st : Hearing) (s z : Space) → HeardBefore o st s → Tracks ⊥ o st z → HeardAfter o st s.steps [] z
silent_after o st s z h k = record { now = st; heard = refl; tracks = k; fresh = λ le. h.fresh (omega arith) }

module _ (o : Identity) (st : Hearing) (s : Space) (before : Before s) (h : HeardBefore o st s) where
  abbrev pub After : List Event → Space → Type 0
  After events z = HeardAfter o st s.steps events z

  -- an object of the space is older than the step
  older : (x : Object) → In x s.objects → x.id ≡ o → suc s.steps ≤ o.place → ⊥
  older x l e le = let lt = before.objects.kept.below x l in let place : x.id.place ≡ o.place = ap (λ (i : Identity). i.place) e in absurd (omega arith)

  -- the acknowledgement of another object changes nothing of this one
  pub other_done : (i : Identity) (strong : Bool) → (i ≡ o → ⊥) → Tracks ⊥ o st (acknowledge s i strong)
  unfolding acknowledge
  other_done i strong other x l e live =
      tells_same ⊥ ⊥ o s.references _ x st (record {
        shakes = λ b. tally_without (is_shaking o b) (is_shaking i strong) s.references (λ r k. shakes_object i strong r (λ f. other (sym f ∙ (shaking_parts o b r k).0)));
        manages = λ r m f g. without_in (is_shaking i strong) r s.references m (and_false (beq r.strong strong) (same r.object i) (is_handshake r.holder) (rw g refl));
      }) (λ n. n) (h.tracks x l e live)

  -- one Handshake of this strength less
  fewer : (b strong : Bool) → list_any (is_shaking o strong) s.references ≡ true
      → shaken s.references o b ≡ number (is_strength b strong) + shaken (without_first (is_shaking o strong) s.references) o b
  fewer true true any = let one = tally_first (is_shaking o true) s.references any in omega arith
  fewer false false any = let one = tally_first (is_shaking o false) s.references any in omega arith
  fewer true false any = let none = tally_without (is_shaking o true) (is_shaking o false) s.references (λ r. other_strength o r false) in omega arith
  fewer false true any = let none = tally_without (is_shaking o false) (is_shaking o true) s.references (λ r. other_strength o r true) in omega arith

  -- the acknowledgement of this object is one that was waited for
  pub own_done : (y : Object) (strong : Bool) → In y s.objects → y.id ≡ o → lives_in s.processes y.owner ≡ true → list_any (is_shaking o strong) s.references ≡ true
      → After (done_event strong ∷ []) (acknowledge s o strong)
  unfolding acknowledge
  own_done y strong l e live any = of (h.tracks y l e live) (tally_first (is_shaking o strong) s.references any)
    where
      of : Tells ⊥ s.references o y st → shaken s.references o strong ≡ suc (shaken (without_first (is_shaking o strong) s.references) o strong) → After (done_event strong ∷ []) (acknowledge s o strong)
      of (inl m) first = let none = m.shakes strong in absurd (omega arith)
      of (inr t) first =
          let a = answers st strong (waits_true (waits st strong) _ (sym first ∙ t.shakes strong)) in
          record {
            now = a.now;
            heard = a.heard;
            tracks = λ x k f alive. elim (h.tracks x k f alive) [
              | inl m ↦ (let none = m.shakes strong in absurd (omega arith))
              | inr u ↦ inr (record {
                weak = u.weak ∙ a.weak;
                strong = u.strong ∙ a.strong_too;
                shakes = λ b. let one = fewer b strong any in let was = u.shakes b in let less = a.less b in omega arith;
                over = a.over;
              })
            ];
            fresh = λ le. absurd (older y l e le);
          }

  pub completed_after : (events : List Event) (z : Space) → After events z → After events (completed z)
  completed_after events z k = record { now = k.now; heard = k.heard; tracks = completed_told o k.now z k.tracks; fresh = k.fresh }
