-- For the laws of turns and for RepliesReachTheirCallers: the work items of a one-way call, through the parts of a step that
-- make none: what goes, and what ripens.
use Rattle.bd_laws.proofs.words.Logic.{◌≡◌, ℕ, ◌<◌, ◌==◌, Bool, true, false, cond, not, List, [], ◌∷◌, ◌++◌, Option, Some, ◌⊎◌, inl, inr, refl, ap, sym, subst, ◌∙◌, arith, list_any, count_by, eqb-true, eq-eqb}
use Rattle.bd_laws.proofs.words.Types.{TransactionData, Identity, Parcel, Step, Command, Entry, Buffer, Turn, Work, OfProcess}
use Rattle.bd_laws.proofs.words.Space.{same, Space, with_work, is_call, hands_out, turn_of, turns_of, is_ripe, ripened, ripen, is_one_way, without_buffer, is_made_at, thread_goes, without_process}
use Rattle.bd_uapi.specs.declared.command.Command.TheVariants as bc
use Rattle.bd_space.specs.declared.space.WorkKind.TheVariants as work
use Rattle.bd_laws.proofs.words.Laws.{In, IsInTurn, On}
use Rattle.bd_laws.proofs.Lists.{in_push, in_filter, filter_in, in_filter_map, any_in}
use Rattle.bd_laws.proofs.Tests.{not_true, ripe_parts}
use Rattle.bd_laws.proofs.IsInTurn.Ripening.{turn_parts}
use Rattle.bd_laws.proofs.IsInTurn.Passing.{lost_on, not_on}
use Rattle.bd_laws.proofs.IsInTurn.Received.{one_buffer}
use Rattle.bd_audit.specs.Replies.{items_taken}
use Rattle.bd_audit.specs.TurnCalls.{CallsOneWay}

-- ---- the item of one call

-- the item hands the buffer made at m over
abbrev pub Hands : ℕ → List Work → Work → Type 0
Hands m todo w = In w todo × (hands_out w.kind ≡ Some m)

-- the buffer made at m waits to be read, on its receiver's list
pub record Unread (m : ℕ) (buffers : List Buffer) (w : Work) : Type 0 where
  pub buffer : Buffer
  pub here : In buffer buffers
  pub made : buffer.made ≡ m
  pub handed : buffer.handed ≡ false
  pub list : w.list ≡ OfProcess buffer.receiver

-- the item that hands the buffer made at m over is one, and a call
pub record DueOnce (m : ℕ) (buffers : List Buffer) (todo : List Work) : Type 0 where
  pub one : (v w : Work) → Hands m todo v → Hands m todo w → v ≡ w
  pub call : (w : Work) → Hands m todo w → is_call m w.kind ≡ true
  pub unread : (w : Work) → Hands m todo w → Unread m buffers w

-- nothing hands over yet what a step makes
pub fresh_once : (s : Space) → IsInTurn s → (m : ℕ) → m ≡ s.steps → DueOnce m s.buffers s.todo
fresh_once s turns m is = record {
  one = λ v w i j. absurd (none v i);
  call = λ w i. absurd (none w i);
  unread = λ w i. absurd (none w i);
}
  where
    none : (w : Work) → Hands m s.todo w → ⊥
    none w i = let lt = turns.fresh m (w, i.0, i.1) in omega arith

-- a one-way transaction
abbrev pub IsOneWay : Step → Type 0
IsOneWay x = (d : TransactionData) × (parcel : Option Parcel) × (x ≡ Command (bc.Transaction d) parcel) × (is_one_way d ≡ true)

abbrev pub HandedBefore : Space → ℕ → Type 0
HandedBefore s m = (b : Buffer) × In b s.buffers × (b.made ≡ m) × (b.handed ≡ true)

-- What the step of an entry makes of the buffer made at m and its item: the item stays one, also if the step makes the
-- buffer, provided that this isn't a two-way call's or a reply's; a buffer that is handed out was so before, or its call is
-- among the items that the step takes; and a one-way call's buffer that the step makes tells what the step is.
pub record Treated (s : Space) (e : Entry) (m : ℕ) (buffers : List Buffer) (todo : List Work) : Type 0 where
  pub once : (m < s.steps) ⊎ IsOneWay e.step → DueOnce m buffers todo
  pub handed : (c : Buffer) → In c buffers → c.made ≡ m → c.handed ≡ true
      → HandedBefore s m ⊎ (list_any (λ w. is_call m w.kind) (items_taken s e.seat e.step) ≡ true)
  pub made : (o : Identity) (c : Buffer) → In c buffers → c.made ≡ s.steps → On o c → CallsOneWay s e o

abbrev pub Treats : Space → Entry → ℕ → Space → Type 0
Treats s e m z = Treated s e m z.buffers z.todo

-- ---- parts that leave the buffers, and no more items that hand over

module _ (s : Space) (e : Entry) (m : ℕ) where
  -- what is due was due, and its buffer stays
  pub once_less : (bs cs : List Buffer) (more todo : List Work) → ((w : Work) → Hands m more w → In w todo)
      → ((w : Work) → Hands m more w → (u : Unread m bs w) → In u.buffer cs) → DueOnce m bs todo → DueOnce m cs more
  once_less bs cs more todo due stay h = record {
    one = λ v w i j. h.one v w (due v i, i.1) (due w j, j.1);
    call = λ w i. h.call w (due w i, i.1);
    unread = λ w i. let u = h.unread w (due w i, i.1) in record { buffer = u.buffer; here = stay w i u; made = u.made; handed = u.handed; list = u.list };
  }

  pub treats_less : (bs cs : List Buffer) (more todo : List Work) → ((c : Buffer) → In c cs → In c bs) → ((w : Work) → Hands m more w → In w todo)
      → (DueOnce m bs todo → (w : Work) → Hands m more w → (u : Unread m bs w) → In u.buffer cs) → Treated s e m bs todo → Treated s e m cs more
  treats_less bs cs more todo had due stay h = record {
    once = λ fits. let k = h.once fits in once_less bs cs more todo due (stay k) k;
    handed = λ c i. h.handed c (had c i);
    made = λ o c i. h.made o c (had c i);
  }

  pub treats_same : (bs cs : List Buffer) (more todo : List Work) → cs ≡ bs → ((w : Work) → Hands m more w → In w todo) → Treated s e m bs todo → Treated s e m cs more
  treats_same bs cs more todo same due h = treats_less bs cs more todo (λ c i. subst (In c) same i) due (λ k w i u. subst (In u.buffer) (sym same) u.here) h

  -- ---- what goes

  pub gone_buffer : (b : Buffer) → IsInTurn s → In b s.buffers → b.handed ≡ true → Treats s e m s → Treats s e m (without_buffer s b.made)
  unfolding without_buffer
  gone_buffer b turns here handed h =
      treats_less s.buffers _ s.todo s.todo (λ c i. (in_filter stays c s.buffers i).0) (λ w i. i.0)
      (λ k w i u. filter_in stays u.buffer s.buffers u.here (other u.buffer u.here u.handed (is_made_at b.made u.buffer) refl)) h
    where
      stays : Buffer → Bool
      stays c = not (is_made_at b.made c)

      other : (c : Buffer) → In c s.buffers → c.handed ≡ false → (t : Bool) → is_made_at b.made c ≡ t → not t ≡ true
      other c i unhanded t f = search (arith, one_buffer, here, eqb-true)

  pub gone_thread : (z : Space) (seat : ℕ) → Treats s e m z → Treats s e m (thread_goes z seat)
  unfolding thread_goes
  gone_thread z seat h = search (arith, treats_less, in_filter, filter_in, lost_on, not_on)

  pub gone_process : (z : Space) (p : ℕ) → Treats s e m z → Treats s e m (without_process z p)
  unfolding without_process
  gone_process z p h = search (arith, treats_less, in_filter, filter_in, not_true, eq-eqb, eqb-true)

  -- ---- ripening

  module _ (bs : List Buffer) (place : ℕ) where
    -- one call that ripens, with its buffer
    ripens_once : (todo : List Work) (older : List Turn) (t : Turn) → ((b : Buffer) × In b bs × (turn_of b ≡ Some t)) → is_ripe todo older t ≡ true → DueOnce m bs todo
        → DueOnce m bs (with_work place todo (OfProcess t.receiver) (work.Call t.made))
    ripens_once todo older t own ripe h = record {
      one = λ v w i j. elim (pushed v i) [
        | inl k ↦ elim (pushed w j) [ inl l ↦ h.one v w k l | inr y ↦ absurd (none v k y.1) ]
        | inr x ↦ elim (pushed w j) [ inl l ↦ absurd (none w l x.1) | inr y ↦ sym x.0 ∙ y.0 ]
      ];
      call = λ w i. elim (pushed w i) [ inl k ↦ h.call w k | inr x ↦ ap (λ (v : Work). is_call m v.kind) (sym x.0) ∙ eq-eqb t.made m x.1 ];
      unread = λ w i. elim (pushed w i) [
        | inl k ↦ h.unread w k
        | inr x ↦ (let p = turn_parts own.0 t own.2 in record {
          buffer = own.0;
          here = own.1;
          made = sym p.0 ∙ x.1;
          handed = sym p.2 ∙ parts.0;
          list = sym (ap (λ (v : Work). v.list) x.0) ∙ ap OfProcess p.1;
        })
      ];
    }
      where
        parts : (t.handed ≡ false) × (list_any (λ (w : Work). is_call t.made w.kind) todo ≡ false)
        parts = ripe_parts t.handed (list_any (λ (u : Turn). same u.target t.target) older) (list_any (λ (w : Work). is_call t.made w.kind) todo) ripe

        new : Work
        new = record { id = record { place = place; index = count_by (λ (w : Work). w.id.place == place) todo }; list = OfProcess t.receiver; kind = work.Call t.made }

        pushed : (w : Work) → Hands m (todo ++ new ∷ []) w → Hands m todo w ⊎ ((new ≡ w) × (t.made ≡ m))
        pushed w i = elim (in_push w new todo i.0) [
          | inl k ↦ inl (k, i.1)
          | inr is ↦ inr (is, (let k : Some t.made ≡ Some m = ap (λ (x : Work). hands_out x.kind) is ∙ i.1 in cc))
        ]

        none : (v : Work) → Hands m todo v → t.made ≡ m → ⊥
        none v i is = search (arith, any_in, parts)

    ripens_if : (b : Bool) (todo : List Work) (older : List Turn) (t : Turn) → ((b : Buffer) × In b bs × (turn_of b ≡ Some t)) → is_ripe todo older t ≡ b → DueOnce m bs todo
        → DueOnce m bs (cond b (with_work place todo (OfProcess t.receiver) (work.Call t.made)) todo)
    ripens_if b todo older t own ripe h = search (arith, ripens_once)

    ripens_all : (ts : List Turn) (todo : List Work) (older : List Turn) → ((t : Turn) → In t ts → (b : Buffer) × In b bs × (turn_of b ≡ Some t)) → DueOnce m bs todo
        → DueOnce m bs (ripened place older todo ts)
    ripens_all [] todo older own h = h
    ripens_all (t ∷ ts) todo older own h =
        ripens_all ts _ (older ++ t ∷ []) (λ u i. own u (inr i)) (ripens_if (is_ripe todo older t) todo older t (own t (inl refl)) refl h)

  pub ripens : (z : Space) → Treats s e m z → Treats s e m (ripen z)
  unfolding ripen
  ripens z h = record {
    once = λ fits. ripens_all z.buffers z.steps (turns_of z.buffers) z.todo [] (λ t i. in_filter_map turn_of t z.buffers i) (h.once fits);
    handed = h.handed;
    made = h.made;
  }
