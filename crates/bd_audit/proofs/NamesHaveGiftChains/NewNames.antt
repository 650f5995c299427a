-- For NamesHaveGiftChains: names that come, and what comes later in the step.
use Rattle.bd_laws.proofs.words.Logic.{fold, arith, filter, ◌≡◌, ℕ, ◌+◌, Bool, false, cond, not, ◌&&◌, List, [], ◌∷◌, ◌++◌, Option, Some, Ok, ◌⊎◌, inl, inr, refl, ap, sym, subst, ◌∙◌, map, is_some}
use Rattle.bd_laws.proofs.words.Types.{TransactionData, Identity, Step, Actor, Frame, Process, Object, Reference, Buffer, Carried, Name, Item, is_strong_kind}
use Rattle.bd_laws.proofs.words.Space.{Space, actor, reference_of, stays_in, objects_go, is_named_in, number_in, free_number, with_name, assign_numbers, names_go, follow, notify, work_goes, deaths_go, Delivery, delivered, buffer_of, own_notices, add_buffer, with_carried, refer, make_objects, buffer_references, object_of_item, ask_check}
use Rattle.bd_laws.specs.Lists.{In}
use Rattle.bd_laws.proofs.Lists.{in_right, in_push, in_last, in_filter, filter_in, in_map}
use Rattle.bd_laws.proofs.Tests.{both, not_true}
use Rattle.bd_laws.proofs.Machine.EveryEnding.{IsAsking}
use Rattle.bd_laws.proofs.Sendings.{Owns, HasName, Sent, Sends}
use Rattle.bd_laws.proofs.Objects.{stays}

-- the name is new, since the acting process sent the object on
pub record Handed (s : Space) (seat : ℕ) (m : Name) (objects : List Object) (references : List Reference) (buffers : List Buffer) : Type 0 where
  pub by : Actor
  pub acts : actor s seat ≡ Some by
  pub has : Owns objects by.process.made m.object ⊎ HasName s.names by.process.made m.object
  pub carried : (r : Reference) × In r references × (r.object ≡ m.object) × (r.holder ≡ Carried s.steps m.process)
  pub buffer : (b : Buffer) × In b buffers × (b.made ≡ s.steps)

-- or since its process asked for the context manager's object, by which no buffer is made
pub record AskedFor (s : Space) (seat : ℕ) (x : Step) (m : Name) (left : List Buffer) : Type 0 where
  pub by : Actor
  pub strong : Bool
  pub acts : actor s seat ≡ Some by
  pub asks : IsAsking x 0 strong
  pub process : by.process.made ≡ m.process
  pub manager : s.manager ≡ Some m.object
  pub check : ask_check s by.process.made 0 strong ≡ Ok m.object
  pub buffers : left ≡ s.buffers

abbrev pub ByHand : Space → ℕ → Name → Space → Type 0
ByHand s seat m z = Handed s seat m z.objects z.references z.buffers

abbrev pub ByAsking : Space → ℕ → Step → Name → Space → Type 0
ByAsking s seat x m z = AskedFor s seat x m z.buffers

abbrev pub Given : Space → ℕ → Step → Space → Name → Type 0
Given s seat x z m = In m s.names ⊎ (ByHand s seat m z ⊎ ByAsking s seat x m z)

abbrev pub Naming : Space → ℕ → Step → Space → Type 0
Naming s seat x z = (m : Name) → In m z.names → Given s seat x z m

-- ---- names that come

module _ (manager : Option Identity) (objects : List Object) (references : List Reference) (p : ℕ) where
  one_name : (b : Bool) (names : List Name) (o : Identity) (m : Name) → (is_named_in objects references p o && not (is_some (number_in names p o))) ≡ b
      → In m (cond b (names ++ record { process = p; number = free_number manager names p o; object = o } ∷ []) names)
      → In m names ⊎ ((m.process ≡ p) × (m.object ≡ o) × (is_some (number_in names p o) ≡ false))
  one_name b names o m e i = search (arith, in_push, not_true, both)

  pub new_name : (names : List Name) (o : Identity) (m : Name) → In m (with_name manager objects references p names o)
      → In m names ⊎ ((m.process ≡ p) × (m.object ≡ o) × (is_some (number_in names p o) ≡ false))
  new_name names o m i = one_name (is_named_in objects references p o && not (is_some (number_in names p o))) names o m refl i

  pub new_names : (os : List Identity) (names : List Name) (m : Name) → In m (fold (with_name manager objects references p) names os) → In m names ⊎ ((m.process ≡ p) × In m.object os)
  new_names [] names m i = inl i
  new_names (o ∷ os) names m i = elim (new_names os (with_name manager objects references p names o) m i) [
    | inl k ↦ elim (new_name names o m k) [ inl j ↦ inl j | inr n ↦ inr (n.0, inl (sym n.1)) ]
    | inr k ↦ inr (k.0, inr k.1)
  ]

pub carried_reference : (b q : ℕ) (items : List Item) (target : Option Identity) (k : ℕ) (i : Item) → In i items
    → (r : Reference) × In r (buffer_references b q k items target) × (r.object ≡ i.object) × (r.holder ≡ Carried b q)
carried_reference b q [] target k i l = absurd l
carried_reference b q (x ∷ xs) target k i (inl e) =
    (reference_of b k x.object (is_strong_kind x.flat.kind) (Carried b q), inl refl, ap (λ (y : Item). y.object) e, refl)
carried_reference b q (x ∷ xs) target k i (inr l) = let r = carried_reference b q xs target (k + 1) i l in (r.0, inr r.1, r.2, r.3)

-- what is delivered from the space, or from it after a frame closed
pub delivered_naming : (s : Space) (frames : List Frame) (seat : ℕ) (x : Step) (a : Actor) (d : TransactionData) (v : Delivery) → actor s seat ≡ Some a
    → Sends (record s { frames = frames }) a.process.made v.sending.made v.sending.items → Naming s seat x (delivered (record s { frames = frames }) a d v)
unfolding delivered own_notices add_buffer with_carried assign_numbers refer make_objects
delivered_naming s frames seat x a d v acts sends =
    let y = record s { frames = frames } in
    λ m i. elim (new_names s.manager (s.objects ++ v.sending.made) (s.references ++ buffer_references s.steps v.receiver.made 0 v.sending.items v.target) v.receiver.made
    (map object_of_item v.sending.items) s.names m i) [
      | inl k ↦ inl k
      | inr k ↦ (
          let item = in_map object_of_item m.object v.sending.items k.1 in
          let r = carried_reference s.steps v.receiver.made v.sending.items v.target 0 item.0 item.1 in
          inr (inl (record {
            by = a;
            acts = acts;
            has = subst (Sent y a.process.made v.sending.made) item.2 (sends.sent item.0 item.1);
            carried = (r.0, in_right r.0 s.references (buffer_references s.steps v.receiver.made 0 v.sending.items v.target) r.1, r.2 ∙ item.2, r.3 ∙ ap (λ q. Carried s.steps q) (sym k.0));
            buffer = (buffer_of (with_carried y v) a d v, in_last (buffer_of (with_carried y v) a d v) s.buffers, refl);
          })))
    ]

-- ---- what comes later

owner_stays : (processes : List Process) (objects : List Object) (references : List Reference) (p : ℕ) (o : Identity) (r : Reference) → In r references → r.object ≡ o → Owns objects p o
    → Owns (filter (stays_in processes references) objects) p o
owner_stays processes objects references p o r l e h =
    (h.0, filter_in (stays_in processes references) h.0 objects h.1 (stays processes references h.0 r l (h.2 ∙ sym e)), h.2, h.3)

objects_go_naming : (s : Space) (seat : ℕ) (x : Step) (z : Space) → Naming s seat x z → Naming s seat x (objects_go z)
unfolding objects_go
objects_go_naming s seat x z h =
    λ m i. elim (h m i) [
      | inl k ↦ inl k
      | inr k ↦ inr (elim k [
        | inl g ↦ inl (record {
          by = g.by;
          acts = g.acts;
          has = elim g.has [ inl o ↦ inl (owner_stays z.processes z.objects z.references g.by.process.made m.object g.carried.0 g.carried.1 g.carried.2 o) | inr n ↦ inr n ];
          carried = g.carried;
          buffer = g.buffer;
        })
        | inr g ↦ inr g
      ])
    ]

pub follow_naming : (s : Space) (seat : ℕ) (x : Step) (z : Space) → Naming s seat x z → Naming s seat x (follow z)
unfolding follow names_go notify work_goes deaths_go objects_go
follow_naming s seat x z h =
    objects_go_naming s seat x (names_go z) (λ m i. h m (in_filter (λ (m : Name). is_named_in z.objects z.references m.process m.object) m z.names i).0)
