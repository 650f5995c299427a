-- For NamesHaveGiftChains: what a step's new names rest on.
use Rattle.bd_laws.proofs.words.Logic.{arith, ◌≡◌, ℕ, ◌==◌, Bool, true, false, not, List, [], ◌∷◌, ◌++◌, Option, Some, Ok, inl, inr, refl, ap, sym, subst, ◌∙◌, is_some, option_map, eq-eqb}
use Rattle.bd_laws.proofs.words.Types.{TransactionData, Identity, Parcel, Step, Actor, Frame, Asked, Name, OfThread}
use Rattle.bd_laws.proofs.words.Space.{Space, actor, reference_of, number_in, assign_numbers, owe, closed, ripen, Delivery, delivered, transaction_check, transacted, called, call_out, with_looping, reply_check, replied, without_buffer, ask_check, ask, drop_asked, acknowledge, thread_goes, threads_go, without_process, read_by, change, is_spam}
use Rattle.bd_space.specs.declared.space.WorkKind.TheVariants as work
use Rattle.bd_laws.specs.Lists.{In}
use Rattle.bd_laws.proofs.Lists.{in_filter, find_some}
use Rattle.bd_laws.proofs.Tests.{and_both, eq_same}
use Rattle.bd_laws.proofs.Machine.EveryEnding.{IsAsking, set_up_beside}
use Rattle.bd_laws.proofs.Machine.Adding.{told_keeps}
use Rattle.bd_laws.proofs.Machine.EveryStep.{Keeps, every_step}
use Rattle.bd_laws.proofs.Sendings.{HasName, sending_sends}
use Rattle.bd_laws.proofs.Checks.{transaction_checked, reply_checked, asked_checked}
use Rattle.bd_laws.proofs.KeptBefore.ObjectsKept.{closed_sends}
use Rattle.bd_laws.proofs.Machine.Deaths.{KeptOnDeaths, on_kept, on_told, on_commands}
use Rattle.bd_audit.proofs.NamesHaveGiftChains.NewNames.{Naming, new_name, delivered_naming, follow_naming}
use Rattle.bd_laws.proofs.Machine.Following.{threads_keep}

-- ---- the changes

called_naming : (s : Space) (seat : ℕ) (x : Step) (z : Space) (t p : ℕ) (one_way : Bool) → Naming s seat x z → Naming s seat x (called z t p one_way)
unfolding call_out owe
called_naming s seat x z t p true h = h
called_naming s seat x z t p false h = h

transacted_naming : (s : Space) (seat : ℕ) (x : Step) (a : Actor) (d : TransactionData) (parcel : Option Parcel) (v : Delivery) → actor s seat ≡ Some a → transaction_check s a d parcel ≡ Ok v
    → Naming s seat x (transacted s a d v)
unfolding transacted owe
transacted_naming s seat x a d parcel v acts check =
    called_naming s seat x (owe (delivered s a d v) (OfThread a.thread.seat) (work.Complete (is_spam (delivered s a d v) a v))) a.thread.seat v.receiver.made v.one_way
    (delivered_naming s s.frames seat x a d v acts (sending_sends s a.process.made d parcel v.sending (transaction_checked s a d parcel v check).sends))

replied_naming : (s : Space) (seat : ℕ) (x : Step) (a : Actor) (d : TransactionData) (parcel : Option Parcel) (f : Frame) (v : Delivery) → actor s seat ≡ Some a → reply_check s a d parcel f ≡ Ok v
    → Naming s seat x (replied s a d f v)
unfolding replied owe closed
replied_naming s seat x a d parcel f v acts check =
    told_keeps (Naming s seat x) (work.Reply s.steps) (λ z t h. h) (owe (delivered (closed s f.made) a d v) (OfThread a.thread.seat) (work.Complete false)) f.caller
    (delivered_naming s (closed s f.made).frames seat x a d v acts
    (closed_sends s f.made a.process.made v.sending.made v.sending.items (sending_sends s a.process.made d parcel v.sending (reply_checked s a d parcel f v check).sends)))

pub is_some_map : {A B : Type 0} (f : A → B) (o : Option A) → is_some (option_map f o) ≡ is_some o
is_some_map f o = search arith

pub has_number : (names : List Name) (p : ℕ) (o : Identity) → HasName names p o → is_some (number_in names p o) ≡ true
has_number names p o h = search (arith, is_some_map, find_some, and_both, eq-eqb, eq_same)

ask_naming : (s : Space) (seat : ℕ) (x : Step) (a : Actor) (n : ℕ) (strong : Bool) (o : Identity) → actor s seat ≡ Some a → IsAsking x n strong → ask_check s a.process.made n strong ≡ Ok o
    → Naming s seat x (ask s a.process.made o strong)
unfolding ask assign_numbers
ask_naming s seat x a n strong o acts asks check =
    λ m i. elim (new_name s.manager s.objects (s.references ++ reference_of s.steps 0 o strong (Asked a.process.made) ∷ []) a.process.made s.names o m i) [
      | inl k ↦ inl k
      | inr k ↦ elim (asked_checked s a.process.made n strong o check) [
        | inl g ↦ inr (inr (record {
          by = a;
          strong = strong;
          acts = acts;
          asks = subst (λ j. IsAsking x j strong) g.0 asks;
          process = sym k.0;
          manager = g.1 ∙ ap (λ y. Some y) (sym k.1);
          check = subst (λ j. ask_check s a.process.made j strong ≡ Ok m.object) g.0 (check ∙ ap (λ y. Ok y) (sym k.1));
          buffers = refl;
        }))
        | inr g ↦ (let yes = has_number s.names a.process.made o g in let none = k.2 in absurd (cc))
      ]
    ]

-- ---- names that go

left_names : (s : Space) (p : ℕ) (m : Name) → In m (without_process (threads_go s p) p).names → In m s.names
unfolding thread_goes without_process
left_names s p m i =
    threads_keep (λ z. (m : Name) → In m z.names → In m s.names) (λ z seat h. h) s p (λ n k. k) m (in_filter (λ (m : Name). not (m.process == p)) m (threads_go s p).names i).0

-- ---- every step

module _ (s : Space) (seat : ℕ) (x : Step) where
  deaths_naming : KeptOnDeaths (Naming s seat x)
  unfolding owe
  deaths_naming = record { others = λ z ds h. h; dies = λ z p made h. h; clears = λ z t cookie h. h }

  naming_step : Keeps s seat x (Naming s seat x) (Naming s seat x)
  unfolding without_buffer drop_asked acknowledge with_looping read_by thread_goes ripen closed owe
  naming_step = record {
    set_up = set_up_beside s seat (Naming s seat x) (λ qs ts os rs k m i. inl i);
    changes = record {
      transacts = λ a d parcel v e i t. transacted_naming s seat x a d parcel v i t;
      replies = λ a d parcel f v e i g t. replied_naming s seat x a d parcel f v i t;
      frees = λ p ptr b e t m i. inl i;
      asks = λ a n strong o e i t. ask_naming s seat x a n strong o e i t;
      drops = λ p o strong m i. inl i;
      acknowledges = λ o strong k m i. inl i;
      loops = λ a looping e m i. inl i;
      on_deaths = on_commands s (Naming s seat x) (on_kept (Naming s seat x) deaths_naming s (λ m i. inl i));
      reads = λ a limit e k n m i. inl i;
      leaves = λ a e m i. inl i;
      ends = λ a e. on_told (Naming s seat x) deaths_naming (without_process (threads_go s a.process.made) a.process.made) a.process.made (λ m i. inl (left_names s a.process.made m i));
      ripens = λ z h. h;
    };
    follows = follow_naming s seat x;
    closes = λ z made h. h;
    refuses = λ z t r h. h;
    tells = λ z t r h. h;
  }

-- what the names after a step rest on
pub step_naming : (s : Space) (seat : ℕ) (x : Step) → Naming s seat x (change s seat x).space
step_naming s seat x = every_step s seat x (Naming s seat x) (Naming s seat x) (naming_step s seat x)
