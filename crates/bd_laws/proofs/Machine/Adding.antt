-- For every law: what stays true while a part of a step adds work items one by one: the test is said of the list, and kept
-- by each item.
use Rattle.bd_laws.proofs.words.Types.{Identity, Item, Process, Object, Reference, Turn, Work, WorkKind, TodoList, OfThread, OfProcess, is_own}
use Rattle.bd_laws.proofs.words.Space.{Space, with_work, owe, is_notice, turns_of, is_ripe, ripened, ripen, wants_notice, has_notice_in, with_notice, notify, object_in, own_notices, add_notice, withdraw_notice}
use Rattle.std.proofs.Common.{arith, ◌≡◌, ℕ, Bool, true, false, cond, not, List, [], ◌∷◌, ◌++◌, Option, Some, None, filter}
use Rattle.bd_space.specs.declared.space.WorkKind.TheVariants as work
use Rattle.bd_laws.specs.Lists.{In}
use Rattle.bd_laws.proofs.Lists.{fold_keeps}

-- a caller that is there is told
pub told_keeps : (R : Space → Type 0) (kind : WorkKind) → ((z : Space) (t : ℕ) → R z → R (owe z (OfThread t) kind))
    → (z : Space) (caller : Option ℕ) → R z → R (elim caller as (λ (o : Option ℕ). Space) [ None ↦ z | Some t ↦ owe z (OfThread t) kind ])
told_keeps R kind k z caller h = search arith

-- a Notice of it is wanted, and missing
abbrev pub Missing : List Process → List Reference → List Work → Object → Type 0
Missing processes references todo x = (wants_notice processes references x ≡ true) × (has_notice_in todo x.id ≡ false)

module _ (P : List Work → Type 0) where
  if_keeps : (b : Bool) (todo more : List Work) → (b ≡ true → P todo → P more) → P todo → P (cond b more todo)
  if_keeps b todo more k h = search arith

  pub notice_keeps : (place : ℕ) (processes : List Process) (references : List Reference) (list : TodoList) (todo : List Work) (x : Object)
      → (Missing processes references todo x → P todo → P (with_work place todo list (work.Notice x.id))) → P todo → P (with_notice place processes references list todo x)
  notice_keeps place processes references list todo x k = search arith

  pub notify_keeps : (z : Space) → ((todo : List Work) (x : Object) → In x z.objects → Missing z.processes z.references todo x → P todo → P (with_work z.steps todo (OfProcess x.owner) (work.Notice x.id)))
      → P z.todo → P (notify z).todo
  unfolding notify
  notify_keeps z k h =
      fold_keeps P (λ todo (x : Object). with_notice z.steps z.processes z.references (OfProcess x.owner) todo x) z.objects
      (λ todo x l. notice_keeps z.steps z.processes z.references (OfProcess x.owner) todo x (k todo x l)) z.todo h

  module _ (place : ℕ) (k : (todo : List Work) (t : Turn) → P todo → P (with_work place todo (OfProcess t.receiver) (work.Call t.made))) where
    ripened_keeps : (ts older : List Turn) (todo : List Work) → P todo → P (ripened place older todo ts)
    ripened_keeps [] older todo h = h
    ripened_keeps (t ∷ ts) older todo h = ripened_keeps ts (older ++ t ∷ []) _ (if_keeps (is_ripe todo older t) todo (with_work place todo (OfProcess t.receiver) (work.Call t.made)) (λ e. k todo t) h)

  pub ripen_keeps : (z : Space) → ((todo : List Work) (t : Turn) → P todo → P (with_work z.steps todo (OfProcess t.receiver) (work.Call t.made))) → P z.todo → P (ripen z).todo
  unfolding ripen
  ripen_keeps z k h = ripened_keeps z.steps k (turns_of z.buffers) [] z.todo h

  pub own_notices_keeps : (z : Space) (seat : ℕ) (items : List Item) → ((todo : List Work) (o : Identity) → P todo → P (filter (λ (w : Work). not (is_notice o w.kind)) todo))
      → ((todo : List Work) (x : Object) → Missing z.processes z.references todo x → P todo → P (with_work z.steps todo (OfThread seat) (work.Notice x.id))) → P z.todo → P (own_notices z seat items).todo
  unfolding own_notices
  own_notices_keeps z seat items takes makes h =
      fold_keeps P (add_notice z seat) items (λ todo i l. made (is_own i.flat.kind) (object_in z.objects i.object) todo) _
      (fold_keeps P (withdraw_notice z.objects) items (λ todo i l. if_keeps _ todo (filter (λ (w : Work). not (is_notice i.object w.kind)) todo) (λ e. takes todo i.object)) z.todo h)
    where
      made : (own : Bool) (f : Option Object) (todo : List Work) → P todo
          → P (cond own (elim f as (λ (f : Option Object). List Work) [ None ↦ todo | Some x ↦ with_notice z.steps z.processes z.references (OfThread seat) todo x ]) todo)
      made own f todo k = search (arith, notice_keeps)
