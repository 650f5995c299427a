-- For RepliesAreHandedOut and StreamsSpellTheirItems: what a refusal or a verdict tells its reader is never a BR_REPLY.
use Rattle.bd_laws.proofs.words.Logic.{arith, ◌≡◌, ℕ, Bool, true, false, not, List, [], ◌∷◌, ◌++◌, Option, Some, None, inl, inr, refl, ap, sym, ◌∙◌}
use Rattle.bd_laws.proofs.words.Types.{TransactionData, DeadReply, FailedReply, TransactionComplete, Cause, Step, Entry, Frame, Work, Actor, OfThread, WorkKind}
use Rattle.bd_laws.proofs.words.Space.{Space, opening, owe, closed, Delivery, delivered, add_buffer, call_out, refusal, replied, reply_refused, read_by, counted, after, next}
use Rattle.bd_space.specs.declared.space.WorkKind.TheVariants as work
use Rattle.bd_laws.specs.Lists.{In}
use Rattle.bd_laws.proofs.Machine.EveryStep.{KeepsWhole, every_whole_step, every_list}
use Rattle.bd_laws.proofs.Lists.{in_push, in_filter}
use Rattle.bd_laws.proofs.Machine.Adding.{told_keeps}
use Rattle.bd_audit.specs.HandedReplies.{is_reply}
use Rattle.bd_laws.proofs.Machine.Table.{Table, Listing, Between, listing_table, listing_exits, set_up_by, changes_by, sent_by, transacted_by, ripen_by, followed_by}

-- a return that the item itself carries is no BR_REPLY
abbrev pub is_plain : WorkKind → Bool
is_plain (work.Refusal r) = not (is_reply r)
is_plain (work.Verdict r) = not (is_reply r)
is_plain _ = true

abbrev pub Plain : List Work → Type 0
Plain todo = (w : Work) → In w todo → is_plain w.kind ≡ true

abbrev pub IsPlain : Space → Type 0
IsPlain z = Plain z.todo

refusal_plain : (c : Cause) → is_plain (work.Refusal (refusal c)) ≡ true
refusal_plain c = search arith

-- ---- one item more, and fewer

push_plain : (todo : List Work) (x : Work) → is_plain x.kind ≡ true → Plain todo → Plain (todo ++ x ∷ [])
push_plain todo x k h w l = elim (in_push w x todo l) [ inl i ↦ h w i | inr is ↦ ap (λ (y : Work). is_plain y.kind) (sym is) ∙ k ]

-- one list of items is plain if the other is
abbrev Kept : List Work → List Work → Type 0
Kept xs ys = Plain ys → Plain xs

abbrev Allowed : WorkKind → Type 0
Allowed kind = is_plain kind ≡ true

listing : Listing Kept Allowed
listing = search (arith, push_plain, in_filter)

abbrev Keeping : Space → Space → Type 0
Keeping = Between Kept Allowed listing

table : Table Keeping Allowed
table = listing_table Kept Allowed listing

-- a frame closes, and its caller is told
closes : (z : Space) (f : Frame) (kind : WorkKind) → is_plain kind ≡ true → IsPlain z
    → IsPlain (elim f.caller as (λ (o : Option ℕ). Space) [ None ↦ closed z f.made | Some t ↦ owe (closed z f.made) (OfThread t) kind ])
unfolding closed
closes z f kind k = told_keeps IsPlain kind (λ z t. table.owes z (OfThread t) kind k) (closed z f.made) f.caller

-- ---- transactions and replies

replies : (s : Space) (a : Actor) (d : TransactionData) (f : Frame) (v : Delivery) → IsPlain s → IsPlain (replied s a d f v)
unfolding replied closed add_buffer
replies s a d f v h =
    let x = closed s f.made in
    told_keeps IsPlain (work.Reply s.steps) (λ z t. table.owes z (OfThread t) (work.Reply s.steps) refl) (owe (delivered x a d v) (OfThread a.thread.seat) (work.Complete false)) f.caller
    (sent_by Keeping Allowed table (λ z o. listing.fewer _ z.todo) (λ z b k. k) (λ spam. refl) x a d v false h)

-- ---- every step

kept : (s : Space) (seat : ℕ) (x : Step) → IsPlain s → KeepsWhole s seat x IsPlain IsPlain
unfolding read_by add_buffer call_out owe reply_refused
kept s seat x h = record {
  set_up = set_up_by Keeping Allowed table s seat x IsPlain (λ z k. k h);
  changes = changes_by Keeping Allowed table s seat x IsPlain (λ z k. k h) (listing_exits Kept Allowed listing) (record {
    transacts = λ a d parcel v e i t. transacted_by Keeping Allowed table (λ z o. listing.fewer _ z.todo) (λ z b k. k) (λ spam. refl) (λ z seat p. push_plain z.todo _ refl) s a d v h;
    replies = λ a d parcel f v e i g t. replies s a d f v h;
    reads = λ a limit e i n. listing.fewer _ s.todo h;
    ripens = ripen_by Keeping Allowed table (λ made. refl);
  });
  follows = followed_by Keeping Allowed table;
  refuses = λ t c. table.owes s (OfThread t) (work.Refusal (refusal c)) (refusal_plain c) h;
  fails = λ a d parcel f e i g.
      closes (owe s (OfThread a.thread.seat) (work.Refusal TransactionComplete)) f (work.Verdict FailedReply) refl
      (table.owes s (OfThread a.thread.seat) (work.Refusal TransactionComplete) refl h);
  abandons = λ z f e. closes z f (work.Verdict DeadReply) refl;
}

step_plain : (s : Space) (e : Entry) → IsPlain s → IsPlain (next s e)
unfolding counted
step_plain s e h = every_whole_step s e.seat e.step IsPlain IsPlain (kept s e.seat e.step h)

pub always_plain : (es : List Entry) → IsPlain (after opening es)
always_plain es = every_list IsPlain step_plain es opening (λ w l. absurd l)
