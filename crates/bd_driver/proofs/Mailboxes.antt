-- Mailboxes while the history grows.
use Rattle.bd_driver.proofs.{Places.{others_stay}, Views.{starts_longer}, Words.{AllBy, Answer, Back, BeginsWith, Done, Entry, Fits, HadReason, Handed, Handover, IsTold, List, Mailbox, MailboxFits, Open, Option, Outcome, Request, RunAt, View, Why, answered, ap, append_assoc, arith, empty, inl, inr, length, length-append, picked, places_of, posted, refl, shut, some, subst, sym, true, ℕ, ⊎_elim, ◌++◌, ◌+◌, ◌∙◌, ◌≡◌, ◌≢◌, ◌≤◌}}

pub run_longer : (seats : ℕ) (entries run : List Entry) (who : ℕ) (r : Request) (n : ℕ) (answer : Answer) (start end : ℕ) → RunAt seats entries who r n answer start end → RunAt seats (entries ++ run) who r n answer start end
run_longer seats entries run who r n answer start end h = record {
  before = h.before;
  run = h.run;
  after = h.after ++ run;
  parts = ap (λ l. l ++ run) h.parts ∙ append_assoc (h.before ++ h.run) h.after run;
  starts = h.starts;
  ends = h.ends;
  late = h.late;
  by_seat = h.by_seat;
  is_run = h.is_run;
}

pub longer : (entries run : List Entry) (n : ℕ) → n ≤ length entries → n ≤ length (entries ++ run)
longer entries run n h = let a = length-append entries run in omega arith

reason_longer : (seats : ℕ) (entries run : List Entry) (who : ℕ) (r : Request) (n : ℕ) (why : Why) → HadReason seats entries who r n why → HadReason seats (entries ++ run) who r n why
reason_longer seats entries run who r n why h = (h.0, starts_longer entries run h.0 h.1, h.2, h.3)

told_longer : (seats : ℕ) (entries run : List Entry) (who : ℕ) (r : Request) (n : ℕ) (o : Outcome) → IsTold seats entries who r n o → IsTold seats (entries ++ run) who r n o
told_longer seats entries run who r n (Done answer start end) h = run_longer seats entries run who r n answer start end h
told_longer seats entries run who r n (Back back why) h = (h.0, reason_longer seats entries run who r n why h.1)
told_longer seats entries run who r n Handed h = h

pub fits_longer : (seats : ℕ) (entries run : List Entry) (who : ℕ) (h : Handover) (b : Mailbox) → MailboxFits seats entries who h b → MailboxFits seats (entries ++ run) who h b
fits_longer seats entries run who h shut x = x
fits_longer seats entries run who h empty x = x
fits_longer seats entries run who h (posted r n) x = (x.0, longer entries run n x.1)
fits_longer seats entries run who h (picked r n start count) x =
    (x.0, longer entries run n x.1, ⊎_elim (λ e. inl e) (λ (y : (answer : Answer) × RunAt seats entries who r n answer start (start + count)). inr (y.0, run_longer seats entries run who r n y.0 start (start + count) y.1)) x.2)
fits_longer seats entries run who h (answered r n o) x = (x.0, told_longer seats entries run who r n o x.1)

-- a seat that has handed nothing over has an empty mailbox
pub open_mailbox : (seats : ℕ) (entries : List Entry) (who : ℕ) (h : Handover) (b : Mailbox) → MailboxFits seats entries who h b → h ≡ Open → b ≡ empty
open_mailbox seats entries who h shut x e = absurd (cc)
open_mailbox seats entries who h empty x e = refl
open_mailbox seats entries who h (posted r n) x e = let y = x.0 in absurd (cc)
open_mailbox seats entries who h (picked r n start count) x e = let y = x.0 in absurd (cc)
open_mailbox seats entries who h (answered r n o) x e = let y = x.0 in absurd (cc)

-- A view fits on after the run of another seat is published.
pub relog : (seats : ℕ) (entries : List Entry) (carrier : ℕ → ℕ) (taken_by now : Option ℕ) (mailboxes : List Mailbox) (id : ℕ) (v : View) (by : ℕ) (run more : List Entry)
    → more ≡ entries ++ run → AllBy by run → v.who ≢ by → Fits seats entries carrier taken_by mailboxes id v → (v.taker ≡ true → (now ≡ some id) × (v.seen ≡ more)) → Fits seats more carrier now mailboxes id v
relog seats entries carrier taken_by now mailboxes id v by run more is all apart f t = record {
  seats_are = f.seats_are;
  below = f.below;
  held = f.held;
  begins = subst (λ l. BeginsWith l v.seen) (sym is) (starts_longer entries run v.seen f.begins);
  mailbox = f.mailbox;
  has_mailbox = f.has_mailbox;
  fits_mailbox = subst (λ l. MailboxFits seats l v.who v.handover f.mailbox) (sym is) (fits_longer seats entries run v.who v.handover f.mailbox f.fits_mailbox);
  own = f.own ∙ (sym (others_stay v.who by entries run all apart) ∙ ap (places_of v.who) (sym is));
  takes = t;
  picks = f.picks;
  idle = f.idle;
}
