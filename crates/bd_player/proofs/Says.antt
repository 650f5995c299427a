-- What a line says of what the desk answered.
use Rattle.std.proofs.Common.{◌≡◌, ◌≢◌, inl, inr, ℕ, ◌+◌, ◌<◌, List, [], ◌++◌, refl, sym, ◌∙◌, ap, subst, arith, append_assoc, append-nil}
use Rattle.bd_space.specs.declared.step.Entry.{Entry}
use Rattle.bd_space.specs.declared.step.Request.{Request}
use Rattle.bd_driver.specs.declared.view.View.{View}
use Rattle.bd_driver.specs.declared.page.Page.{Page}
use Rattle.bd_driver.specs.declared.outcome.Outcome.{Outcome}
use Rattle.bd_driver.specs.declared.outcome.Outcome.TheVariants as outcome
use Rattle.bd_driver.specs.declared.outcome.Why.TheVariants as why
use Rattle.bd_space.specs.Histories.{BeginsWith}
use Rattle.bd_driver.specs.Driver.{LooksOnce, Calls}
use Rattle.bd_player.specs.Workers.{SaysCall, Tries, Waits, said_of}

-- what began with what was seen begins with what was seen before
further : (p q r : List Entry) → BeginsWith q p → BeginsWith r q → BeginsWith r p
further p q r h i = (h.0 ++ i.0, i.1 ∙ (ap (λ (x : List Entry). x ++ i.0) h.1 ∙ append_assoc p h.0 i.0))

pub none_tried : (v : View) → Tries 0 v v
none_tried v = record {
  who = (refl, refl);
  takes = omega arith;
  no_look = refl;
  no_mail = (refl, refl, refl, refl, refl, refl);
  no_opening = (refl, refl);
  no_engine = (refl, refl);
  handover = refl;
  begins = ([], sym (append-nil v.seen));
  own = refl;
}

pub tried : (n : ℕ) (v u w : View) (r back : Request) → Tries n v u → Calls u w r (outcome.Back back why.Taken) → Tries (n + 1) v w
tried n v u w r back t h = record {
  who = (h.who.0 ∙ t.who.0, h.who.1 ∙ t.who.1);
  takes = omega (arith, t.takes, h.one_take);
  no_look = h.no_look ∙ t.no_look;
  no_mail = (h.no_mail.0 ∙ t.no_mail.0, h.no_mail.1 ∙ t.no_mail.1, h.no_mail.2 ∙ t.no_mail.2, h.no_mail.3 ∙ t.no_mail.3, h.no_mail.4 ∙ t.no_mail.4, h.no_mail.5 ∙ t.no_mail.5);
  no_opening = (h.no_opening.0 ∙ t.no_opening.0, h.no_opening.1 ∙ t.no_opening.1);
  no_engine = (h.page.0 ∙ t.no_engine.0, h.page.1 ∙ t.no_engine.1);
  handover = h.handover ∙ t.handover;
  begins = further v.seen u.seen w.seen t.begins h.begins;
  own = h.outcome.1 ∙ t.own;
}

pub answered : (n : ℕ) (v u w : View) (r s : Request) (turns : ℕ) (o : Outcome) → n < turns → Tries n v u → s ≡ r → ((back : Request) → o ≢ outcome.Back back why.Taken) → Calls u w s o → SaysCall v w r turns (said_of o)
answered n v u w r s turns o below t same free h = by o free (subst (λ (x : Request). Calls u w x o) same h)
  where
    by : (o : Outcome) → ((back : Request) → o ≢ outcome.Back back why.Taken) → Calls u w r o → SaysCall v w r turns (said_of o)
    by (outcome.Done answer start end) free h = (n, u, below, t, h)
    by (outcome.Back back reason) free h = (n, u, below, t, (λ e. free back (ap (outcome.Back back) e)), (back, h))
    by outcome.Handed free h = absurd h.outcome

pub none_awaited : (v : View) (stamp : ℕ) → Waits 0 stamp v v
none_awaited v stamp = record {
  only = refl;
  count = omega arith;
  begins = ([], sym (append-nil v.seen));
  early = inl refl;
}

pub awaited : (n : ℕ) (v u w : View) (stamp : ℕ) (page : Page) → Waits n stamp v u → LooksOnce u w page → page.stamp < stamp → Waits (n + 1) stamp v w
awaited n v u w stamp page t h before = record {
  only = ap (λ (x : View). record x { seen = w.seen; looks = w.looks }) h.only ∙ ap (λ (x : View). record x { seen = w.seen; looks = w.looks }) t.only;
  count = omega (arith, t.count, ap (λ (x : View). x.looks.count) h.only);
  begins = further v.seen u.seen w.seen t.begins h.begins;
  early = inr (omega (arith, before, h.is_page.0));
}
