-- For the engine, by FollowingIsLocal: what the delivery of a BC_TRANSACTION may rest on; and where nothing is touched
-- nothing follows.
use Rattle.bd_laws.proofs.words.Logic.{arith, ◌≡◌, ℕ, ◌==◌, Bool, true, false, ◌&&◌, List, [], ◌∷◌, ◌++◌, Option, Some, None, Ok, ◌⊎◌, inl, inr, refl, ap, filter, list_any, option_to_list}
use Rattle.bd_laws.proofs.words.Types.{TransactionData, FlatObject, Identity, Parcel, Object, DeathNotification, Item, Resolved, Actor, WorkKind}
use Rattle.bd_laws.proofs.words.Space.{Space, strongly_named, Sending, resolve, new_object, sending_of, Delivery, transaction_check, target_of, ObjectTest, no_name, objects_of_items, is_touched, names_go_of, objects_go_of, deaths_go_of, work_goes_of, notify_of, follow_of}
use Rattle.bd_space.specs.declared.space.WorkKind.TheVariants as work
use Rattle.bd_ways.proofs.Ranges.{all_stay}
use Rattle.bd_laws.proofs.words.Laws.{In, KeptBefore}
use Rattle.bd_laws.proofs.Lists.{in_last, in_push, in_append, any_found, any_in}
use Rattle.bd_laws.proofs.Tests.{and_both, eq_same, and_then_ok, found_ok, unless_ok}
use Rattle.bd_laws.proofs.Sendings.{sending_sends, sending_keeps, resolved_by}
use Rattle.bd_laws.proofs.Checks.{transaction_checked}
use Rattle.bd_laws.proofs.NothingIsPending.Quiet.{any_more}
use Rattle.bd_laws.proofs.FollowingIsLocal.Sent.{Delivers}

-- ---- nothing is touched

filter_none : {A : Type 0} (p : A → Bool) (xs : List A) → ((x : A) → p x ≡ false) → filter p xs ≡ []
filter_none p [] h = refl
filter_none p (x ∷ xs) h = rw (h x) (filter_none p xs h)

no_death : (deaths : List DeathNotification) (n : ℕ) → list_any (λ (x : DeathNotification). (x.made == n) && no_name x.process x.object) deaths ≡ false
no_death [] n = refl
no_death (x ∷ xs) n = search (arith, no_death xs n)

module _ (b : ObjectTest) (none : (o : Identity) → b o ≡ false) where
  untouched : (deaths : List DeathNotification) (kind : WorkKind) → is_touched no_name b deaths kind ≡ false
  untouched deaths (work.Notice o) = none o
  untouched deaths (work.Death n) = no_death deaths n
  untouched deaths _ = refl

  pub follow_none : (z : Space) → follow_of no_name b z ≡ z
  unfolding follow_of notify_of names_go_of objects_go_of deaths_go_of work_goes_of
  follow_none z = search (arith, all_stay, untouched, filter_none)

-- ---- what is made is sent

resolve_made : (s : Space) (p : ℕ) (made : List Object) (x : FlatObject) (r : Resolved) → resolve s p made x ≡ Ok r → (o : Object) → r.new ≡ Some o → r.object ≡ o.id
resolve_made s p made x r h =
    resolved_by s p made x (λ own q. (o : Object) → q.new ≡ Some o → q.object ≡ o.id)
    (λ none o e. let is : new_object s.steps p made x ≡ o = cc in ap (λ (z : Object). z.id) is) (λ y e o f. absurd (cc)) (λ i n o f. absurd (cc)) r h

abbrev MadeSent : List Object → List Item → Type 0
MadeSent made items = (x : Object) → In x made → objects_of_items items x.id ≡ true

option_in : (made : List Object) (o : Option Object) (x : Object) → In x (made ++ option_to_list o) → In x made ⊎ (o ≡ Some x)
option_in made None x l = elim (in_append x made [] l) [ inl i ↦ inl i | inr none ↦ absurd none ]
option_in made (Some y) x l = elim (in_push x y made l) [ inl i ↦ inl i | inr is ↦ inr (ap (λ z. Some z) is) ]

pub sending_made_sent : (s : Space) (p : ℕ) (d : TransactionData) (parcel : Option Parcel) (v : Sending) → sending_of s p d parcel ≡ Ok v → MadeSent v.made v.items
sending_made_sent s p d parcel v h = sending_keeps s p MadeSent (λ x l. absurd l) (search (arith, option_in, any_more, any_in, in_last, eq_same, resolve_made)) d parcel v h

-- ---- whom is called is held strongly

pub transaction_delivers : (s : Space) (a : Actor) (d : TransactionData) (parcel : Option Parcel) (v : Delivery) → KeptBefore s → transaction_check s a d parcel ≡ Ok v → Delivers s v
unfolding target_of strongly_named
transaction_delivers s a d parcel v kept check =
    let t = transaction_checked s a d parcel v check in
    let sends = sending_sends s a.process.made d parcel v.sending t.sends in
    record {
      sent = sending_made_sent s a.process.made d parcel v.sending t.sends;
      new = sends.makes.place;
      target = λ o e. search (arith, and_then_ok, unless_ok, and_both, eq_same, found_ok, any_found, any_in);
    }
