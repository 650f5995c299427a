use Rattle.bd_objects.proofs.Words.{Bool, Identity, Name, Records, Settled, Space, at_name, false, filter, is_named_in, names_go_of, not, refl, subst, true, ℕ, ◌||◌, ◌≡◌}
use Rattle.bd_objects.proofs.AtName.{all_go, all_stay, named_at}
use Rattle.bd_objects.proofs.table.ObjectTable.remove_unused_name.Goals as goal

-- the name stays or goes, and the others stay
left : (t : Records) (s : Space) (p : ℕ) (o : Identity) → (is_named_in s.objects s.references p o ≡ true → Settled t s.names)
    → (is_named_in s.objects s.references p o ≡ false → Settled t (filter (λ (m : Name). not (at_name p o m.process m.object)) s.names))
    → Settled t (filter (λ (m : Name). not (at_name p o m.process m.object) || is_named_in s.objects s.references m.process m.object) s.names)
left t s p o stays goes = by (is_named_in s.objects s.references p o) refl
  where
    mine : Name → Bool
    mine m = at_name p o m.process m.object

    named : Name → Bool
    named m = is_named_in s.objects s.references m.process m.object

    by : (b : Bool) → is_named_in s.objects s.references p o ≡ b → Settled t (filter (λ (m : Name). not (mine m) || named m) s.names)
    by true e = subst (Settled t) (all_stay mine named _ s.names e (named_at s.objects s.references p o _ refl)) (stays e)
    by false e = subst (Settled t) (all_go mine named _ s.names e (named_at s.objects s.references p o _ refl)) (goes e)

pub returns-clause-stands : goal.returns-clause-stands
unfolding names_go_of
returns-clause-stands c = λ s h. record {
  records_are = c.remove_unused_name.ensures.stands s.objects s.references h.records_are;
  names_are = left c.remove_unused_name.new.self s c.args.p c.args.o (λ e. c.remove_unused_name.ensures.stays s.objects s.references s.names h.records_are e h.names_are)
      (λ e. c.remove_unused_name.ensures.goes s.objects s.references s.names h.records_are e h.names_are);
  deaths_are = h.deaths_are;
}
