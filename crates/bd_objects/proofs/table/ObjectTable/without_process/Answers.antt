use Rattle.bd_objects.proofs.Words.{None, RecordsAre, list_of, subst, sym, window_list, without_process, ◌≡◌}
use Rattle.bd_objects.proofs.{Ending.{none_named}, Owned.{goes_with}}
use Rattle.bd_objects.proofs.table.ObjectTable.without_process.Goals as goal

pub returns-clause-stands : goal.returns-clause-stands
unfolding without_process
returns-clause-stands c = λ s h. record {
  records_are = subst (RecordsAre c.remove_process_names.new.self s.objects) (goes_with c.args.p s.objects s.references)
      (c.remove_process_names.ensures.stands s.objects _ (none_named c.args.p s.objects s.references)
      (c.remove_of_owned.ensures.stands s.objects _ (c.remove_with_process.ensures.stands s.objects s.references h.records_are)));
  names_are = c.remove_process_names.ensures.names s.names (c.remove_of_owned.ensures.settled s.names (c.remove_with_process.ensures.settled s.names h.names_are));
  deaths_are = c.remove_process.ensures.stands s.deaths h.deaths_are;
}

pub returns-clause-names : goal.returns-clause-names
returns-clause-names c = c.remove_process_names.ensures.gone

pub returns-clause-window : goal.returns-clause-window
returns-clause-window c = λ s h. subst (λ t. window_list t c.args.p ≡ None) (sym c.remove_process_names.ensures.held)
    (subst (λ t. window_list t c.args.p ≡ None) (sym c.remove_of_owned.ensures.held) (c.remove_with_process.ensures.gone s.objects s.references h.records_are))

pub returns-clause-buffers : goal.returns-clause-buffers
returns-clause-buffers c = λ s b h lies. subst (λ t. list_of t b ≡ None) (sym c.remove_process_names.ensures.held)
    (subst (λ t. list_of t b ≡ None) (sym c.remove_of_owned.ensures.held) (c.remove_with_process.ensures.buffers s.objects s.references b h.records_are lies))
