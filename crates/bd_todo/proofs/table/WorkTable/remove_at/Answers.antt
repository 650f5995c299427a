use Rattle.std.proofs.Common.{refl, sym, subst, ◌∙◌}
use Rattle.bd_space.specs.Todo.{same_list}
use Rattle.bd_chains.proofs.Listing.{dropped_shows}
use Rattle.bd_chains.specs.Rows.{drop_key}
use Rattle.bd_todo.specs.{Heads.{head_at}, Rows.{works}, QueuesStand.{list_of, keeps}, Registered.{Registered}}
use Rattle.bd_todo.proofs.Rows.{work_is, count_dropped, none_dropped}
use Rattle.bd_todo.proofs.table.WorkTable.remove_at.Goals as goal

pub returns-in-Some-clause-rows : goal.returns-in-Some-clause-rows
returns-in-Some-clause-rows c = λ rs h.
    let t = c.args.self.now.queues in
    let here = sym (work_is t rs h.shows c.args.x) ∙ sym c.remove.ensures.gone ∙ c.in-Some.is in
    record {
      shows = dropped_shows list_of keeps same_list (head_at t.numbers) (head_at t.numbers) t.chains c.remove.new.self c.args.x c.remove.ensures.stands c.remove.ensures.open (λ l. refl) rs h.shows;
      registered = c.remove-in-Some.ensures.stands (works rs) (works (drop_key c.args.x rs)) (λ p. count_dropped c.args.x c.in-Some.work p rs h.shows.holds.apart here) h.registered;
    }

pub returns-in_default-clause-rows : goal.returns-in_default-clause-rows
returns-in_default-clause-rows c = λ rs h.
    let t = c.args.self.now.queues in
    let none = sym (work_is t rs h.shows c.args.x) ∙ sym c.remove.ensures.gone ∙ c.in_default.is in
    record {
      shows = dropped_shows list_of keeps same_list (head_at t.numbers) (head_at t.numbers) t.chains c.remove.new.self c.args.x c.remove.ensures.stands c.remove.ensures.open (λ l. refl) rs h.shows;
      registered = subst (λ ss. Registered c.args.self.now.register (works ss)) (sym (none_dropped c.args.x rs none)) h.registered;
    }
