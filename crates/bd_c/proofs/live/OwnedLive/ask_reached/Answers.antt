use Rattle.std.proofs.Common.{refl, ap, ◌∙◌}
use Rattle.bd_engine.specs.Reached.{is_among}
use Rattle.bd_c.proofs.live.OwnedLive.ask_reached.Goals as goal

pub returns-in-Ok : goal.returns-in-Ok
returns-in-Ok c =
    let lists = ap (λ v. v.items) c.swap.ensures.x_after in
    record {
      only = record {
        latest = refl;
        seats = c.in-Ok.ensures.seats;
        ended = refl;
        notes = record { noted = refl; changed = refl };
        follows = c.in-Ok.ensures.follows;
        waits = refl;
        watches = λ h w. record {
          follows = record { follows = c.in-Ok.ensures.follows h w.follows.follows; recalls = λ _. c.in-Ok.ensures.afresh h w.follows.follows };
          watched = w.watched;
        };
      };
      whole = c.in-Ok.ensures.whole;
      exact = λ all before h k follows list. ap (λ ls. is_among ls list) lists ∙ c.in-Ok.ensures.exact all before h k follows list;
      afresh = c.in-Ok.ensures.afresh;
      knows = c.in-Ok.ensures.knows;
      count_is = c.count_lists.ensures;
    }

pub returns-in-Err : goal.returns-in-Err
returns-in-Err c = (
  record {
    only = record {
      latest = refl;
      seats = c.in-Err.ensures.seats;
      ended = refl;
      notes = record { noted = refl; changed = refl };
      follows = c.in-Err.ensures.follows;
      waits = refl;
      watches = λ h w. record {
        follows = record { follows = c.in-Err.ensures.follows h w.follows.follows; recalls = λ is. c.in-Err.ensures.err _ (w.follows.recalls is) };
        watched = w.watched;
      };
    };
    lists = record { reached = refl; whole = refl };
    recalls = c.in-Err.ensures.err;
  },
  refl,
)
