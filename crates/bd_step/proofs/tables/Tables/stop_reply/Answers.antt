use Rattle.bd_step.proofs.{Words.{Within, refl, refused_reply_local, reply_refused, subst, sym, ◌+◌}, Afterwards.{one_frame_each, served_there}, Meeting.{taken_step}, Standing.{within}, Stepping.{refused_stands}}
use Rattle.bd_step.proofs.tables.Tables.stop_reply.Goals as goal

pub returns-clause-step : goal.returns-clause-step
returns-clause-step c = taken_step _ _ _ _ _ (
    record {
      answered = λ s h p. refl;
      stands = λ s h p. subst (Within c.close_up.new.self)
          (sym (refused_reply_local s c.args.seat c.args.f p.tidy.quiet (one_frame_each s p.tidy) (served_there s c.args.seat c.args.f p)))
          (c.close_up.ensures.stands (reply_refused s c.args.seat c.args.f) (refused_stands _ s c.args.seat c.args.f (c.refuse_reply.ensures.stands (s.steps + 1) s (within c.reserve.new.self s (c.reserve.ensures.stands s h)))));
    })
