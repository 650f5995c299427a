use Rattle.bd_step.proofs.{Words.{arith, drop_all, gathers_thread}, Gathered.{on_err, any_get}, Gathering.{until_none, until_at, until_all, grows_refl, grows_then, more_thread}}
use Rattle.bd_step.proofs.tables.Tables.touch_threads.Goals as goal

pub loop-seat-init : goal.loop-seat-init
loop-seat-init c = record {
  has = λ s h. until_none _ c.args.seats.now;
  grows = λ s h. grows_refl _;
}

pub loop-seat-preserved : goal.loop-seat-preserved
loop-seat-preserved c = record {
  has = λ s h. until_at _ _ c.args.seats.now c.loop-seat.seat-index 0 c.loop-seat-test.true (c.loop-seat.invariant.has s h)
      (λ t k. more_thread _ _ s t (c.in_ok-touch_thread.ensures.grows s h) k) (c.in_ok-touch_thread.ensures.has s h);
  grows = λ s h. grows_then _ _ _ (c.loop-seat.invariant.grows s h) (c.in_ok-touch_thread.ensures.grows s h);
}

pub returns-clause-has : goal.returns-clause-has
returns-clause-has c = λ s h. until_all _ c.args.seats.now c.loop-seat.seat-index (drop_all c.loop-seat.seat-index c.args.seats.now (omega arith)) (c.loop-seat.invariant.has s h)

pub returns-in_err-touch_thread-clause-grown : goal.returns-in_err-touch_thread-clause-grown
returns-in_err-touch_thread-clause-grown c = on_err c.from_residual.result
    (λ s h. any_get (gathers_thread s) c.args.seats.now c.loop-seat.seat-index 0 c.loop-seat-test.true (c.in_err-touch_thread.ensures.grown s h))
