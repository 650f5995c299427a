use Rattle.std.proofs.Common.{◌≡◌, ◌≤◌, drop}
use Rattle.bd_spelling.specs.Records.{history_in}
use Rattle.bd_audit.specs.{Judging.{HasJudged}, Replays.{beginning}}
use Rattle.bd_audit.proofs.judging.first_unlawful.Given as goal

abbrev pub invariant-loop-done : goal.invariant-loop-done
invariant-loop-done g l = record {
  judged : HasJudged l.judge (beginning l.done (history_in l.fn.record));
  rest : l.entries ≡ drop l.done l.fn.record.entries;
  heard : 1 ≤ l.done → g.W.Watch.heard l.watch l.done l.fn.count;
}
