-- The words in which the proofs speak, passed on from where they are defined.
pub use Rattle.bd_buffers.proofs.WindowLaws.{stands_in}
pub use Rattle.bd_buffers.specs.WindowsStand.{WindowsOf, made_of_buffer}
pub use Rattle.bd_calls.specs.{Told.{Recalls, knows_all}, declared.table.CallTable.{CallTable}}
pub use Rattle.bd_codec.specs.{Reading.{command_at}, Spelling.{Found, IsCommand, command_bytes}}
pub use Rattle.bd_earlier.proofs.Places.{places_earlier}
pub use Rattle.bd_earlier.specs.Places.{IsOfEarlierSteps}
pub use Rattle.bd_engine.specs.{Begun.{refusals, refused_entry}, Follows.{Follows, FollowsShort}, Looks.{IsNextHandle, has_asked, named_by}, Reached.{AreReached, IsNamed, TheseNameAll, differs, has_work, is_among}, Readiness.{flipped, has_seat}}
pub use Rattle.bd_engine.specs.{Refusals.{FullOnly, MemoryOnly}, Writing.{Course, Ends, GoesOn, GoesTo, HasCome, IsAfter, IsCourse, IsCutAt, IsNext, IsOneStep, IsProgress, IsSame, IsTurnedAway, IsUnrefused, course_of, course_or, fault_of, joined, stopped}}
pub use Rattle.bd_engine.specs.{declared.live.Live.{Live}, declared.run.Ran.{Ran}, declared.write.Going.{Going}, declared.write.Progress.{Progress}}
pub use Rattle.bd_laws.proofs.{Always.{always_tidy}, Lists.{find_in, in_filter, in_map}, Machine.Steps.{always_steps, change_steps}, WhomAStepReaches.Reached.{whom_reached}}
pub use Rattle.bd_laws.specs.{Lists.{In}, Reached.{IsReached, is_filled_or_emptied}}
pub use Rattle.bd_objects.proofs.Fitting.{numbers_fit}
pub use Rattle.bd_records.specs.{Carried.{is_carried_by}, Numbers.{IsNextNumber}}
pub use Rattle.bd_space.specs.{Frames.{serves}, Freeing.{is_made_at}, Histories.{EntryFollows, HasLivePlace, HasPlace, History, after, extended, history_of, is_ready, next, ready_below}, Names.{has_number_past_limit, named_in}}
pub use Rattle.bd_space.specs.{References.{is_asking}, Returns.{buffer_in}, Runs.{AllBy, HasEntry, HasRun, IsAtLimit, MayStop, answered, single, step_after}, Seats.{process_with_pid}, Space.{Space, opening}, Steps.{step}, Todo.{hands_out, is_on}}
pub use Rattle.bd_space.specs.{Words.{and_then, first_of, is_some_and, ok_or, unless, when}, Writes.{Readable, Run, Written, goes_on, readable, run_of_written, step_of_command, written, wrote}, declared.space.Buffer.{Buffer}}
pub use Rattle.bd_space.specs.{declared.space.Frame.{Frame}, declared.space.Name.{Name}, declared.space.Object.{Object}, declared.space.Process.{Process}, declared.space.Reference.{Reference}, declared.space.Thread.{Thread}}
pub use Rattle.bd_space.specs.{declared.space.TodoList.{TodoList}, declared.space.TodoList.TheVariants.{OfProcess, OfThread}, declared.space.Work.{Work}, declared.space.WorkKind.{WorkKind}, declared.space.WorkKind.TheVariants.{Reply}}
pub use Rattle.bd_space.specs.{declared.step.Answer.{Answer}, declared.step.Answer.TheVariants.{Refused, Wrote}, declared.step.Entry.{Entry}, declared.step.Identity.{Identity}, declared.step.Request.{Request}}
pub use Rattle.bd_space.specs.{declared.step.Request.TheVariants.{Write}, declared.step.Step.{Step}, declared.step.StepAnswer.{StepAnswer}, declared.step.Stop.{Stop}}
pub use Rattle.bd_spelling.specs.Spelling.{IsBlock, IsStep, step_bytes}
pub use Rattle.bd_step.proofs.{Changing.{with_calls}, Refusals.{full_as, memory_if}, Stacked.{tidy_stacked}}
pub use Rattle.bd_step.specs.{Ending.{HasEndings, ended_between, is_gone}, Stands.{Before, Within}, declared.step_error.StepError.{StepError}, declared.step_error.StepError.TheVariants.{HistoryFull, NoMemory}, declared.tables.Tables.{Tables}}
pub use Rattle.bd_todo.specs.TodoList.{first_reply_in, reply_of}
pub use Rattle.bd_uapi.specs.{declared.command.Command.{Command}, declared.fault.Fault.{Fault}, declared.fault.Fault.TheVariants.{StreamTooLong}, declared.fault.Note.{Note}, declared.fault.Note.TheVariants.{NoSuchNumber, NothingAsked}}
pub use Rattle.std.proofs.Common.{All, Bool, Err, IfErr, IfOk, List, None, Ok, OnErr, OnOk, Option, Result, Some, [], add-one, add-zero, add_assoc, ap, append_assoc, arith, cond, drop, false, filter, find, get_or, inl, inr, is_err, length}
pub use Rattle.std.proofs.Common.{length-append, length-drop, ltb, map, not, refl, replicate, rules, subst, suc, sym, take, true, vec_capacity, vec_len, zero, zero-add, ℕ, ◌++◌, ◌+◌, ◌-◌, ◌<◌, ◌==◌, ◌∙◌, ◌∷◌, ◌≡◌, ◌≤◌, ◌⊎◌}
pub use Rattle.std.proofs.{Math.Bool.{or-false, or-true}, Math.Dec.{eqb-suc-zero}, Math.ListN.{set}, Math.Seq.{take-append_seam, take-length}, lemmas.Bool.{eq-eqb, eqb-true, le-leb, le-ltb, leb-false, leb-true, lt-ltb}, lemmas.Fn.{filter_same}}
pub use Rattle.std.proofs.{lemmas.List.{append-nil, drop-drop, drop_all, get_or-set_other, get_or-set_same, length-replicate, length-take-le, take_all, take_more}, lemmas.List.Elements.{All-push, All-same}}
pub use Rattle.std.proofs.{lemmas.List.Folds.{list_all-append, list_any-append}, lemmas.List.Sums.{sum_by-append, sum_by-cons}, lemmas.Result.{IfOk-weaker, on_err_weaker, on_ok_weaker}}
pub use Rattle.std.specs.{List.{list_all, list_any}, Prelude.{IfSome, MatchResult, count_by, is_none, is_some, nat_le, nat_lt, option_and_then, option_map, ◌&&◌, ◌||◌}, Result.{is_ok}}
pub use mathlib.Core.Bool.{beq}
unfoldable pub use Rattle.bd_calls.specs.Told.{HasRoomToTell}
unfoldable pub use Rattle.bd_space.specs.{Asking.{drop_check}, Frames.{innermost}, Histories.{is_at_end, is_at_limit, ready_bits, space_after}, Names.{named}, Runs.{IsRun, run, write_first}, Seats.{actor}, Steps.{change, counted}}
unfoldable pub use Rattle.bd_space.specs.Writes.{commands_of, write}
