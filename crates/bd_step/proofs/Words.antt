-- The words in which the proofs speak, passed on from where they are defined.
pub use Rattle.std.proofs.Common.{All, Bool, Err, IfSome, List, None, Ok, OnErr, OnOk, Option, Result, Some, [], add-one, ap, append-nil, append_assoc, arith, cond, drop, drop-cons, false, filter, find, get_or, inl, inr, length, length-append, map, not, option_and_then, option_map, refl, reverse, rules, subst, suc, sym, take, take_all, tests, true, zero, ℕ, ◌%◌, ◌&&◌, ◌++◌, ◌+◌, ◌-◌, ◌<◌, ◌==◌, ◌||◌, ◌∙◌, ◌∷◌, ◌≡◌, ◌≤◌, ◌⊎◌}
pub use Rattle.std.proofs.{Math.Bool.{and-true, or-false, or-true}, Math.ListN.{drop_of_length-le}, Math.Path.{fun_ext}, Math.Seq.{take-append_seam}, lemmas.Bool.{and_parts, eq-eqb, eqb-true, leb-true}, lemmas.Grind.{flat_map-append}, lemmas.List.{drop_all, map-append, reverse-append, take-append-drop, take_more}, lemmas.List.Elements.{All-append, filter_agree}, lemmas.List.Folds.{concat-append}}
pub use Rattle.std.proofs.{lemmas.List.Sorted.{answers_always, list_any-IsPermutation}, lemmas.List.Sums.{fold_more}, lemmas.Option.{get_or_from_slice_get, none-some, slice_get-get_or, slice_get_within, unwrap_or-slice_get}, lemmas.Result.{IfOk-weaker, on_err_weaker, on_ok_weaker}}
pub use Rattle.std.specs.{List.{IsAllAdjacentAnswer, concat, cons_option, filter_map, flat_map, fold, list_any, slice_get}, Option.{is_none, is_some, option_to_list, unwrap_or}, Prelude.{if◌then◌else◌, nat_le, nat_lt}, Result.{IfOk}}
pub use Rattle.bd_buffers.proofs.{Marks.{stands_marked}, WindowLaws.{stands_in}}
pub use Rattle.bd_buffers.specs.{Buffer.{freed_buffer}, WindowsStand.{StandsIn, WindowsOf, made_of_buffer}, declared.windows.Windows.{Windows}}
pub use Rattle.bd_calls.specs.{Closing.{is_place_among}, Stacked.{IsAfter, IsStacked, TakesCalls}, declared.table.CallTable.{CallTable}}
pub use Rattle.bd_codec.specs.Spelling.{return_bytes}
pub use Rattle.bd_deaths.specs.Due.{due_in, is_due}
pub use Rattle.bd_laws.proofs.{Abandoned.{OneEach}, Always.{always_tidy}, AtHome.HomesSent.{one_thread}, Checks.{actor_acts, actor_lives, asked_others, reply_checked, transaction_checked}, Clearing.{cleared_local, done_local}, Earlier.{earlier_cmp, in_order_differ, never_earlier, sorted_in_order}, Ending.{ended_parts, ending_local}, Fewer.{acknowledged_local, dropped_local, elsewhere_said, filtered_said, to_false}}
pub use Rattle.bd_laws.proofs.{Follow.{filter_same, find_kept, follow_local}, FollowingIsLocal.Finding.{any_more, find_only}, FollowingIsLocal.Left.{on_thread}, FollowingIsLocal.Sent.{Delivers, delivered_elsewhere, sent_notices_keep}, Framing.{one_each}, Freeing.{any_append, freed_local, owe_elsewhere, references_of_buffer, ripen_of_elsewhere}, KeptBefore.ObjectsKept.{closed_before, closed_sends, delivered_kept}}
pub use Rattle.bd_laws.proofs.{Leaving.{follow_frames, leaving_local, left_names, left_parts, or_left, or_right}, Lists.{any_found, any_in, at_pairs, changed_in, filter_in, find_in, find_some, fold_keeps, in_append, in_filter, in_last, in_left, in_map, in_push, map_in, pairs_either, pairs_filter}, Machine.Adding.{notice_keeps, told_keeps}, Machine.Deaths.{on_cleared, on_done, on_requested}, Machine.Settled.{settle_keeps}}
pub use Rattle.bd_laws.proofs.{Machine.Untouched.{Untouched, called_untouched, closed_untouched, on_deaths_untouched, owe_untouched, ripen_untouched, tell_deaths_untouched, told_untouched, untouched_trans, with_looping_untouched}, Next.{calm}, Objects.{asked_found, carried_found, here_found, later, read_kept, replied_kept, transacted_kept}, Others.{ask_local, freed_two_way, looping_local, requested_local}}
pub use Rattle.bd_laws.proofs.{Pings.{sending_made_sent, transaction_delivers}, Readings.{tidy_read_local}, Refusing.{refused_local, refused_reply_local}, Replying.{reply_local}, Sending.{find_none, one_way_local, two_way_local}, Sendings.{Made, none_made, resolved_by, resolves, sending_keeps, sending_sends}, Stacks.{innermost_last, replied_childless}}
pub use Rattle.bd_laws.proofs.{Tests.{and_both, and_then_ok, both, eq_same, found_ok, neither, not_false, same_eq, some_eq, unless_ok, when_none}, words.Laws.{KeptBefore}, words.Logic.{list_any-append}, words.Space.{buffer_references, held_in, lives_in}}
pub use Rattle.bd_laws.specs.{Items.{AtHome}, Lists.{In, Pairs}, Objects.{Earlier, Here, NotLater, is_earlier}, OneWayCalls.{Waits}, Quiet.{Elsewhere, IsFollowed}, Stacks.{last_of}, Tidy.{IsTidy}}
pub use Rattle.bd_objects.proofs.Owned.{both_filters}
pub use Rattle.bd_objects.specs.{Deaths.{is_lost}, Made.{made_items}, New.{IsAsked, IsDelivered, IsNewDeath, IsNewManager}, Room.{UsesNothing}, Stands.{StandsFor}, Telling.{owner_due}, declared.table.ObjectTable.{ObjectTable}}
pub use Rattle.bd_parcel.proofs.Walks.{as_many_objects, object_at_index}
pub use Rattle.bd_parcel.specs.{Parcels.{fault_in, offsets_in}, Reading.{objects_at}}
pub use Rattle.bd_processes.specs.Stands.{ProcessesAre}
pub use Rattle.bd_records.specs.New.{AreNewIn, HasAll, IsNewIn}
pub use Rattle.bd_space.specs.{Deaths.{is_notification, is_uncleared_on, uncleared_in}, Delivery.{Delivery, add_notice, buffer_of, placed_for, withdraw_notice}, Frames.{is_frame, serves, takes_part}, Freeing.{free_outcome, is_made_at, pointer}, Histories.{is_ready}, Names.{has_number_past_limit, is_named_in}, Notices.{has_notice_in, is_name_of, still_due, wants_notice, with_notice}, Outcomes.{Outcome, accepted, by_check, noted, refused, stopped}}
pub use Rattle.bd_space.specs.{Parcels.{Sending, has_sizes, new_object, object_of_item, resolve_all, resolve_walked, translated}, ProcessExits.{is_dropped_with, seat_of, tell_death}, ReadItems.{ends_read, got, hand_out, handed_buffers, is_told_by, none_due, read_fault, taken}, References.{buffer_of_holder, gives_name_to, is_of_buffer, object_in, own_in, owned_in, stays_in}, Replies.{reply_outcome, reply_to}, Returns.{buffer_in, bytes_read}}
pub use Rattle.bd_space.specs.{Seats.{actor_of, process_in, process_with_pid, thread_in}, Settle.{is_abandoned, settle_one, settle_times}, Space.{Space}, Steps.{attach_outcome, by_actor, is_manager_busy, is_pid, is_window, manager_outcome, open_fault, open_outcome}, ThreadExits.{is_lost_reference, is_lost_with, is_unread_on}, Todo.{death_of, hands_out, is_call, is_notice, is_on, notice_of, reads_in, tell_caller, with_work, work_on}}
pub use Rattle.bd_space.specs.{Transactions.{called, handle_of, is_one_way, not_own, refusal, transaction_outcome}, Turns.{turn_of, turns_of}, Windows.{buffers_of, needed}, Words.{and_then, first_of, is_some_and, ok_or, overwritten, same, unless, when}, declared.space.Actor.{Actor}, declared.space.Buffer.{Buffer}, declared.space.Callee.{Callee}, declared.space.DeathNotification.{DeathNotification}, declared.space.Frame.{Frame}}
pub use Rattle.bd_space.specs.{declared.space.Holder.{Holder}, declared.space.Holder.TheVariants.{Asked, Carried, Handshake, Manager, Target}, declared.space.Item.{Item}, declared.space.Name.{Name}, declared.space.Object.{Object}, declared.space.Phase.TheVariants.{Armed, Done, Queued}, declared.space.Process.{Process}, declared.space.Reference.{Reference}, declared.space.Resolved.{Resolved}, declared.space.Thread.{Thread}, declared.space.TodoList.{TodoList}}
pub use Rattle.bd_space.specs.{declared.space.TodoList.TheVariants.{OfProcess, OfThread}, declared.space.Turn.{Turn}, declared.space.Work.{Work}, declared.space.WorkKind.{WorkKind}, declared.space.WorkKind.TheVariants.{Complete, Death, Refusal, Reply, Verdict}, declared.step.Identity.{Identity}, declared.step.Parcel.{Parcel}, declared.step.Step.{Step}, declared.step.Step.TheVariants.{Attach, ExitProcess, ExitThread, Open, Read, SetManager, SetSpam}}
pub use Rattle.bd_space.specs.{declared.step.StepAnswer.{StepAnswer}, declared.step.StepAnswer.TheVariants.{Accepted, Noted, Refused}}
pub use Rattle.bd_step.specs.{Deliveries.{CanCall, CanSend, IsCopy, IsInside, OnlyWorks, laid_bytes, size_of}, Ending.{HasEndings, is_gone}, Exits.{Grows, HasFrame, HasList, HasObject, HasProcess, HasThread, HasThreads, HasWork, gathers_list, gathers_thread, gathers_work}, Following.{AreTouched, IsNobodyDue, MakesOfOrdered, followed_at, notice_stays, told_at}, Freed.{IsFreeing, referred, ripen_next, turn_target, turn_target_at}}
pub use Rattle.bd_step.specs.{Handed.{without_all_handed, without_any, without_handed}, Known.{are_known_before, known_before}, Meets.{IsAny, IsAsking, IsBy, IsKept, IsNobody, IsRefused, IsReplying, IsSending, IsServing, IsStep, IsStepWritten, Meets}, Plain.{IsRare, IsWritten, answer_of}, Refusals.{FullOnly, MemoryOnly}, Stands.{Before, KeepsTold, MakesWithin, StandsAt, Uses, Within}, Taking.{IsReading}, Telling.{owed, owed_death}}
pub use Rattle.bd_step.specs.{declared.answer.Brief.{Brief}, declared.answer.Plain.{Plain}, declared.exit.Exit.{Exit}, declared.step_error.StepError.{StepError}, declared.step_error.StepError.TheVariants.{HistoryFull, NoMemory}, declared.tables.Tables.{Tables}}
pub use Rattle.bd_todo.proofs.OnList.{any_filter, any_left}
pub use Rattle.bd_uapi.specs.{Kinds.{is_own, is_strong_kind}, Records.{object_bytes}, declared.command.Command.{Command, Command as BinderCommand}, declared.command.Return.{Return}, declared.command.Return.TheVariants.{DeadReply, FailedReply, Noop, TransactionComplete}, declared.command.TransactionData.{TransactionData}, declared.fault.Cause.{Cause}, declared.fault.Cause.TheVariants.{CallerGone, DeadOwner, NoManager}, declared.fault.Fault.{Fault}}
pub use Rattle.bd_uapi.specs.{declared.fault.Fault.TheVariants.{Again, ManagerBusy, NoProcess, NoSuchPid, ReadTooSmall}, declared.fault.Note.{Note}, declared.fault.Note.TheVariants.{AlreadyAsked, NoSuchNumber, NoneAsked, NoneTold, NotHandedOut}, declared.object.FlatObject.{FlatObject}}
pub use Rattle.bd_ways.specs.{Local.{NameTest, ObjectTest, at_name, at_object, close_among, close_up, is_among, is_touched, names_among, names_of_references, no_name, objects_of_items, objects_of_references}, LocalExits.{frames_ended, frames_left, is_left_frame, left_frames, left_objects, lists_in, lost_with_process, objects_ended, objects_left, seats_in}, Tables.{Tells}}
unfoldable pub use Rattle.bd_buffers.specs.WindowsStand.{CanAdd, HasBufferRoom}
unfoldable pub use Rattle.bd_laws.specs.{Frames.{IsFramed}, Items.{IsQueued}}
unfoldable pub use Rattle.bd_parcel.specs.Reading.{object_at}
unfoldable pub use Rattle.bd_space.specs.{Asking.{acknowledge, ask, ask_check, done_check, drop_asked, drop_check}, Deaths.{clear_check, cleared, death_done, death_ended, mark_cleared, request_check, requested, told_death, with_death, with_phase, without_death}, Delivery.{add_buffer, delivered, make_objects, own_notices, refer, with_carried}, Frames.{closed, goes_to, served_innermost}, Freeing.{buffer_at_pointer, free_step, without_buffer}}
unfoldable pub use Rattle.bd_space.specs.{Histories.{space_after}, Names.{assign_numbers, named, names_go}, Notices.{deaths_go, follow, notify, work_goes}, Outcomes.{completed}, Parcels.{resolve, sending_of, translation}, ProcessExits.{exit_process_step, tell_deaths, threads_go, without_process}, ReadItems.{buffer_taken, read_by, read_step, read_taking}, References.{objects_go}, Replies.{caller_of, replied, reply_check, reply_refused, reply_step}}
unfoldable pub use Rattle.bd_space.specs.{Returns.{returns_of, stream_of}, Seats.{actor}, Settle.{settle}, Spam.{floods, is_spam, spam_step, with_spam_detection}, Steps.{attach_step, change, command_step, manager_step, open_step, with_looping, with_manager, with_process, with_thread}, ThreadExits.{exit_thread_step, thread_goes}, Todo.{list_to_read, owe}}
unfoldable pub use Rattle.bd_space.specs.{Transactions.{call_out, callee_of, caller_cause, owner_of, target_of, transacted, transaction_check, transaction_step}, Turns.{ripen}}
unfoldable pub use Rattle.bd_step.specs.Following.{deaths_followed, deaths_withdrawn, names_followed, shed_of, told_of}
unfoldable pub use Rattle.bd_ways.specs.Local.{deaths_go_of, follow_of, names_go_of, notify_of, objects_go_of, ripen_of, work_goes_of}
