-- The definitions of the space and of the parts of its steps, passed on from where they are defined.
unfoldable pub use Rattle.bd_space.specs.Asking.{acknowledge, ask, ask_check, done_check, drop_asked, drop_check}
unfoldable pub use Rattle.bd_space.specs.Deaths.{clear_check, cleared, death_done, death_ended, mark_cleared, told_death, request_check, requested, with_death, with_phase, without_death}
pub use Rattle.bd_space.specs.Deaths.{is_out, is_told, is_told_with, is_notification}
unfoldable pub use Rattle.bd_space.specs.Steps.{command_step, with_looping, attach_step, change, counted, manager_step, open_step, with_manager, with_process, with_thread}
unfoldable pub use Rattle.bd_space.specs.Delivery.{add_buffer, delivered, with_carried, make_objects, own_notices, refer}
pub use Rattle.bd_space.specs.Delivery.{Delivery, add_notice, buffer_of, buffer_references, withdraw_notice}
unfoldable pub use Rattle.bd_space.specs.Frames.{closed, goes_to, innermost, served_innermost}
pub use Rattle.bd_space.specs.Frames.{ancestry, calls, depth_in, innermost_in, is_child_of, is_deepest_in, is_frame, is_gone, list_of_caller, made_of, serves, takes_part, waits_in}
unfoldable pub use Rattle.bd_space.specs.Freeing.{buffer_at_pointer, free_step, without_buffer}
pub use Rattle.bd_space.specs.Freeing.{free_outcome, pointer, is_made_at}
unfoldable pub use Rattle.bd_space.specs.Histories.{is_at_limit, space_after}
pub use Rattle.bd_space.specs.Histories.{EntryFollows, Follows, History, IsHistory, after, history_of, next}
unfoldable pub use Rattle.bd_ways.specs.Local.{deaths_go_of, follow_of, names_go_of, notify_of, objects_go_of, ripen_of, work_goes_of}
pub use Rattle.bd_ways.specs.Local.{NameTest, ObjectTest, at_name, at_object, close_among, close_up, first_due, is_touched, names_of_references, no_name, objects_of_items, objects_of_references}
pub use Rattle.bd_ways.specs.LocalExits.{frames_ended, frames_left, is_left_frame, left_frames, left_objects, lists_in, lost_with_process, lost_with_thread, names_left, objects_ended, objects_left, seats_in}
unfoldable pub use Rattle.bd_space.specs.Names.{assign_numbers, named, names_go, strongly_named}
pub use Rattle.bd_space.specs.Names.{free_number, is_named_in, named_in, number_in, with_name}
unfoldable pub use Rattle.bd_space.specs.Notices.{deaths_go, follow, notify, work_goes}
pub use Rattle.bd_space.specs.Notices.{has_notice_in, is_name_of, still_due, wants_notice, with_notice}
unfoldable pub use Rattle.bd_space.specs.Outcomes.{completed}
pub use Rattle.bd_space.specs.Outcomes.{Outcome, by_check, refused}
unfoldable pub use Rattle.bd_space.specs.Parcels.{resolve, sending_of}
pub use Rattle.bd_space.specs.Parcels.{Sending, has_sizes, new_object, object_of_item, resolve_all, resolve_handle, resolve_own, resolve_walked}
unfoldable pub use Rattle.bd_space.specs.ProcessExits.{exit_process_step, tell_deaths, threads_go, without_process}
pub use Rattle.bd_space.specs.ProcessExits.{is_armed, is_dropped_with, seat_of, tell_death}
unfoldable pub use Rattle.bd_space.specs.ReadItems.{buffer_taken, read_by, read_step, read_taking}
pub use Rattle.bd_space.specs.ReadItems.{ends_read, hand_out, handed_buffers, handshakes, handshakes_for, handshakes_of, is_told_by, is_told_of_death, serve, shakes, taken, told_of, got, read_fault}
unfoldable pub use Rattle.bd_space.specs.References.{objects_go}
pub use Rattle.bd_space.specs.References.{buffer_of_holder, held_in, is_asked_by, is_asking, is_handshake, is_in_window, is_of_buffer, is_of_owner, is_shaking, gives_name_to, object_in, own_in, owned_in, reference_of, stays_in, strong_in}
unfoldable pub use Rattle.bd_space.specs.Replies.{caller_of, replied, reply_check, reply_refused, reply_step}
pub use Rattle.bd_space.specs.Replies.{reply_outcome, reply_to}
unfoldable pub use Rattle.bd_space.specs.Returns.{data_of, returns_of, stream_of}
pub use Rattle.bd_space.specs.Returns.{buffer_in, bytes_read, returns_of_object}
unfoldable pub use Rattle.bd_space.specs.Seats.{actor}
pub use Rattle.bd_space.specs.Seats.{actor_of, lives_in, process_in, process_with_pid, thread_in}
unfoldable pub use Rattle.bd_space.specs.Settle.{settle}
pub use Rattle.bd_space.specs.Settle.{is_abandoned, settle_one, settle_step, settle_times}
pub use Rattle.bd_space.specs.Space.{Space, opening}
unfoldable pub use Rattle.bd_space.specs.Spam.{is_spam, spam_step, with_spam_detection}
pub use Rattle.bd_space.specs.Spam.{detecting}
pub use Rattle.bd_space.specs.Steps.{attach_outcome, by_actor, is_manager_busy, is_pid, is_window, manager_outcome, open_fault, open_outcome, step}
unfoldable pub use Rattle.bd_space.specs.ThreadExits.{exit_thread_step, thread_goes}
pub use Rattle.bd_space.specs.ThreadExits.{frame_without, gone_caller, gone_server, is_lost_reference, is_lost_with, is_unread_on, unread_frame, unread_server}
unfoldable pub use Rattle.bd_space.specs.Todo.{has_unread, list_to_read, owe}
pub use Rattle.bd_space.specs.Todo.{death_of, hands_out, has_work_in, is_call, is_item, is_notice, is_on, keeps_from_calling, notice_of, reads_in, same_list, tell_caller, with_work, without_taken, work_on}
unfoldable pub use Rattle.bd_space.specs.Transactions.{call_out, callee_of, caller_cause, owner_of, target_of, transacted, transaction_check, transaction_step}
pub use Rattle.bd_space.specs.Transactions.{called, handle_of, is_one_way, not_own, refusal, transaction_outcome}
unfoldable pub use Rattle.bd_space.specs.Turns.{ripen}
pub use Rattle.bd_space.specs.Turns.{is_ripe, ripened, turn_of, turns_of}
unfoldable pub use Rattle.bd_space.specs.Windows.{start_for}
pub use Rattle.bd_space.specs.Windows.{buffers_of, needed}
pub use Rattle.bd_space.specs.Words.{and_then, changed, first_of, ok_or, is_some_and, same, same_origin, unless, when, without_first}
