-- The words in which the proofs speak, passed on from where they are defined.
pub use Rattle.std.proofs.Math.{Bool.{and-false, and-true}}
pub use Rattle.std.proofs.Common.{All, Bool, Err, List, None, Ok, OnErr, OnOk, Option, Result, Some, [], ap, append-nil, append_assoc, arith, cond, drop, false, filter, find, fold, get_or, if◌then◌else◌, inl, inr, is_some, length, length-append, map}
pub use Rattle.std.proofs.Common.{nat_lt, not, refl, rules, subst, suc, sym, take, true, vec_len, zero, ℕ, ◌&&◌, ◌*◌, ◌++◌, ◌+◌, ◌<◌, ◌==◌, ◌||◌, ◌∙◌, ◌∷◌, ◌≡◌, ◌≤◌, ◌⊎◌}
pub use Rattle.std.proofs.lemmas.Bool.{and_from, and_parts, and_right, eq-eqb, eqb-true, lt-ltb, or_cases, or_from, or_left, or_parts, or_right}
pub use Rattle.std.proofs.lemmas.List.{Elements.{All-head, All-push, All-tail, All-weaker, filter-append}, Folds.{find-append, fold-map, list_any-append, list_any_more}, Quantifiers.{all_pairs_push}, Sorted.{answers_always}, Sums.{fold_more}}
pub use Rattle.std.proofs.lemmas.List.{drop-append-le, drop_all, length-take-le, take-append-drop, take-append-le, take_all, take_more}
pub use Rattle.std.specs.{List.{flat_map, list_any}, Option.{option_eq, option_or}, Prelude.{option_map}, Result.{is_err}}
pub use Rattle.bd_deaths.proofs.{Only.{none_goes, one_goes, only_one}, Telling.{queued, told, told_by, told_more}, Tests.{none, same_tests, twice}}
pub use Rattle.bd_deaths.specs.{Stands.{DeathsAre}, declared.{table.{DeathTable.{DeathTable}}}}
pub use Rattle.bd_keys.proofs.{Found.{any_some, find_gone, find_stays, found_passes}, Rising.{distinct, find_at, find_none, pairs_tail, rest_differ, searched}}
pub use Rattle.bd_keys.specs.{Look.{look}, declared.{key.{WordKey.{WordKey}}, map.{WordMap.{WordMap}}}}
pub use Rattle.bd_numbered.specs.Numbered.{value_at}
pub use Rattle.bd_objects.specs.{Deaths.{is_lost, only_lost}, Delivery.{AreReady, is_ready}, Later.{Finds, IsRising, few, own_at}, Made.{made_items}, Naming.{AreReferred, is_referred, with_name_unless, with_other_name}, New.{IsHere}}
pub use Rattle.bd_objects.specs.{Numbers.{IsPastLimit}, Reading.{HoldsAlike, owed}, Stands.{Stands, StandsFor}, Telling.{owner_due}, declared.{table.{ObjectTable.{ObjectTable}}}}
pub use Rattle.bd_records.proofs.{Distinct.{none_stays, some_stays}, Freeing.{any_is_some}}
pub use Rattle.bd_records.specs.{Buffers.{list_of, window_list}, NameRows.{object_of}, Names.{name_at, number_of}, NamesAre.{NamesAre}, New.{HasAll}, Numbers.{IsFull, new_number, with_number}, ObjectKeys.{id_key, kept}, Objects.{row_at}}
pub use Rattle.bd_records.specs.{Records.{IsHomed, RecordsAre}, Room.{Uses}, Since.{KeepsSettled, Settled, Since}, Slots.{on_slot}, Sound.{has_object}, declared.{names.{Names.{Names}}, records.{Records.{Records}}, row.{ObjectRow.{ObjectRow}}}}
pub use Rattle.bd_space.proofs.Identities.{same_eq, same_self}
pub use Rattle.bd_space.specs.{Deaths.{is_notification, is_uncleared_on, uncleared_in}, Delivery.{buffer_references}, Names.{has_number_past_limit, is_managers, is_named_in, named_in, number_in, with_name}, Notices.{is_name_of, still_due}}
pub use Rattle.bd_space.specs.{Parcels.{object_of_item}, ProcessExits.{is_armed, is_dropped_with, tell_death}, ReadItems.{handshakes, handshakes_for, handshakes_of, is_told_by, shakes, told_of}}
pub use Rattle.bd_space.specs.{References.{gives_name_to, held_in, is_asked_by, is_in_window, is_of_owner, object_in, own_in, owned_in, reference_of, stays_in, strong_in}, Returns.{returns_of_object}, Space.{Space}, Todo.{death_of, notice_of}}
pub use Rattle.bd_space.specs.{Words.{changed, is_some_and}, declared.{space.{DeathNotification.{DeathNotification}, Phase.{TheVariants.{Queued}}, TodoList.{TheVariants.{OfProcess}}, Work.{Work}, WorkKind.{TheVariants.{Death}, WorkKind}}}}
pub use Rattle.bd_uapi.specs.Kinds.{is_strong_kind}
pub use Rattle.bd_ways.specs.{Local.{at_name, is_among, is_touched}, Words.{Asked, Carried, Handshake, Holder, Identity, Item, Manager, Name, Object, Reference, Target, list_all, same}}
unfoldable pub use Rattle.bd_objects.specs.Room.{rooms}
unfoldable pub use Rattle.bd_space.specs.{Asking.{ask}, Deaths.{with_phase, without_death}, Delivery.{make_objects, refer}, Freeing.{without_buffer}, Names.{assign_numbers, names_go}, ProcessExits.{tell_deaths, without_process}, ReadItems.{read_by}}
unfoldable pub use Rattle.bd_space.specs.{Returns.{returns_of}, Steps.{with_manager}, Todo.{owe}}
unfoldable pub use Rattle.bd_ways.specs.Local.{deaths_go_of, names_go_of, objects_go_of}
