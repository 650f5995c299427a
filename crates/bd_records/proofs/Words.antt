-- The words in which the proofs speak, passed on from where they are defined.
pub use Rattle.std.proofs.Common.{Bool, Err, IfSome, List, None, Ok, OnErr, Option, Result, Some, [], ap, append-nil, append_assoc, arith, cond, count_by, drop, eqb, eqb-true, false, filter, find, get_or, if◌then◌else◌, inl, inr, is_some, length, length-append, map, min, nat_lt, not, option_map, refl, subst, suc, sym, take, true, unwrap_or, zero, ℕ, ◌&&◌, ◌++◌, ◌+◌, ◌-◌, ◌<◌, ◌==◌, ◌^◌, ◌||◌, ◌∙◌, ◌∷◌, ◌≡◌, ◌≤◌, ◌⊎◌}
pub use Rattle.std.proofs.Math.Bool.{and-false, and-true, or_assoc}
pub use Rattle.std.proofs.lemmas.{Bool.{Decides.{nat_tests}, and_from, and_parts, cases_lt, eq-eqb, false≢true, or_cases, or_from, or_parts}, List.{Elements.{filter-append}, Folds.{find-append, list_any-append}, Sums.{count_by-le-length, sum_by-append, sum_by-cons, sum_by_push}, drop_more, take_all, take_more}, Result.{on_err_weaker, on_ok_weaker}}
pub use Rattle.std.specs.{Cmp.{both_ways}, HashMap.{get_by, spare}, List.{list_any, slice_get}, Option.{option_and_then, option_or}, Prelude.{IfNone, nat_le, option_copied, vec_capacity, vec_len}}
pub use Rattle.bd_chains.proofs.{Listing.{dropped_shows, kept_shows, on_list, same_number}, Rowing.{at_less, at_more, drop_none, first_in}}
pub use Rattle.bd_chains.specs.{Chain.{distinct, has, is_at}, Columns.{Holds}, Lists.{AreListed}, Rows.{Row, drop_key, keys, on_some, ring, values, values_on}, Setting.{set_row, with_value}, declared.{chains.Chains.{Chains}, links.Held.{Held}}}
pub use Rattle.bd_keys.proofs.{Found.{found_passes}, Keys.{word_eq, word_self}, Options.{none_is, none_mapped, or_none}}
pub use Rattle.bd_keys.specs.{Keys.{same_word}, Look.{look}, Numbers.{pair}, declared.key.WordKey.{WordKey}}
pub use Rattle.bd_numbered.specs.{Numbered.{IsFreeAt, value_at}, declared.numbered.Numbered.{Numbered}}
pub use Rattle.bd_places.specs.Places.{is_there_and}
pub use Rattle.bd_records.specs.{Asks.{asks}, Buffers.{BuffersAre, Shows, Windows, buffer_of, buffer_room, is_held, list_of, window_list, window_of}, Carried.{carried_in, is_carried_by}, Count.{is_empty, no_count, of_strength, turned_count}, Counted.{CountsAre}}
pub use Rattle.bd_records.specs.Counting.{asked_of, carried_of, disowned, is_asked, is_carried, is_carried_to, is_carrying, is_managers, is_managing, is_to, lowered, managed_of, name_turned, owed_of, told, total_of, turned, turned_if, unasked}
pub use Rattle.bd_records.specs.{Ending.{LiesIn, is_named_at, own_among, without_own}, Lying.{Paired, buffer_key, lying_at, references, same_key, window_key, window_of_holder}, Maps.{AreDistinct, Finds}, NameRows.{new_row, object_of}, Names.{name_at, name_room, named_by, number_of}}
pub use Rattle.bd_records.specs.{NamesAre.{KeepsNames, NamesAre}, New.{AreNewIn, IsNewIn}, NumberKeys.{number_at}, Numbers.{IsNextNumber, free_number_from, new_number, with_number}, ObjectKeys.{id_key, kept, own_key}, Objects.{object_room, row_at, slot_at}}
pub use Rattle.bd_records.specs.{Owned.{OwnedAre, id_at, own_room, owner_of, possession, same_owner, stands_at}, Records.{IsHomed, RecordsAre, is_owner}, Room.{Uses}, Since.{AreBlank, IsBlank, KeepsSettled, Settled, Since}, Slots.{on_slot}, Sound.{Sound, has_number, has_object}}
pub use Rattle.bd_records.specs.declared.{buffers.{Berth.{Berth}, Buffers.{Buffers}}, count.Count.{Count}, lying.Lying.{Lying}, names.Names.{Names}, number_key.ObjectKey.{ObjectKey}, owned.{Owned.{Owned}, Possession.{Possession}, Spot.{Spot}}, records.Records.{Records}, row.{NameRow.{NameRow}, ObjectRow.{ObjectRow}}}
pub use Rattle.bd_space.proofs.Identities.{same_eq, same_self, same_turned}
pub use Rattle.bd_space.specs.{Names.{has_number_past_limit, is_named_in, named_in, number_in}, References.{buffer_of_holder, gives_name_to, held_in, is_asked_by, is_asking, is_handshake, is_in_window, is_of_buffer, is_of_owner, is_shaking, object_in, owned_in, strong_in}, Words.{least}}
pub use Rattle.bd_ways.specs.{Local.{is_among}, Words.{Asked, Carried, Handshake, Holder, Identity, Manager, Name, Object, Reference, Target, beq, changed, same, without_first}}
pub use Rattle.slab.specs.Slab.{get}
