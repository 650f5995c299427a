-- Worked examples of writes, whose streams are read command by command.
use Rattle.std.specs.Prelude.{ℕ, ◌≡◌, List, [], ◌∷◌, ◌++◌, Some, None, map, replicate}
use Rattle.std.specs.List.{concat}
use Prim.Native.String.{String}
use Rattle.bd_uapi.specs.declared.fault.Note.{Note}
use Rattle.bd_uapi.specs.declared.fault.Note.TheVariants as note
use Rattle.bd_uapi.specs.declared.fault.Cause.TheVariants as cause
use Rattle.bd_uapi.specs.declared.fault.Fault.TheVariants as fault
use Rattle.bd_uapi.specs.declared.command.Command.TheVariants as bc
use Rattle.bd_codec.specs.Spelling.{command_bytes}
use Rattle.bd_space.specs.declared.step.Request.{Request}
use Rattle.bd_space.specs.declared.step.Request.TheVariants.{Open, SetManager, Write, Read}
use Rattle.bd_space.specs.declared.step.Stop.{Stop}
use Rattle.bd_space.specs.declared.step.Stop.TheVariants as stop
use Rattle.bd_space.specs.declared.step.Answer.{Answer}
use Rattle.bd_space.specs.declared.step.Answer.TheVariants.{Opened, Set, Wrote, Got, Refused}
use Rattle.bd_space.specs.Space.{opening}
use Rattle.bd_examples.specs.Playing.{runs}
use Rattle.bd_examples.specs.Script.{hex, sending, WOBJ, WHOBJ}

abbrev pub base_requests : List (ℕ × Request)
base_requests = (0, Open 100 1000 4096) ∷ (0, SetManager) ∷ (0, Write (hex "0c630000") []) ∷ (1, Open 200 2000 4096) ∷ []

abbrev pub base_answers : List (Answer × ℕ)
base_answers = (Opened, 1) ∷ (Set, 2) ∷ (Wrote 4 [] None, 3) ∷ (Opened, 4) ∷ []

abbrev pub Answers : List (ℕ × Request) → List (Answer × ℕ) → Type 0
Answers requests found = runs opening (base_requests ++ requests) ≡ base_answers ++ found

-- Behind the base these requests get these answers; the number beside an answer is how many steps the history has then.
abbrev pub Plays : List (ℕ × Request × Answer × ℕ) → Type 0
Plays history = Answers (map (λ x. (x.0, x.1)) history) (map (λ x. (x.2, x.3)) history)

-- A write without an area that consumes so many bytes of its stream: all commands are run, and these notes are made.
abbrev pub wrote : ℕ → String → ℕ → List (ℕ × Note) → ℕ → ℕ × Request × Answer × ℕ
wrote seat bytes consumed notes steps = (seat, Write (hex bytes) [], Wrote consumed notes None, steps)

abbrev pub stopped : ℕ → String → ℕ → Stop → ℕ → ℕ × Request × Answer × ℕ
stopped seat bytes consumed by steps = (seat, Write (hex bytes) [], Wrote consumed [] (Some by), steps)

-- An empty write, three streams that can't be read, and two commands of which the first is refused: the second isn't run.
abbrev pub unreadable : Type 0
unreadable =
    Answers ((1, Write [] []) ∷ (1, Write (hex "0c6300") []) ∷ (1, Write (hex "11634840") []) ∷ (1, Write (hex "0d720000") []) ∷ (1, Write (command_bytes (bc.Transaction (sending 5 1 1 [] [])) ++ hex "0c630000") []) ∷ [])
    ((Wrote 0 [] None, 4) ∷ (Wrote 0 [] (Some (stop.Fault fault.ShortCommand)), 4) ∷ (Wrote 0 [] (Some (stop.Fault fault.RefusedCommand)), 4) ∷ (Wrote 0 [] (Some (stop.Fault fault.UnknownCommand)), 4)
    ∷ (Wrote 68 [] (Some (stop.Cause cause.NotStronglyNamed)), 5) ∷ [])

-- Three commands are run, and two of them leave a note. A seat that has no process is refused with its first command.
abbrev pub several : Type 0
several =
    Answers ((1, Write (hex "0563044000000000 0663044001000000 0463044007000000") []) ∷ (2, Write (hex "0c630000 0c630000") []) ∷ [])
    ((Wrote 24 ((1, note.NoSuchNumber) ∷ (2, note.NoSuchNumber) ∷ []) None, 7) ∷ (Refused fault.NoProcess, 8) ∷ [])

-- The bytes of a one-way call whose parcel is said to be so long, and to begin at that place of the area.
abbrev pub cut : ℕ → ℕ → ℕ → List ℕ
cut target size from = command_bytes (bc.Transaction (record (sending target 0 1 [] []) { data_size = size; buffer = from; offsets = 0 }))

abbrev pub outside : ℕ → Answer × ℕ
outside steps = (Wrote 68 [] (Some (stop.Cause cause.OutsideArea)), steps)

-- Sums don't wrap: each of these parcels ends outside its area, also the empty one at index 1 of an empty area. The last is a call to
-- handle 0, since only the low 32 bits of the target are the handle.
abbrev pub pointers_past_the_area : Type 0
pointers_past_the_area =
    Answers ((1, Write (cut 0 2 18446744073709551615) (hex "6869")) ∷ (1, Write (cut 0 18446744073709551615 1) (hex "6869")) ∷ (1, Write (cut 0 0 1) []) ∷ (1, Write (cut 4294967296 0 0) []) ∷ [])
    (outside 5 ∷ outside 6 ∷ outside 7 ∷ (Wrote 68 [] None, 8) ∷ [])

-- A stream of 4097 bytes is one byte too long.
abbrev pub stream_too_long : Type 0
stream_too_long = Answers ((1, Write (concat (replicate 1024 (hex "0c630000")) ++ hex "00") []) ∷ []) ((Refused fault.StreamTooLong, 4) ∷ [])

-- A stream of 4096 bytes is just short enough: its 1024 commands are 1024 steps.
abbrev pub full_stream : Type 0
full_stream = Answers ((1, Write (concat (replicate 1024 (hex "0c630000"))) []) ∷ []) ((Wrote 4096 [] None, 1028) ∷ [])

-- Each command's code written out, in an order in which no two can stand for one another.
abbrev pub commands_by_their_bytes : Type 0
commands_by_their_bytes =
    Plays ((1, Write (hex "00634040 0000000000000000 0000000000000000 01000000 01000000 00000000 00000000 1800000000000000 0800000000000000 0000000000000000 1800000000000000") (WOBJ ++ hex "0000000000000000"), Wrote 68 [] None, 5)
    ∷ (1, Read 256, Got (hex "0c720000 07721080 0010000000000000 0020000000000000 06720000") [] [], 6)
    ∷ wrote 1 "09631040 0010000000000000 0020000000000000" 20 ((0, note.NoHandshake) ∷ []) 7
    ∷ wrote 1 "08631040 0010000000000000 0020000000000000" 20 [] 8
    ∷ (0, Read 256, Got (hex "0c720000 02724080 0000000000000000 0000000000000000 01000000 01000000 00000000 d0070000 1800000000000000 0800000000000000 0000010000000000 1800010000000000") WHOBJ (hex "0000000000000000"), 9)
    ∷ wrote 0 "05630440 01000000" 8 ((0, note.NotStrong) ∷ []) 10
    ∷ wrote 0 "04630440 01000000" 8 [] 11
    ∷ wrote 0 "06630440 01000000" 8 ((0, note.NothingAsked) ∷ []) 12
    ∷ wrote 0 "07630440 01000000" 8 [] 13
    ∷ wrote 0 "07630440 01000000" 8 ((0, note.NothingAsked) ∷ []) 14
    ∷ wrote 0 "0e630c40 01000000 4d00000000000000" 16 [] 15
    ∷ wrote 0 "0e630c40 01000000 4e00000000000000" 16 ((0, note.AlreadyAsked) ∷ []) 16
    ∷ wrote 0 "0f630c40 01000000 4e00000000000000" 16 ((0, note.NoneAsked) ∷ []) 17
    ∷ wrote 0 "10630840 4d00000000000000" 12 ((0, note.NoneTold) ∷ []) 18
    ∷ wrote 0 "0f630c40 01000000 4d00000000000000" 16 [] 19
    ∷ (0, Read 256, Got (hex "0c720000 10720880 4d00000000000000") [] [], 20)
    ∷ wrote 0 "03630840 0000010000000000" 12 [] 21
    ∷ wrote 0 "03630840 0000010000000000" 12 ((0, note.NoSuchBuffer) ∷ []) 22
    ∷ wrote 0 "0d630000" 4 [] 23
    ∷ stopped 0 "01634040 0000000000000000 0000000000000000 00000000 00000000 00000000 00000000 0000000000000000 0000000000000000 0000000000000000 0000000000000000" 68 (stop.Cause cause.NoCall) 24
    ∷ (1, Read 256, Refused fault.Again, 25)
    ∷ wrote 1 "0c630000" 4 [] 26
    ∷ (1, Read 256, Got (hex "0c720000 0a721080 0010000000000000 0020000000000000") [] [], 27) ∷ [])

-- A seat without a process isn't refused (F4) where no command is run, and a stream that is too long is F15. An empty
-- parcel whose offsets lie at 1 of an empty area is outside (X7); X7 is tried before X8.
abbrev pub writes_without_a_process : Type 0
writes_without_a_process =
    Plays ((2, Write [] [], Wrote 0 [] None, 4)
    ∷ stopped 2 "0c6300" 0 (stop.Fault fault.ShortCommand) 4
    ∷ stopped 2 "11634840" 0 (stop.Fault fault.RefusedCommand) 4
    ∷ (2, Write (hex "0c630000 11634840") [], Refused fault.NoProcess, 5)
    ∷ stopped 1 "00634040 0000000000000000 0000000000000000 00000000 01000000 00000000 00000000 0000000000000000 0000000000000000 0000000000000000 0100000000000000" 68 (stop.Cause cause.OutsideArea) 6
    ∷ (1, Write (hex "00634040 0000000000000000 0000000000000000 00000000 01000000 00000000 00000000 0000000000000000 0900000000000000 0000000000000000 0000000000000000") (hex "0000000000000000"), Wrote 68 [] (Some (stop.Cause cause.OutsideArea)), 7)
    ∷ (1, Write (hex "00634040 0000000000000000 0000000000000000 00000000 01000000 00000000 00000000 0000000000000000 0900000000000000 0000000000000000 0000000000000000") (hex "000000000000000000"), Wrote 68 [] (Some (stop.Cause cause.OffsetsSize)), 8) ∷ [])

-- Five codes are refused by name (F3), whether or not their payload is there. One of them with another size is unknown (F2), a known code
-- without its whole payload is short (F1), and what stands before is run.
abbrev pub codes_refused_by_name : Type 0
codes_refused_by_name =
    Plays (stopped 1 "02630440 00000000" 0 (stop.Fault fault.RefusedCommand) 4
    ∷ stopped 1 "0a630840 0000000000000000" 0 (stop.Fault fault.RefusedCommand) 4
    ∷ stopped 1 "0b630000" 0 (stop.Fault fault.RefusedCommand) 4
    ∷ stopped 1 "11634840" 0 (stop.Fault fault.RefusedCommand) 4
    ∷ stopped 1 "12634840" 0 (stop.Fault fault.RefusedCommand) 4
    ∷ stopped 1 "0b630040" 0 (stop.Fault fault.UnknownCommand) 4
    ∷ stopped 1 "00630000" 0 (stop.Fault fault.UnknownCommand) 4
    ∷ stopped 1 "04630440 010000" 0 (stop.Fault fault.ShortCommand) 4
    ∷ stopped 1 "0c630000 02630440" 4 (stop.Fault fault.RefusedCommand) 5 ∷ [])
