-- Reading piece by piece: what was read, and then what is read of the rest.
use Rattle.std.proofs.Common.{◌≡◌, ℕ, ◌+◌, ◌*◌, ◌/◌, ◌%◌, ◌<◌, ◌≤◌, ◌&&◌, Bool, true, false, leb, eqb, suc, List, [], ◌∷◌, ◌++◌, length, get_or, drop, Option, Some, None, refl, sym, ap, ◌∙◌, arith, append_assoc, tests, Result, Ok, Err}
use Rattle.std.specs.List.{flat_map, slice_split}
use Rattle.std.proofs.lemmas.Bool.{eqb-true, le-leb, lt-leb, lt-ltb}
use Rattle.std.proofs.lemmas.Bool.Decides.{nat_tests}
use Rattle.std.proofs.lemmas.List.{append-nil, drop_all, drop_more, flat_map_more}
use Rattle.std.specs.Option.{option_map, unwrap_or}
use Rattle.std.specs.Str.{bytes_eq}
use Rattle.bd_uapi.specs.Bytes.{IsBytes}
use Rattle.bd_script.specs.Words.{◌>>=◌, long_of}
use Rattle.bd_script.specs.Hex.{digit_of, hex_digit, hex_pair, hex_word, pairs_of, hex_of}
use Rattle.bd_script.specs.Text.{lines, longs_of, offsets_of}
use Rattle.bd_uapi.specs.declared.command.TransactionData.{TransactionData}
use Rattle.bd_uapi.specs.declared.command.Command.{Command}
use Rattle.bd_script.specs.Requests.{area_of, data_of, command_with, write_of, send}
use Rattle.bd_script.specs.Scripts.{Read, with_line, read_from, ends, script_of, error_at, SaysAs}
use Rattle.bd_script.specs.declared.script.Trouble.{Trouble}
use Rattle.bd_script.specs.declared.script.Trouble.TheVariants.{Bad, Memory}

abbrev pub joined : List ℕ → Option (List ℕ) → Option (List ℕ)
joined read rest = option_map (λ more. read ++ more) rest

one_more : (read : List ℕ) (n : ℕ) (rest : Option (List ℕ)) → joined read (rest >>= (λ more. Some (n ∷ more))) ≡ joined (read ++ n ∷ []) rest
one_more read n None = refl
one_more read n (Some more) = ap Some (sym (append_assoc read (n ∷ []) more))

-- ---- pairs of digits

pub pair_step : (read rest : List ℕ) (x y : ℕ) → 2 ≤ length rest → digit_of (get_or rest 0 0) ≡ Some x → digit_of (get_or rest 1 0) ≡ Some y
    → joined read (pairs_of rest) ≡ joined (read ++ (x * 16 + y) ∷ []) (pairs_of (drop 2 rest))
pair_step read [] x y few p q = absurd (omega arith)
pair_step read (h ∷ []) x y few p q = absurd (omega arith)
pair_step read (h ∷ l ∷ rest) x y few p q = rw (p, q) (one_more read (x * 16 + y) (pairs_of rest))

digit_small : (b n : ℕ) → digit_of b ≡ Some n → n < 16
digit_small b n e = grind (arith, nat_tests)

digit_spelled : (b n : ℕ) → digit_of b ≡ Some n → hex_digit n ≡ b
digit_spelled b n e = grind (arith, nat_tests)

pub pair_spelled : (word read rest : List ℕ) (x y : ℕ) → 2 ≤ length rest → digit_of (get_or rest 0 0) ≡ Some x → digit_of (get_or rest 1 0) ≡ Some y
    → word ≡ flat_map hex_pair read ++ rest → word ≡ flat_map hex_pair (read ++ (x * 16 + y) ∷ []) ++ drop 2 rest
pair_spelled word read [] x y few p q is = absurd (omega arith)
pair_spelled word read (h ∷ []) x y few p q is = absurd (omega arith)
pair_spelled word read (h ∷ l ∷ rest) x y few p q is =
    let small : y < 16 = digit_small l y q in
    let high : (x * 16 + y) / 16 ≡ x = omega arith in
    let low : (x * 16 + y) % 16 ≡ y = omega arith in
    let same : hex_pair (x * 16 + y) ≡ h ∷ l ∷ [] = ap (λ n. hex_digit n ∷ hex_digit ((x * 16 + y) % 16) ∷ []) high ∙ ap (λ n. hex_digit x ∷ hex_digit n ∷ []) low
    ∙ ap (λ d. d ∷ hex_digit y ∷ []) (digit_spelled h x p) ∙ ap (λ d. h ∷ d ∷ []) (digit_spelled l y q) in
    is ∙ sym (append_assoc (flat_map hex_pair read) (h ∷ l ∷ []) rest) ∙ ap (λ pair. (flat_map hex_pair read ++ pair) ++ rest) (sym same) ∙ ap (λ all. all ++ rest) (flat_map_more hex_pair [] read (x * 16 + y))

-- a digit of a number is read as the number
digit_read : (n : ℕ) → n < 16 → digit_of (hex_digit n) ≡ Some n
digit_read n lt = grind (arith, nat_tests)

pub pairs_read : (bytes : List ℕ) → IsBytes bytes → pairs_of (flat_map hex_pair bytes) ≡ Some bytes
pairs_read [] are = refl
pairs_read (b ∷ bs) are =
    let small : b < 256 = are 0 in
    let high : digit_of (hex_digit (b / 16)) ≡ Some (b / 16) = digit_read (b / 16) (omega arith) in
    let low : digit_of (hex_digit (b % 16)) ≡ Some (b % 16) = digit_read (b % 16) (omega arith) in
    let more : pairs_of (flat_map hex_pair bs) ≡ Some bs = pairs_read bs (λ i. are (suc i)) in
    let back : b / 16 * 16 + b % 16 ≡ b = omega arith in
    rw (high, low, more) (ap (λ n. Some (n ∷ bs)) back)

length_pairs : (bytes : List ℕ) → length (flat_map hex_pair bytes) ≡ 2 * length bytes
length_pairs [] = refl
length_pairs (b ∷ bs) = let h = length_pairs bs in omega arith

and_false : (a : Bool) → (a && false) ≡ false
and_false true = refl
and_false false = refl

within : (word : List ℕ) → bytes_eq word (45 ∷ []) ≡ false → 0 < length word → length word ≤ 8388608 → hex_of word ≡ pairs_of word
within word some any few = rw (some, lt-ltb 0 (length word) any, le-leb (length word) 8388608 few) refl

pub hex_read : (bytes : List ℕ) → IsBytes bytes → length bytes ≤ 4194304 → hex_of (hex_word bytes) ≡ Some bytes
hex_read [] are few = refl
hex_read (b ∷ bs) are few =
    let word = flat_map hex_pair (b ∷ bs) in
    let many : length word ≡ 2 * length (b ∷ bs) = length_pairs (b ∷ bs) in
    let some : bytes_eq word (45 ∷ []) ≡ false = and_false (eqb (hex_digit (b / 16)) 45) in
    within word some (omega (arith, many)) (omega (arith, many)) ∙ pairs_read (b ∷ bs) are

-- ---- numbers with commas between them

rest_is : (parts : List (List ℕ)) (i : ℕ) (part : List ℕ) → (i < length parts) × (part ≡ get_or parts i part) → drop i parts ≡ part ∷ drop (i + 1) parts
rest_is parts i part t = drop_more parts i part t.0 ∙ ap (λ p. p ∷ drop (i + 1) parts) (sym t.1)

pub long_read : (parts : List (List ℕ)) (read : List ℕ) (i n : ℕ) (part : List ℕ) (total : Option (List ℕ)) → (i < length parts) × (part ≡ get_or parts i part) → long_of part ≡ Some n
    → joined read (longs_of (drop i parts)) ≡ total → joined (read ++ n ∷ []) (longs_of (drop (i + 1) parts)) ≡ total
long_read parts read i n part total t is so_far =
    let one : longs_of (drop i parts) ≡ longs_of (part ∷ drop (i + 1) parts) = ap longs_of (rest_is parts i part t) in
    let two : longs_of (part ∷ drop (i + 1) parts) ≡ (longs_of (drop (i + 1) parts) >>= (λ ns. Some (n ∷ ns))) = rw is refl in
    sym (one_more read n (longs_of (drop (i + 1) parts))) ∙ ap (joined read) (sym (one ∙ two)) ∙ so_far

pub long_bad : (parts : List (List ℕ)) (read : List ℕ) (i : ℕ) (part : List ℕ) (total : Option (List ℕ)) → (i < length parts) × (part ≡ get_or parts i part) → long_of part ≡ None
    → joined read (longs_of (drop i parts)) ≡ total → total ≡ None
long_bad parts read i part total t is so_far =
    let one : longs_of (drop i parts) ≡ longs_of (part ∷ drop (i + 1) parts) = ap longs_of (rest_is parts i part t) in
    let two : longs_of (part ∷ drop (i + 1) parts) ≡ None = rw is refl in
    sym so_far ∙ ap (joined read) (one ∙ two)

pub longs_end : (parts : List (List ℕ)) (read : List ℕ) (i : ℕ) (total : Option (List ℕ)) → length parts ≤ i → joined read (longs_of (drop i parts)) ≡ total → total ≡ Some read
longs_end parts read i total past so_far = sym so_far ∙ (rw (drop_all i parts past) (ap Some (append-nil read)))

abbrev pub parts_of : List ℕ → List (List ℕ)
parts_of word = slice_split (λ b. eqb b 44) word

pub parts_read : (word : List ℕ) → bytes_eq word (45 ∷ []) ≡ false → length (parts_of word) ≤ 524288 → offsets_of word ≡ longs_of (parts_of word)
parts_read word some few = rw (some, le-leb _ _ few) refl

pub parts_too_many : (word : List ℕ) → bytes_eq word (45 ∷ []) ≡ false → 524288 < length (parts_of word) → offsets_of word ≡ None
parts_too_many word some many = rw (some, lt-leb _ _ many) refl

pub parts_bad : (word : List ℕ) → bytes_eq word (45 ∷ []) ≡ false → longs_of (parts_of word) ≡ None → offsets_of word ≡ None
parts_bad word some bad = by (leb (length (parts_of word)) 524288) refl
  where
    by : (t : Bool) → leb (length (parts_of word)) 524288 ≡ t → offsets_of word ≡ None
    by true e = rw (some, e) bad
    by false e = rw (some, e) refl

-- ---- lines

pub line_read : (all : List (List ℕ)) (i : ℕ) (line : List ℕ) (so_far more : Read) (n : ℕ) (total : Result Read ℕ) → (i < length all) × (line ≡ get_or all i line) → n ≡ i + 1 → with_line n line so_far ≡ Some more
    → read_from (i + 1) (drop i all) so_far ≡ total → read_from (i + 1 + 1) (drop (i + 1) all) more ≡ total
line_read all i line so_far more n total t e was here =
    let is : with_line (i + 1) line so_far ≡ Some more = rw (← e) was in
    let one : read_from (i + 1) (drop i all) so_far ≡ read_from (i + 1) (line ∷ drop (i + 1) all) so_far = ap (λ ls. read_from (i + 1) ls so_far) (rest_is all i line t) in
    let two : read_from (i + 1) (line ∷ drop (i + 1) all) so_far ≡ read_from (i + 1 + 1) (drop (i + 1) all) more = rw is refl in
    sym (one ∙ two) ∙ here

pub line_bad : (all : List (List ℕ)) (i : ℕ) (line : List ℕ) (so_far : Read) (n : ℕ) (total : Result Read ℕ) → (i < length all) × (line ≡ get_or all i line) → n ≡ i + 1 → with_line n line so_far ≡ None
    → read_from (i + 1) (drop i all) so_far ≡ total → total ≡ Err n
line_bad all i line so_far n total t e was here =
    let is : with_line (i + 1) line so_far ≡ None = rw (← e) was in
    let one : read_from (i + 1) (drop i all) so_far ≡ read_from (i + 1) (line ∷ drop (i + 1) all) so_far = ap (λ ls. read_from (i + 1) ls so_far) (rest_is all i line t) in
    let two : read_from (i + 1) (line ∷ drop (i + 1) all) so_far ≡ Err (i + 1) = rw is refl in
    sym here ∙ one ∙ two ∙ ap Err (sym e)

pub lines_end : (all : List (List ℕ)) (i : ℕ) (so_far : Read) (total : Result Read ℕ) → length all ≤ i → read_from (i + 1) (drop i all) so_far ≡ total → total ≡ Ok so_far
lines_end all i so_far total past here = sym here ∙ rw (drop_all i all past) refl

pub says_trouble : (trouble : Trouble) (number : ℕ) (said : Result Read ℕ) → (trouble ≡ Bad → said ≡ Err number) → SaysAs (Err (error_at trouble number)) said
says_trouble Bad number said is = is refl
says_trouble Memory number said is = tt

-- ---- the whole script

abbrev pub from_lines : List ℕ → Result Read ℕ
from_lines text = read_from 1 (lines text) (record { seats = 0; lines = [] })

pub bad_script : (text : List ℕ) (number : ℕ) → from_lines text ≡ Err number → script_of text ≡ Err number
unfolding script_of
bad_script text number e = ap ends e

pub no_seats : (text : List ℕ) (all : Read) → from_lines text ≡ Ok all → all.seats ≡ 0 → script_of text ≡ Err 0
unfolding script_of
no_seats text all e none = ap ends e ∙ rw none refl

pub whole_script : (text : List ℕ) (all : Read) → from_lines text ≡ Ok all → (all.seats ≡ 0 → ⊥) → script_of text ≡ Ok all
unfolding script_of
whole_script text all e some = ap ends e ∙ by (eqb all.seats 0) refl
  where
    by : (t : Bool) → eqb all.seats 0 ≡ t → ends (Ok all) ≡ Ok all
    by true h = absurd (some (eqb-true _ _ h))
    by false h = rw h refl

-- ---- a transaction

pub sent_is : (target : Option ℕ) (code flags n : ℕ) (bytes offsets area : List ℕ) (t : TransactionData) (c : Command) → n ≡ unwrap_or target 0 → t ≡ data_of n code flags bytes offsets → c ≡ command_with target t → area ≡ area_of bytes offsets
    → write_of c area ≡ send target code flags bytes offsets
sent_is target code flags n bytes offsets area t c is_target is_record is_command is_area =
    ap (λ x. write_of x area) (is_command ∙ ap (command_with target) (is_record ∙ ap (λ m. data_of m code flags bytes offsets) is_target))
    ∙ ap (write_of (command_with target (data_of (unwrap_or target 0) code flags bytes offsets))) is_area
