-- What each shape of payload reads as is spelled so, and what is spelled so is read.
use Rattle.std.proofs.Common.{◌≡◌, ℕ, ◌+◌, ◌^◌, ◌<◌, ◌≤◌, List, [], ◌++◌, length, take, drop, Ok, refl, sym, ap, ◌∙◌, arith, w32, FitsSigned, ℤ}
use Rattle.std.specs.Int.{cast_signed, cast_unsigned}
use Rattle.std.proofs.Math.Facts.{sfits_to_z, Fits-of_z}
use Rattle.std.proofs.lemmas.Int.{of_z-to_z, to_z-of_z}
use Rattle.std.proofs.lemmas.Bool.{le-ltb}
use Rattle.bd_uapi.specs.declared.command.TransactionData.{TransactionData}
use Rattle.bd_uapi.specs.Bytes.{word, long, word_at, long_at}
use Rattle.bd_uapi.specs.Records.{record_bytes, IsRecord}
use Rattle.bd_codec.specs.Reading.{record_at, sized, Row, bare_row, record_row, handle_row, pointer_row, pointer_and_cookie_row, handle_and_cookie_row}
use Rattle.bd_uapi.proofs.Pieces.{IsBytes, word_takes, long_takes, word_fits, long_fits, glue, word_again, long_again}

-- ---- what is read is spelled so

unsigned_fits : (z : ℤ) → FitsSigned w32 z → cast_unsigned w32 z < 2 ^ 32
unsigned_fits z h = (Fits-of_z {w = w32} {z = z} h).fits

pid_takes : (at : ℕ) (bytes : List ℕ) → IsBytes bytes → at + 4 ≤ length bytes → word (cast_unsigned w32 (cast_signed w32 (word_at at bytes))) ≡ take 4 (drop at bytes)
pid_takes at bytes h le = ap word (of_z-to_z w32 (word_at at bytes) (word_fits at bytes h)) ∙ word_takes at bytes h le

record_takes : (bytes : List ℕ) → IsBytes bytes → 68 ≤ length bytes → record_bytes (record_at 4 bytes) ≡ take 64 (drop 4 bytes)
unfolding record_at
record_takes bytes h le =
    glue 4 56 8 bytes _ _ (glue 4 48 8 bytes _ _ (glue 4 40 8 bytes _ _ (glue 4 32 8 bytes _ _ (glue 4 28 4 bytes _ _ (glue 4 24 4 bytes _ _ (glue 4 20 4 bytes _ _ (glue 4 16 4 bytes _ _ (glue 4 8 8 bytes _ _
    (long_takes 4 bytes h (omega arith)) (long_takes 12 bytes h (omega arith))) (word_takes 20 bytes h (omega arith))) (word_takes 24 bytes h (omega arith))) (pid_takes 28 bytes h (omega arith)))
    (word_takes 32 bytes h (omega arith))) (long_takes 36 bytes h (omega arith))) (long_takes 44 bytes h (omega arith))) (long_takes 52 bytes h (omega arith))) (long_takes 60 bytes h (omega arith))

record_fits : (bytes : List ℕ) → IsBytes bytes → IsRecord (record_at 4 bytes)
unfolding record_at
record_fits bytes h = record {
  target = long_fits 4 bytes h;
  cookie = long_fits 12 bytes h;
  code = word_fits 20 bytes h;
  flags = word_fits 24 bytes h;
  sender_pid = sfits_to_z {w = w32} {n = word_at 28 bytes} (record { fits = word_fits 28 bytes h });
  sender_euid = word_fits 32 bytes h;
  data_size = long_fits 36 bytes h;
  offsets_size = long_fits 44 bytes h;
  buffer = long_fits 52 bytes h;
  offsets = long_fits 60 bytes h;
}

-- Bytes that begin with a code and then have its payload are the whole spelling.
whole : (code n : ℕ) (bytes payload : List ℕ) → IsBytes bytes → 4 + n ≤ length bytes → word_at 0 bytes ≡ code → payload ≡ take n (drop 4 bytes) → word code ++ payload ≡ take (4 + n) bytes
whole code n bytes payload h le is p = glue 0 4 n bytes (word code) payload (ap word (sym is) ∙ word_takes 0 bytes h (omega arith)) p

-- what a row reads is spelled so
pub record Right {A : Type 0} (spelling : A → List ℕ) (IsValue : A → Type 0) (row : Row A) : Type 0 where
  pub spelled : (bytes : List ℕ) → IsBytes bytes → row.size ≤ length bytes → word_at 0 bytes ≡ row.code → spelling (row.value bytes) ≡ take row.size bytes
  pub fits : (bytes : List ℕ) → IsBytes bytes → IsValue (row.value bytes)

pub bare_right : {A : Type 0} (spelling : A → List ℕ) (IsValue : A → Type 0) (code : A → ℕ) (x : A) → spelling x ≡ word (code x) ++ [] → IsValue x → Right spelling IsValue (bare_row code x)
bare_right spelling IsValue code x e fits = record {
  spelled = λ b h le is. e ∙ whole (code x) 0 b [] h le is refl;
  fits = λ b h. fits;
}

pub record_right : {A : Type 0} (spelling : A → List ℕ) (IsValue : A → Type 0) (code : A → ℕ) (f : TransactionData → A)
    → ((t : TransactionData) → spelling (f t) ≡ word (code (f (record_at 0 []))) ++ record_bytes t) → ((t : TransactionData) → IsRecord t → IsValue (f t)) → Right spelling IsValue (record_row code f)
record_right spelling IsValue code f e fits = record {
  spelled = λ b h le is. e (record_at 4 b) ∙ whole (code (f (record_at 0 []))) 64 b (record_bytes (record_at 4 b)) h le is (record_takes b h le);
  fits = λ b h. fits (record_at 4 b) (record_fits b h);
}

pub handle_right : {A : Type 0} (spelling : A → List ℕ) (IsValue : A → Type 0) (code : A → ℕ) (f : ℕ → A)
    → ((n : ℕ) → spelling (f n) ≡ word (code (f 0)) ++ word n) → ((n : ℕ) → n < 2 ^ 32 → IsValue (f n)) → Right spelling IsValue (handle_row code f)
handle_right spelling IsValue code f e fits = record {
  spelled = λ b h le is. e (word_at 4 b) ∙ whole (code (f 0)) 4 b (word (word_at 4 b)) h le is (word_takes 4 b h le);
  fits = λ b h. fits (word_at 4 b) (word_fits 4 b h);
}

pub pointer_right : {A : Type 0} (spelling : A → List ℕ) (IsValue : A → Type 0) (code : A → ℕ) (f : ℕ → A)
    → ((n : ℕ) → spelling (f n) ≡ word (code (f 0)) ++ long n) → ((n : ℕ) → n < 2 ^ 64 → IsValue (f n)) → Right spelling IsValue (pointer_row code f)
pointer_right spelling IsValue code f e fits = record {
  spelled = λ b h le is. e (long_at 4 b) ∙ whole (code (f 0)) 8 b (long (long_at 4 b)) h le is (long_takes 4 b h le);
  fits = λ b h. fits (long_at 4 b) (long_fits 4 b h);
}

pub pointer_and_cookie_right : {A : Type 0} (spelling : A → List ℕ) (IsValue : A → Type 0) (code : A → ℕ) (f : ℕ → ℕ → A)
    → ((m n : ℕ) → spelling (f m n) ≡ word (code (f 0 0)) ++ (long m ++ long n)) → ((m n : ℕ) → m < 2 ^ 64 → n < 2 ^ 64 → IsValue (f m n)) → Right spelling IsValue (pointer_and_cookie_row code f)
pointer_and_cookie_right spelling IsValue code f e fits = record {
  spelled = λ b h le is. e (long_at 4 b) (long_at 12 b) ∙ whole (code (f 0 0)) 16 b (long (long_at 4 b) ++ long (long_at 12 b)) h le is (glue 4 8 8 b _ _ (long_takes 4 b h (omega arith)) (long_takes 12 b h le));
  fits = λ b h. fits (long_at 4 b) (long_at 12 b) (long_fits 4 b h) (long_fits 12 b h);
}

pub handle_and_cookie_right : {A : Type 0} (spelling : A → List ℕ) (IsValue : A → Type 0) (code : A → ℕ) (f : ℕ → ℕ → A)
    → ((m n : ℕ) → spelling (f m n) ≡ word (code (f 0 0)) ++ (word m ++ long n)) → ((m n : ℕ) → m < 2 ^ 32 → n < 2 ^ 64 → IsValue (f m n)) → Right spelling IsValue (handle_and_cookie_row code f)
handle_and_cookie_right spelling IsValue code f e fits = record {
  spelled = λ b h le is. e (word_at 4 b) (long_at 8 b) ∙ whole (code (f 0 0)) 12 b (word (word_at 4 b) ++ long (long_at 8 b)) h le is (glue 4 4 8 b _ _ (word_takes 4 b h (omega arith)) (long_takes 8 b h le));
  fits = λ b h. fits (word_at 4 b) (long_at 8 b) (word_fits 4 b h) (long_fits 8 b h);
}

-- ---- what is spelled so is read

sized_again : {A : Type 0} (n : ℕ) (bytes : List ℕ) (x y : A) → n ≤ length bytes → x ≡ y → sized n bytes x ≡ Ok y
sized_again n bytes x y le e = rw (le-ltb _ _ le, e) refl

record_back : (code : ℕ) (t : TransactionData) (rest : List ℕ) → IsRecord t → record_at 4 (word code ++ record_bytes t ++ rest) ≡ t
unfolding record_at word_at long_at
record_back code t rest fits =
    rw (
      long_again t.target _ fits.target,
      long_again t.cookie _ fits.cookie,
      word_again t.code _ fits.code,
      word_again t.flags.0 _ fits.flags,
      word_again (cast_unsigned w32 t.sender_pid) _ (unsigned_fits t.sender_pid fits.sender_pid),
      to_z-of_z w32 t.sender_pid fits.sender_pid,
      word_again t.sender_euid _ fits.sender_euid,
      long_again t.data_size _ fits.data_size,
      long_again t.offsets_size _ fits.offsets_size,
      long_again t.buffer _ fits.buffer,
      long_again t.offsets _ fits.offsets,
    ) refl

long_at_4 : (code n : ℕ) (rest : List ℕ) → n < 2 ^ 64 → long_at 4 (word code ++ (long n ++ rest)) ≡ n
unfolding long_at
long_at_4 code n rest lt = long_again n rest lt

word_at_4 : (code n : ℕ) (rest : List ℕ) → n < 2 ^ 32 → word_at 4 (word code ++ (word n ++ rest)) ≡ n
unfolding word_at
word_at_4 code n rest lt = word_again n rest lt

long_at_12 : (code m n : ℕ) (rest : List ℕ) → n < 2 ^ 64 → long_at 12 (word code ++ (long m ++ (long n ++ rest))) ≡ n
unfolding long_at
long_at_12 code m n rest lt = long_again n rest lt

long_at_8 : (code m n : ℕ) (rest : List ℕ) → n < 2 ^ 64 → long_at 8 (word code ++ (word m ++ (long n ++ rest))) ≡ n
unfolding long_at
long_at_8 code m n rest lt = long_again n rest lt

pub bare_again : {A : Type 0} (code : ℕ) (x : A) (rest : List ℕ) → sized {A = A × ℕ} 4 (word code ++ rest) (x, 4) ≡ Ok (x, 4)
bare_again {A} code x rest = sized_again {A = A × ℕ} 4 (word code ++ rest) _ _ (omega arith) refl

pub record_again : {A : Type 0} (code : ℕ) (f : TransactionData → A) (t : TransactionData) (rest : List ℕ) → IsRecord t
    → (let bytes = word code ++ record_bytes t ++ rest in sized {A = A × ℕ} 68 bytes (f (record_at 4 bytes), 68)) ≡ Ok (f t, 68)
record_again {A} code f t rest fits = sized_again {A = A × ℕ} 68 (word code ++ record_bytes t ++ rest) _ _ (omega arith) (ap (λ t. (f t, 68)) (record_back code t rest fits))

pub handle_again : {A : Type 0} (code : ℕ) (f : ℕ → A) (n : ℕ) (rest : List ℕ) → n < 2 ^ 32
    → (let bytes = word code ++ (word n ++ rest) in sized {A = A × ℕ} 8 bytes (f (word_at 4 bytes), 8)) ≡ Ok (f n, 8)
handle_again {A} code f n rest fits = sized_again {A = A × ℕ} 8 (word code ++ (word n ++ rest)) _ _ (omega arith) (ap (λ n. (f n, 8)) (word_at_4 code n rest fits))

pub pointer_again : {A : Type 0} (code : ℕ) (f : ℕ → A) (n : ℕ) (rest : List ℕ) → n < 2 ^ 64
    → (let bytes = word code ++ (long n ++ rest) in sized {A = A × ℕ} 12 bytes (f (long_at 4 bytes), 12)) ≡ Ok (f n, 12)
pointer_again {A} code f n rest fits = sized_again {A = A × ℕ} 12 (word code ++ (long n ++ rest)) _ _ (omega arith) (ap (λ n. (f n, 12)) (long_at_4 code n rest fits))

pub pointer_and_cookie_again : {A : Type 0} (code : ℕ) (f : ℕ → ℕ → A) (m n : ℕ) (rest : List ℕ) → m < 2 ^ 64 → n < 2 ^ 64
    → (let bytes = word code ++ (long m ++ (long n ++ rest)) in sized {A = A × ℕ} 20 bytes (f (long_at 4 bytes) (long_at 12 bytes), 20)) ≡ Ok (f m n, 20)
pointer_and_cookie_again {A} code f m n rest fm fn = sized_again {A = A × ℕ} 20 (word code ++ (long m ++ (long n ++ rest))) _ _ (omega arith) (rw (long_at_4 code m (long n ++ rest) fm, long_at_12 code m n rest fn) refl)

pub handle_and_cookie_again : {A : Type 0} (code : ℕ) (f : ℕ → ℕ → A) (m n : ℕ) (rest : List ℕ) → m < 2 ^ 32 → n < 2 ^ 64
    → (let bytes = word code ++ (word m ++ (long n ++ rest)) in sized {A = A × ℕ} 16 bytes (f (word_at 4 bytes) (long_at 8 bytes), 16)) ≡ Ok (f m n, 16)
handle_and_cookie_again {A} code f m n rest fm fn = sized_again {A = A × ℕ} 16 (word code ++ (word m ++ (long n ++ rest))) _ _ (omega arith) (rw (word_at_4 code m (long n ++ rest) fm, long_at_8 code m n rest fn) refl)
