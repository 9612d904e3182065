-- Where a record stands first, and that no other one does there.
use Rattle.std.proofs.Common.{◌≡◌, ℕ, zero, suc, ◌+◌, ◌*◌, ◌-◌, ◌^◌, ◌%◌, ◌<◌, ◌≤◌, List, [], ◌∷◌, ◌++◌, length, take, drop, replicate, refl, sym, ap, ap₂, ◌∙◌, arith, length-append, length-drop, append_assoc}
use Rattle.std.specs.Prelude.{slice_index, slice_range, bit_xor}
use Rattle.std.proofs.lemmas.List.{take_at, drop_at, drop-drop, drop-append-le, take-append-drop, get_or-drop, drop_more, length-take-le}
use Rattle.byteorder.specs.Endian.{big_bytes, big_number}
use Rattle.byteorder.specs.Numbers.{big_number-reads_back, big_from-append, length-bytes_high_first}
use Rattle.vr_journal.specs.declared.record.Kind.{Kind}
use Rattle.vr_journal.specs.declared.record.Kind.TheVariants.{Head, Start, Base, Input, Time}
use Rattle.vr_journal.specs.Records.{Entry, code, prime, body, sum_over, sum_behind, record_bytes, Fits, StandsFirst, NoneStands}

-- ---- kinds by their bytes

abbrev kind_at : ℕ → Kind
kind_at zero = Head
kind_at (suc zero) = Start
kind_at (suc (suc zero)) = Base
kind_at (suc (suc (suc zero))) = Input
kind_at (suc (suc (suc (suc n)))) = Time

kind_at_code : (k : Kind) → kind_at (code k) ≡ k
kind_at_code Head = refl
kind_at_code Start = refl
kind_at_code Base = refl
kind_at_code Input = refl
kind_at_code Time = refl

pub same_kind : (j k : Kind) → code j ≡ code k → j ≡ k
same_kind j k e = sym (kind_at_code j) ∙ ap kind_at e ∙ kind_at_code k

same_body : (e f : Entry) → body e ≡ body f → e ≡ f
same_body e f is =
    let kinds : e.kind ≡ f.kind = same_kind e.kind f.kind (ap (λ (xs : List ℕ). slice_index xs 0) is) in
    let bytes : e.bytes ≡ f.bytes = ap (λ (xs : List ℕ). drop 1 xs) is in
    ap₂ (λ (k : Kind) (b : List ℕ). the_entry k b) kinds bytes
  where
    the_entry : Kind → List ℕ → Entry
    the_entry k b = record { kind = k; bytes = b }

-- ---- one record stands first

body_taken : (sum : ℕ) (bytes : List ℕ) (e : Entry) (rest : List ℕ) → StandsFirst sum bytes e rest → take (big_number 4 bytes) (drop 12 bytes) ≡ body e
body_taken sum bytes e rest s = ap (take (big_number 4 bytes)) s.parts ∙ take_at (body e) rest (big_number 4 bytes) (sym s.length_is)

rest_dropped : (sum : ℕ) (bytes : List ℕ) (e : Entry) (rest : List ℕ) → StandsFirst sum bytes e rest → drop (big_number 4 bytes) (drop 12 bytes) ≡ rest
rest_dropped sum bytes e rest s = ap (drop (big_number 4 bytes)) s.parts ∙ drop_at (body e) rest (big_number 4 bytes) (sym s.length_is)

pub one_record : (sum : ℕ) (bytes : List ℕ) (e f : Entry) (rest more : List ℕ) → StandsFirst sum bytes e rest → StandsFirst sum bytes f more → (e ≡ f) × (rest ≡ more)
one_record sum bytes e f rest more a b = (
  same_body e f (sym (body_taken sum bytes e rest a) ∙ body_taken sum bytes f more b),
  sym (rest_dropped sum bytes e rest a) ∙ rest_dropped sum bytes f more b,
)

-- it has 13 bytes at least
pub long_enough : (sum : ℕ) (bytes : List ℕ) (e : Entry) (rest : List ℕ) → StandsFirst sum bytes e rest → 13 ≤ length bytes
long_enough sum bytes e rest s =
    let whole : length (drop 12 bytes) ≡ length (body e ++ rest) = ap length s.parts in
    omega (arith, whole, length-drop 12 bytes, length-append (body e) rest)

-- bytes behind don't matter
pub widened : (sum : ℕ) (bytes lost : List ℕ) (e : Entry) (rest : List ℕ) → StandsFirst sum bytes e rest → StandsFirst sum (bytes ++ lost) e (rest ++ lost)
widened sum bytes lost e rest s =
    let long : 13 ≤ length bytes = long_enough sum bytes e rest s in
    let behind_four : drop 4 (bytes ++ lost) ≡ drop 4 bytes ++ lost = drop-append-le 4 bytes lost (omega arith) in
    record {
      length_is = big_from-append 4 bytes lost (omega arith) ∙ s.length_is;
      sum_is = ap (big_number 8) behind_four ∙ big_from-append 8 (drop 4 bytes) lost (omega (arith, length-drop 4 bytes)) ∙ s.sum_is;
      parts = drop-append-le 12 bytes lost (omega arith) ∙ ap (λ (xs : List ℕ). xs ++ lost) s.parts ∙ append_assoc (body e) rest lost;
    }

-- ---- a record that was written stands first

sum_step : (sum byte : ℕ) → bit_xor sum byte * prime % 2 ^ 64 < 2 ^ 64
sum_step sum byte = omega arith

sum_fits : (sum byte : ℕ) (bytes : List ℕ) → sum_over sum (byte ∷ bytes) < 2 ^ 64
sum_fits sum byte [] = sum_step sum byte
sum_fits sum byte (c ∷ cs) = sum_fits (bit_xor sum byte * prime % 2 ^ 64) c cs

pub written_stands : (sum : ℕ) (e : Entry) (rest : List ℕ) → Fits e → StandsFirst sum (record_bytes sum e ++ rest) e rest
written_stands sum e rest fits =
    let n : ℕ = length (body e) in
    let behind : ℕ = sum_behind sum e in
    let four : List ℕ = big_bytes 4 n in
    let eight : List ℕ = big_bytes 8 behind in
    let bytes : List ℕ = record_bytes sum e ++ rest in
    let later : List ℕ = eight ++ (body e ++ rest) in
    let parted : bytes ≡ four ++ later = append_assoc four (eight ++ body e) rest ∙ ap (λ (xs : List ℕ). four ++ xs) (append_assoc eight (body e) rest) in
    let behind_four : drop 4 bytes ≡ later = ap (drop 4) parted ∙ drop_at four later 4 (length-bytes_high_first 4 n) in
    let behind_eight : drop 12 bytes ≡ body e ++ rest = sym (drop-drop 8 4 bytes) ∙ ap (drop 8) behind_four ∙ drop_at eight (body e ++ rest) 8 (length-bytes_high_first 8 behind) in
    record {
      length_is = ap (big_number 4) parted ∙ big_number-reads_back 4 n later fits;
      sum_is = ap (big_number 8) behind_four ∙ big_number-reads_back 8 behind (body e ++ rest) (sum_fits sum (code e.kind) e.bytes);
      parts = behind_eight;
    }

-- ---- zeros

zero_at : (n i : ℕ) → slice_index (replicate n 0) i ≡ 0
zero_at zero i = refl
zero_at (suc n) zero = refl
zero_at (suc n) (suc i) = zero_at n i

pub none_in_zeros : (sum n : ℕ) (e : Entry) (rest : List ℕ) → StandsFirst sum (replicate n 0) e rest → ⊥
none_in_zeros sum n e rest s =
    let none : big_number 4 (replicate n 0) ≡ 0 = omega (arith, zero_at n 0, zero_at n 1, zero_at n 2, zero_at n 3) in
    let some : length (body e) ≡ suc (length e.bytes) = refl in
    absurd (omega (arith, s.length_is, none, some))

-- ---- what a look at the front tells

pub too_short : (sum : ℕ) (bytes : List ℕ) → length bytes < 13 → NoneStands sum bytes
too_short sum bytes short = λ e rest s. absurd (omega (arith, short, long_enough sum bytes e rest s))

pub no_body : (sum : ℕ) (bytes : List ℕ) → big_number 4 bytes ≡ 0 → NoneStands sum bytes
no_body sum bytes none = λ e rest s.
    let some : length (body e) ≡ suc (length e.bytes) = refl in
    absurd (omega (arith, s.length_is, none, some))

pub cut_off : (sum : ℕ) (bytes : List ℕ) → length bytes - 12 < big_number 4 bytes → NoneStands sum bytes
cut_off sum bytes less = λ e rest s.
    let whole : length (drop 12 bytes) ≡ length (body e ++ rest) = ap length s.parts in
    absurd (omega (arith, less, whole, s.length_is, length-drop 12 bytes, length-append (body e) rest))

pub of_no_kind : (sum : ℕ) (bytes : List ℕ) → ((k : Kind) → code k ≡ slice_index bytes 12 → ⊥) → NoneStands sum bytes
of_no_kind sum bytes none = λ e rest s.
    none e.kind (sym (ap (λ (xs : List ℕ). slice_index xs 0) s.parts) ∙ get_or-drop 12 bytes 0 0)

-- the body that n bytes tell
told : (bytes : List ℕ) (n : ℕ) → slice_range bytes 12 (12 + n) ≡ take n (drop 12 bytes)
told bytes n = let same : 12 + n - 12 ≡ n = omega arith in ap (λ (k : ℕ). take k (drop 12 bytes)) same

pub wrong_sum : (sum : ℕ) (bytes : List ℕ) (n : ℕ) → n ≡ big_number 4 bytes → (big_number 8 (drop 4 bytes) ≡ sum_over sum (slice_range bytes 12 (12 + n)) → ⊥) → NoneStands sum bytes
wrong_sum sum bytes n is wrong = λ e rest s.
    let taken : take n (drop 12 bytes) ≡ body e = ap (λ (k : ℕ). take k (drop 12 bytes)) is ∙ body_taken sum bytes e rest s in
    wrong (s.sum_is ∙ ap (sum_over sum) (sym (told bytes n ∙ taken)))

-- the record whose end is there
abbrev pub found_entry : List ℕ → Kind → ℕ → Entry
found_entry bytes kind end = record { kind = kind; bytes = slice_range bytes 13 end }

pub told_body : (bytes : List ℕ) (kind : Kind) (n : ℕ) → 0 < n → n ≤ length bytes - 12 → code kind ≡ slice_index bytes 12
    → slice_range bytes 12 (12 + n) ≡ body (found_entry bytes kind (12 + n))
told_body bytes kind n some fits is =
    let first : drop 12 bytes ≡ slice_index bytes 12 ∷ drop 13 bytes = drop_more bytes 12 0 (omega arith) in
    let less : n ≡ suc (n - 1) = omega arith in
    let one : take n (drop 12 bytes) ≡ slice_index bytes 12 ∷ take (n - 1) (drop 13 bytes) = ap₂ (λ (k : ℕ) (xs : List ℕ). take k xs) less first in
    let same : n - 1 ≡ 12 + n - 13 = omega arith in
    told bytes n ∙ one ∙ ap₂ (λ (k m : ℕ). k ∷ take m (drop 13 bytes)) (sym is) same

pub told_stands : (sum : ℕ) (bytes : List ℕ) (kind : Kind) (n : ℕ) → n ≡ big_number 4 bytes → 0 < n → n ≤ length bytes - 12 → code kind ≡ slice_index bytes 12
    → big_number 8 (drop 4 bytes) ≡ sum_over sum (slice_range bytes 12 (12 + n)) → StandsFirst sum bytes (found_entry bytes kind (12 + n)) (drop (12 + n) bytes)
told_stands sum bytes kind n tells some fits is right =
    let e : Entry = found_entry bytes kind (12 + n) in
    let whole : slice_range bytes 12 (12 + n) ≡ body e = told_body bytes kind n some fits is in
    let taken : take n (drop 12 bytes) ≡ body e = sym (told bytes n) ∙ whole in
    let long : length (body e) ≡ n = sym (ap length taken) ∙ length-take-le n (drop 12 bytes) (omega (arith, length-drop 12 bytes)) in
    record {
      length_is = sym tells ∙ sym long;
      sum_is = right ∙ ap (sum_over sum) whole;
      parts = sym (take-append-drop n (drop 12 bytes)) ∙ ap₂ (λ (xs ys : List ℕ). xs ++ ys) taken (drop-drop n 12 bytes);
    }
