-- Literals that an expansion makes, and the words that are everywhere the same.
use Rattle.std.proofs.Common.{◌≡◌, ℕ, zero, suc, ◌+◌, ◌/◌, ◌%◌, ◌<◌, Bool, true, false, List, [], ◌∷◌, ◌++◌, length, take, drop, Option, Some, None, refl, sym, ap, ◌∙◌, subst, arith, inl, inr, codes, append_assoc, find, decimal}
use Rattle.std.specs.Prelude.{◌⊎◌, ◌==◌, nat_le, is_some, if◌then◌else◌}
use Rattle.std.specs.Str.{bytes_eq}
use Rattle.std.specs.List.{prefix_len, list_all}
use Rattle.std.proofs.lemmas.Bool.{le-leb, lt-ltb, eqb-true, and_parts, and_from}
use Rattle.std.proofs.lemmas.List.{take_at, drop_at}
use Rattle.std.specs.Fmt.{digits, digits_onto, digit_glyph}
use Rattle.std.proofs.lemmas.Slice.Eq.{bytes_eq-Decides}
use Rattle.il_values.specs.declared.value.Ty.{Ty}
use Rattle.il_values.specs.declared.value.Ty.TheVariants as types
use Rattle.il_values.specs.Spelled.{spells}
use Rattle.il_model.specs.Literals.{literal_of, are_digits, value_behind}
use Rattle.il_model.specs.Words.{is_well_spelled}
use Rattle.il_model.specs.Dialects.{literal_in}
use Rattle.il_model.specs.declared.dialect.Dialect.TheVariants as dialects
use Rattle.il_reader.specs.declared.lexeme.Sign.{Sign}
use Rattle.il_reader.specs.declared.lexeme.Sign.TheVariants as signs
use Rattle.il_reader.specs.declared.fault.FaultKind.TheVariants.{BadLiteral}
use Rattle.il_reader.specs.Tokens.{sign, broken, is_within, is_letter_byte, is_word_byte, is_literal_byte, begins_with, literal_piece, solid_piece, sign_of, piece_of}
use Rattle.il_units.specs.Members.{type_word, type_named, elementary_types, takes_numbers}
use Rattle.laws_reading.proofs.Names.{one_more, solid_is}
use Rattle.laws_reading.proofs.Again.{whole_again, literal_there, word_hash, first_one, number_piece}
use Rattle.laws_reading.proofs.Runs.{MayBe, IsRun, plain_run}

-- ---- a literal behind a word and a number sign, or none

no_literal : (text : List ℕ) → is_some (literal_in dialects.Extended text) ≡ false → literal_piece dialects.Extended text ≡ broken BadLiteral
unfolding literal_piece
no_literal text is = rw is refl

word_prefix : (ws xs : List ℕ) → list_all is_word_byte ws ≡ true → prefix_len is_word_byte (ws ++ 35 ∷ xs) ≡ length ws
word_prefix [] xs all = refl
word_prefix (b ∷ bs) xs all = let h = and_parts (is_word_byte b) (list_all is_word_byte bs) all in rw (h.0, word_prefix bs xs h.1) (one_more (length bs))

word_literals : (ws : List ℕ) → list_all is_word_byte ws ≡ true → list_all is_literal_byte ws ≡ true
word_literals [] all = refl
word_literals (b ∷ bs) all =
    let h = and_parts (is_word_byte b) (list_all is_word_byte bs) all in
    let here : is_literal_byte b ≡ true = rw h.0 refl in
    and_from (is_literal_byte b) (list_all is_literal_byte bs) here (word_literals bs h.1)

all_both : (p : ℕ → Bool) (xs ys : List ℕ) → list_all p xs ≡ true → list_all p ys ≡ true → list_all p (xs ++ ys) ≡ true
all_both p [] ys a b = b
all_both p (x ∷ xs) ys a b = let h = and_parts (p x) (list_all p xs) a in and_from (p x) (list_all p (xs ++ ys)) h.0 (all_both p xs ys h.1 b)

hash_behind : (b : ℕ) (ws xs : List ℕ) → list_all is_word_byte ws ≡ true → begins_with 35 (drop (1 + prefix_len is_word_byte (ws ++ 35 ∷ xs)) (b ∷ ws ++ 35 ∷ xs)) ≡ true
hash_behind b ws xs all =
    ap (λ (n : ℕ). begins_with 35 (drop n (b ∷ ws ++ 35 ∷ xs))) (one_more (prefix_len is_word_byte (ws ++ 35 ∷ xs)) ∙ ap suc (word_prefix ws xs all))
    ∙ ap (begins_with 35) (drop_at ws (35 ∷ xs) (length ws) refl)

typed_piece : (b : ℕ) (ws xs rest : List ℕ) → is_letter_byte b ≡ true → list_all is_word_byte ws ≡ true → list_all is_literal_byte xs ≡ true
    → piece_of dialects.Extended (b ∷ (ws ++ 35 ∷ xs) ++ 32 ∷ rest) ≡ literal_piece dialects.Extended (b ∷ ws ++ 35 ∷ xs)
typed_piece b ws xs rest letter word all =
    let same : (ws ++ 35 ∷ xs) ++ 32 ∷ rest ≡ ws ++ 35 ∷ (xs ++ 32 ∷ rest) = append_assoc ws (35 ∷ xs) (32 ∷ rest) in
    let literal = all_both is_literal_byte ws (35 ∷ xs) (word_literals ws word) all in
    solid_is b ((ws ++ 35 ∷ xs) ++ 32 ∷ rest) letter
    ∙ word_hash b ((ws ++ 35 ∷ xs) ++ 32 ∷ rest) (ap (λ (ys : List ℕ). begins_with 35 (drop (1 + prefix_len is_word_byte ys) (b ∷ ys))) same ∙ hash_behind b ws (xs ++ 32 ∷ rest) word)
    ∙ ap (literal_piece dialects.Extended) (whole_again is_literal_byte b (ws ++ 35 ∷ xs) rest refl literal)

pub typed_may : (b : ℕ) (ws xs : List ℕ) → is_letter_byte b ≡ true → list_all is_word_byte ws ≡ true → list_all is_literal_byte xs ≡ true → MayBe (b ∷ ws ++ 35 ∷ xs) signs.Literal
typed_may b ws xs letter word all = by_literal (is_some (literal_in dialects.Extended (b ∷ ws ++ 35 ∷ xs))) refl
  where
    by_literal : (c : Bool) → is_some (literal_in dialects.Extended (b ∷ ws ++ 35 ∷ xs)) ≡ c → MayBe (b ∷ ws ++ 35 ∷ xs) signs.Literal
    by_literal true is = inl (record { first = b; others = ws ++ 35 ∷ xs; parts = refl; piece = λ (rest : List ℕ). typed_piece b ws xs rest letter word all ∙ literal_there (b ∷ ws ++ 35 ∷ xs) is })
    by_literal false is = inr (b, ws ++ 35 ∷ xs, refl, λ (rest : List ℕ). (BadLiteral, typed_piece b ws xs rest letter word all ∙ no_literal (b ∷ ws ++ 35 ∷ xs) is))

-- before a location there is none
stop_prefix : (ws xs : List ℕ) → list_all is_word_byte ws ≡ true → prefix_len is_literal_byte (ws ++ 35 ∷ 37 ∷ xs) ≡ length (ws ++ 35 ∷ [])
stop_prefix [] xs all = refl
stop_prefix (b ∷ bs) xs all =
    let h = and_parts (is_word_byte b) (list_all is_word_byte bs) all in
    let here : is_literal_byte b ≡ true = rw h.0 refl in
    rw (here, stop_prefix bs xs h.1) (one_more (length (bs ++ 35 ∷ [])))

located_piece : (b : ℕ) (ws xs : List ℕ) → is_letter_byte b ≡ true → list_all is_word_byte ws ≡ true → is_some (literal_in dialects.Extended (b ∷ ws ++ 35 ∷ [])) ≡ false
    → piece_of dialects.Extended (b ∷ ws ++ 35 ∷ 37 ∷ xs) ≡ broken BadLiteral
located_piece b ws xs letter word none =
    let same : ws ++ 35 ∷ 37 ∷ xs ≡ (ws ++ 35 ∷ []) ++ 37 ∷ xs = sym (append_assoc ws (35 ∷ []) (37 ∷ xs)) in
    solid_is b (ws ++ 35 ∷ 37 ∷ xs) letter
    ∙ word_hash b (ws ++ 35 ∷ 37 ∷ xs) (hash_behind b ws (37 ∷ xs) word)
    ∙ ap (literal_piece dialects.Extended)
    (ap (λ (n : ℕ). take (1 + n) (b ∷ ws ++ 35 ∷ 37 ∷ xs)) (stop_prefix ws xs word)
    ∙ first_one (length (ws ++ 35 ∷ [])) b (ws ++ 35 ∷ 37 ∷ xs)
    ∙ ap (λ (ys : List ℕ). b ∷ take (length (ws ++ 35 ∷ [])) ys) same
    ∙ ap (λ (ys : List ℕ). b ∷ ys) (take_at (ws ++ 35 ∷ []) (37 ∷ xs) (length (ws ++ 35 ∷ [])) refl))
    ∙ no_literal (b ∷ ws ++ 35 ∷ []) none

pub located_may : (b : ℕ) (ws xs : List ℕ) → is_letter_byte b ≡ true → list_all is_word_byte ws ≡ true → is_some (literal_in dialects.Extended (b ∷ ws ++ 35 ∷ [])) ≡ false → MayBe (b ∷ ws ++ 35 ∷ 37 ∷ xs) signs.Literal
located_may b ws xs letter word none =
    inr (
      b,
      ws ++ 35 ∷ 37 ∷ xs,
      refl,
      λ (rest : List ℕ). (
        BadLiteral,
        ap (λ (ys : List ℕ). piece_of dialects.Extended (b ∷ ys)) (append_assoc ws (35 ∷ 37 ∷ xs) (32 ∷ rest)) ∙ located_piece b ws (xs ++ 32 ∷ rest) letter word none,
      ),
    )

-- ---- the types of numbers

bool_none : is_some (literal_in dialects.Extended (codes "BOOL#")) ≡ false
unfolding literal_of are_digits value_behind spells
bool_none = refl

int_none : is_some (literal_in dialects.Extended (codes "INT#")) ≡ false
unfolding literal_of are_digits value_behind spells
int_none = refl

dint_none : is_some (literal_in dialects.Extended (codes "DINT#")) ≡ false
unfolding literal_of are_digits value_behind spells
dint_none = refl

lint_none : is_some (literal_in dialects.Extended (codes "LINT#")) ≡ false
unfolding literal_of are_digits value_behind spells
lint_none = refl

word_none : is_some (literal_in dialects.Extended (codes "WORD#")) ≡ false
unfolding literal_of are_digits value_behind spells
word_none = refl

dword_none : is_some (literal_in dialects.Extended (codes "DWORD#")) ≡ false
unfolding literal_of are_digits value_behind spells
dword_none = refl

-- what a bare number of a type is made of
abbrev pub NumberBytes : List ℕ → Type 0
NumberBytes text = (list_all is_literal_byte text ≡ true) ⊎ ((xs : List ℕ) × (text ≡ 37 ∷ xs))

number_by : (b : ℕ) (ws : List ℕ) (text : List ℕ) → is_letter_byte b ≡ true → list_all is_word_byte ws ≡ true → is_some (literal_in dialects.Extended (b ∷ ws ++ 35 ∷ [])) ≡ false → NumberBytes text → MayBe (b ∷ ws ++ 35 ∷ text) signs.Literal
number_by b ws text letter word none (inl all) = typed_may b ws text letter word all
number_by b ws text letter word none (inr is) = subst (λ (w : List ℕ). MayBe (b ∷ ws ++ 35 ∷ w) signs.Literal) (sym is.1) (located_may b ws is.0 letter word none)

number_of : (ty : Ty) (text : List ℕ) → takes_numbers (Some ty) ≡ true → NumberBytes text → MayBe (type_word ty ++ (codes "#" ++ text)) signs.Literal
number_of types.Bool text takes bytes = number_by 66 (79 ∷ 79 ∷ 76 ∷ []) text refl refl bool_none bytes
number_of types.Int text takes bytes = number_by 73 (78 ∷ 84 ∷ []) text refl refl int_none bytes
number_of types.Dint text takes bytes = number_by 68 (73 ∷ 78 ∷ 84 ∷ []) text refl refl dint_none bytes
number_of types.Time text takes bytes = absurd cc
number_of types.Lint text takes bytes = number_by 76 (73 ∷ 78 ∷ 84 ∷ []) text refl refl lint_none bytes
number_of types.Real text takes bytes = absurd cc
number_of types.Word text takes bytes = number_by 87 (79 ∷ 82 ∷ 68 ∷ []) text refl refl word_none bytes
number_of types.Dword text takes bytes = number_by 68 (87 ∷ 79 ∷ 82 ∷ 68 ∷ []) text refl refl dword_none bytes

found_is : (word : List ℕ) (tys : List Ty) (ty : Ty) → find (λ (t : Ty). bytes_eq (type_word t) word) tys ≡ Some ty → type_word ty ≡ word
found_is word [] ty e = absurd cc
found_is word (t ∷ tys) ty e = by_test (bytes_eq (type_word t) word) refl e (found_is word tys ty)
  where
    by_test : (b : Bool) → bytes_eq (type_word t) word ≡ b → (if b then Some t else find (λ (x : Ty). bytes_eq (type_word x) word) tys) ≡ Some ty
        → (find (λ (x : Ty). bytes_eq (type_word x) word) tys ≡ Some ty → type_word ty ≡ word) → type_word ty ≡ word
    by_test true is h more = let same : t ≡ ty = cc in ap type_word (sym same) ∙ (bytes_eq-Decides (type_word t) word).0 is
    by_test false is h more = more h

numbers_by : (word text : List ℕ) (o : Option Ty) → type_named word ≡ o → takes_numbers o ≡ true → NumberBytes text → MayBe (word ++ (codes "#" ++ text)) signs.Literal
numbers_by word text None is takes bytes = absurd cc
numbers_by word text (Some ty) is takes bytes =
    subst (λ (w : List ℕ). MayBe (w ++ (codes "#" ++ text)) signs.Literal) (found_is word elementary_types ty is) (number_of ty text takes bytes)

pub number_may : (word text : List ℕ) → takes_numbers (type_named word) ≡ true → NumberBytes text → MayBe (word ++ (codes "#" ++ text)) signs.Literal
number_may word text takes bytes = numbers_by word text (type_named word) refl takes bytes

type_literal : (ty : Ty) → list_all is_literal_byte (type_word ty) ≡ true
type_literal types.Bool = refl
type_literal types.Int = refl
type_literal types.Dint = refl
type_literal types.Time = refl
type_literal types.Lint = refl
type_literal types.Real = refl
type_literal types.Word = refl
type_literal types.Dword = refl

literal_by : (word text : List ℕ) (o : Option Ty) → type_named word ≡ o → takes_numbers o ≡ true → list_all is_literal_byte text ≡ true → list_all is_literal_byte (word ++ (codes "#" ++ text)) ≡ true
literal_by word text None is takes all = absurd cc
literal_by word text (Some ty) is takes all =
    all_both is_literal_byte word (35 ∷ text) (subst (λ (w : List ℕ). list_all is_literal_byte w ≡ true) (found_is word elementary_types ty is) (type_literal ty)) all

pub typed_literals : (word text : List ℕ) → takes_numbers (type_named word) ≡ true → list_all is_literal_byte text ≡ true → list_all is_literal_byte (word ++ (codes "#" ++ text)) ≡ true
typed_literals word text takes all = literal_by word text (type_named word) refl takes all

-- ---- decimals

abbrev is_digit : ℕ → Bool
is_digit b = is_within 48 57 b

digit_is : (m : ℕ) → m < 10 → is_digit (48 + m) ≡ true
digit_is m lt = and_from (nat_le 48 (48 + m)) (nat_le (48 + m) 57) (le-leb 48 (48 + m) (omega arith)) (le-leb (48 + m) 57 (omega (arith, lt)))

glyph_is : (m : ℕ) → m < 10 → is_digit (digit_glyph false m) ≡ true
glyph_is m lt = ap (λ (b : Bool). is_digit (if b then 48 + m else 87 + m)) (lt-ltb m 10 lt) ∙ digit_is m lt

last_digit : (n : ℕ) → n % 10 < 10
last_digit n = omega arith

onto_are : (k n : ℕ) (acc : List ℕ) → list_all is_digit acc ≡ true → list_all is_digit (digits_onto k 10 false n acc) ≡ true
onto_are zero n acc all = all
onto_are (suc k) n acc all =
    let more : list_all is_digit (digit_glyph false (n % 10) ∷ acc) ≡ true = and_from (is_digit (digit_glyph false (n % 10))) (list_all is_digit acc) (glyph_is (n % 10) (last_digit n)) all in
    by_last (n / 10 == 0) more (onto_are k (n / 10) (digit_glyph false (n % 10) ∷ acc) more)
  where
    by_last : (b : Bool) → list_all is_digit (digit_glyph false (n % 10) ∷ acc) ≡ true → list_all is_digit (digits_onto k 10 false (n / 10) (digit_glyph false (n % 10) ∷ acc)) ≡ true
        → list_all is_digit (if b then digit_glyph false (n % 10) ∷ acc else digits_onto k 10 false (n / 10) (digit_glyph false (n % 10) ∷ acc)) ≡ true
    by_last true here more = here
    by_last false here more = more

pub digits_are : (n : ℕ) → list_all is_digit (decimal n) ≡ true
unfolding digits
digits_are n = onto_are 64 n [] refl

digit_word : (b : ℕ) → is_digit b ≡ true → is_word_byte b ≡ true
digit_word b is = by_letter (is_letter_byte b) refl
  where
    by_letter : (c : Bool) → is_letter_byte b ≡ c → is_word_byte b ≡ true
    by_letter true e = rw e refl
    by_letter false e = rw (e, is) refl

digits_word : (ds : List ℕ) → list_all is_digit ds ≡ true → list_all is_word_byte ds ≡ true
digits_word [] all = refl
digits_word (d ∷ ds) all = let h = and_parts (is_digit d) (list_all is_digit ds) all in and_from (is_word_byte d) (list_all is_word_byte ds) (digit_word d h.0) (digits_word ds h.1)

digit_line : (b : ℕ) → is_digit b ≡ true → (b == 95) ≡ false
digit_line b is = by_test (b == 95) refl
  where
    by_test : (c : Bool) → (b == 95) ≡ c → c ≡ false
    by_test false e = refl
    by_test true e = let clash : true ≡ false = sym is ∙ ap is_digit (eqb-true b 95 e) in absurd cc

digits_spelled : (ds : List ℕ) → list_all is_digit ds ≡ true → is_well_spelled ds ≡ true
unfolding is_well_spelled
digits_spelled [] all = refl
digits_spelled (d ∷ ds) all = let h = and_parts (is_digit d) (list_all is_digit ds) all in rw (digit_line d h.0) (digits_spelled ds h.1)

letter_spelled : (b : ℕ) (ds : List ℕ) → (b == 95) ≡ false → is_well_spelled ds ≡ true → is_well_spelled (b ∷ ds) ≡ true
unfolding is_well_spelled
letter_spelled b ds e all = rw e all

-- a letter and a number
pub numbered_run : (b n : ℕ) → is_letter_byte b ≡ true → (b == 95) ≡ false → IsRun (b ∷ decimal n)
numbered_run b n letter line =
    let all = digits_are n in
    plain_run b (decimal n) letter (digits_word (decimal n) all) (letter_spelled b (decimal n) line (digits_spelled (decimal n) all))

digits_literal : (ds : List ℕ) → list_all is_digit ds ≡ true → list_all is_literal_byte ds ≡ true
digits_literal ds all = word_literals ds (digits_word ds all)

-- INT#n
pub index_may : (n : ℕ) → MayBe (codes "INT#" ++ decimal n) signs.Literal
index_may n = typed_may 73 (78 ∷ 84 ∷ []) (decimal n) refl refl (digits_literal (decimal n) (digits_are n))

pub number_start : (bs : List ℕ) → list_all is_literal_byte bs ≡ true → MayBe (48 ∷ bs) signs.Literal
number_start bs all = by_literal (is_some (literal_in dialects.Extended (48 ∷ bs))) refl
  where
    there : (rest : List ℕ) → piece_of dialects.Extended (48 ∷ bs ++ 32 ∷ rest) ≡ literal_piece dialects.Extended (48 ∷ bs)
    there rest = number_piece 48 (bs ++ 32 ∷ rest) refl refl ∙ ap (literal_piece dialects.Extended) (whole_again is_literal_byte 48 bs rest refl all)

    by_literal : (c : Bool) → is_some (literal_in dialects.Extended (48 ∷ bs)) ≡ c → MayBe (48 ∷ bs) signs.Literal
    by_literal true is = inl (record { first = 48; others = bs; parts = refl; piece = λ (rest : List ℕ). there rest ∙ literal_there (48 ∷ bs) is })
    by_literal false is = inr (48, bs, refl, λ (rest : List ℕ). (BadLiteral, there rest ∙ no_literal (48 ∷ bs) is))

-- ---- the words that are everywhere the same

one : (b : ℕ) (bs : List ℕ) (s : Sign) → ((rest : List ℕ) → piece_of dialects.Extended (b ∷ bs ++ 32 ∷ rest) ≡ sign s (length (b ∷ bs))) → MayBe (b ∷ bs) s
one b bs s each = inl (record { first = b; others = bs; parts = refl; piece = each })

pub colon_may : MayBe (codes ":") signs.Colon
unfolding piece_of solid_piece sign_of
colon_may = one 58 [] signs.Colon (λ (rest : List ℕ). refl)

pub assign_may : MayBe (codes ":=") signs.Assign
unfolding piece_of solid_piece sign_of
assign_may = one 58 (61 ∷ []) signs.Assign (λ (rest : List ℕ). refl)

pub arrow_may : MayBe (codes "=>") signs.Arrow
unfolding piece_of solid_piece sign_of
arrow_may = one 61 (62 ∷ []) signs.Arrow (λ (rest : List ℕ). refl)

pub semicolon_may : MayBe (codes ";") signs.Semicolon
unfolding piece_of solid_piece sign_of
semicolon_may = one 59 [] signs.Semicolon (λ (rest : List ℕ). refl)

pub open_may : MayBe (codes "(") signs.Open
unfolding piece_of solid_piece sign_of
open_may = one 40 [] signs.Open (λ (rest : List ℕ). refl)

pub close_may : MayBe (codes ")") signs.Close
unfolding piece_of solid_piece sign_of
close_may = one 41 [] signs.Close (λ (rest : List ℕ). refl)

pub comma_may : MayBe (codes ",") signs.Comma
unfolding piece_of solid_piece sign_of
comma_may = one 44 [] signs.Comma (λ (rest : List ℕ). refl)
