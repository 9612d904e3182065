-- A bit string in hexadecimal digits is read as itself.
use Rattle.std.proofs.Common.{◌≡◌, ℕ, zero, suc, ◌+◌, ◌*◌, ◌^◌, ◌<◌, Bool, true, false, eqb, List, [], ◌∷◌, ◌++◌, Some, refl, ap, ◌∙◌, arith}
use Rattle.std.specs.Prelude.{pos, ◌/◌, ◌%◌, codes}
use Rattle.std.specs.List.{list_all}
use Rattle.std.proofs.lemmas.Bool.{lt-ltb}
use Rattle.il_reader.specs.Tokens.{is_literal_byte}
use Rattle.il_model.specs.Literals.{digit_of, are_digits, value_behind, integer_of, whole_by}
use Rattle.il_values.specs.Spelled.{spells}
use Rattle.std.specs.Fmt.{digit_glyph}
use Rattle.il_values.specs.BitStrings.{hex_word, hex_double}

hex_value : (d : ℕ) → d < 16 → digit_of (digit_glyph true d) ≡ d
hex_value zero lt = refl
hex_value (suc zero) lt = refl
hex_value (suc (suc zero)) lt = refl
hex_value (suc (suc (suc zero))) lt = refl
hex_value (suc (suc (suc (suc zero)))) lt = refl
hex_value (suc (suc (suc (suc (suc zero))))) lt = refl
hex_value (suc (suc (suc (suc (suc (suc zero)))))) lt = refl
hex_value (suc (suc (suc (suc (suc (suc (suc zero))))))) lt = refl
hex_value (suc (suc (suc (suc (suc (suc (suc (suc zero)))))))) lt = refl
hex_value (suc (suc (suc (suc (suc (suc (suc (suc (suc zero))))))))) lt = refl
hex_value (suc (suc (suc (suc (suc (suc (suc (suc (suc (suc zero)))))))))) lt = refl
hex_value (suc (suc (suc (suc (suc (suc (suc (suc (suc (suc (suc zero))))))))))) lt = refl
hex_value (suc (suc (suc (suc (suc (suc (suc (suc (suc (suc (suc (suc zero)))))))))))) lt = refl
hex_value (suc (suc (suc (suc (suc (suc (suc (suc (suc (suc (suc (suc (suc zero))))))))))))) lt = refl
hex_value (suc (suc (suc (suc (suc (suc (suc (suc (suc (suc (suc (suc (suc (suc zero)))))))))))))) lt = refl
hex_value (suc (suc (suc (suc (suc (suc (suc (suc (suc (suc (suc (suc (suc (suc (suc zero))))))))))))))) lt = refl
hex_value (suc (suc (suc (suc (suc (suc (suc (suc (suc (suc (suc (suc (suc (suc (suc (suc n)))))))))))))))) lt = absurd (omega (arith, lt))

hex_small : (d : ℕ) → d < 16 → eqb (digit_glyph true d) 95 ≡ false
hex_small zero lt = refl
hex_small (suc zero) lt = refl
hex_small (suc (suc zero)) lt = refl
hex_small (suc (suc (suc zero))) lt = refl
hex_small (suc (suc (suc (suc zero)))) lt = refl
hex_small (suc (suc (suc (suc (suc zero))))) lt = refl
hex_small (suc (suc (suc (suc (suc (suc zero)))))) lt = refl
hex_small (suc (suc (suc (suc (suc (suc (suc zero))))))) lt = refl
hex_small (suc (suc (suc (suc (suc (suc (suc (suc zero)))))))) lt = refl
hex_small (suc (suc (suc (suc (suc (suc (suc (suc (suc zero))))))))) lt = refl
hex_small (suc (suc (suc (suc (suc (suc (suc (suc (suc (suc zero)))))))))) lt = refl
hex_small (suc (suc (suc (suc (suc (suc (suc (suc (suc (suc (suc zero))))))))))) lt = refl
hex_small (suc (suc (suc (suc (suc (suc (suc (suc (suc (suc (suc (suc zero)))))))))))) lt = refl
hex_small (suc (suc (suc (suc (suc (suc (suc (suc (suc (suc (suc (suc (suc zero))))))))))))) lt = refl
hex_small (suc (suc (suc (suc (suc (suc (suc (suc (suc (suc (suc (suc (suc (suc zero)))))))))))))) lt = refl
hex_small (suc (suc (suc (suc (suc (suc (suc (suc (suc (suc (suc (suc (suc (suc (suc zero))))))))))))))) lt = refl
hex_small (suc (suc (suc (suc (suc (suc (suc (suc (suc (suc (suc (suc (suc (suc (suc (suc n)))))))))))))))) lt = absurd (omega (arith, lt))

hex_literal : (d : ℕ) → d < 16 → is_literal_byte (digit_glyph true d) ≡ true
hex_literal zero lt = refl
hex_literal (suc zero) lt = refl
hex_literal (suc (suc zero)) lt = refl
hex_literal (suc (suc (suc zero))) lt = refl
hex_literal (suc (suc (suc (suc zero)))) lt = refl
hex_literal (suc (suc (suc (suc (suc zero))))) lt = refl
hex_literal (suc (suc (suc (suc (suc (suc zero)))))) lt = refl
hex_literal (suc (suc (suc (suc (suc (suc (suc zero))))))) lt = refl
hex_literal (suc (suc (suc (suc (suc (suc (suc (suc zero)))))))) lt = refl
hex_literal (suc (suc (suc (suc (suc (suc (suc (suc (suc zero))))))))) lt = refl
hex_literal (suc (suc (suc (suc (suc (suc (suc (suc (suc (suc zero)))))))))) lt = refl
hex_literal (suc (suc (suc (suc (suc (suc (suc (suc (suc (suc (suc zero))))))))))) lt = refl
hex_literal (suc (suc (suc (suc (suc (suc (suc (suc (suc (suc (suc (suc zero)))))))))))) lt = refl
hex_literal (suc (suc (suc (suc (suc (suc (suc (suc (suc (suc (suc (suc (suc zero))))))))))))) lt = refl
hex_literal (suc (suc (suc (suc (suc (suc (suc (suc (suc (suc (suc (suc (suc (suc zero)))))))))))))) lt = refl
hex_literal (suc (suc (suc (suc (suc (suc (suc (suc (suc (suc (suc (suc (suc (suc (suc zero))))))))))))))) lt = refl
hex_literal (suc (suc (suc (suc (suc (suc (suc (suc (suc (suc (suc (suc (suc (suc (suc (suc n)))))))))))))))) lt = absurd (omega (arith, lt))

-- a digit less: what it stands for behind a value, and that it is one
digit_told : (d : ℕ) (b : Bool) (m : ℕ) (bs : List ℕ) → d < 16 → value_behind 16 m (digit_glyph true d ∷ bs) ≡ value_behind 16 (m * 16 + d) bs
unfolding value_behind
digit_told d b m bs lt = rw (hex_small d lt, hex_value d lt) refl

digit_there : (d : ℕ) (b : Bool) (bs : List ℕ) → d < 16 → are_digits 16 b (digit_glyph true d ∷ bs) ≡ are_digits 16 true bs
unfolding are_digits
digit_there d b bs lt = rw (hex_small d lt, hex_value d lt, lt-ltb d 16 lt) refl

-- four digits behind a value
word_told : (n m : ℕ) (bs : List ℕ) → n < 2 ^ 16 → value_behind 16 m (hex_word n ++ bs) ≡ value_behind 16 (m * 2 ^ 16 + n) bs
word_told n m bs lt =
    digit_told (n / 4096 % 16) true m _ (omega arith)
    ∙ digit_told (n / 256 % 16) true _ _ (omega arith)
    ∙ digit_told (n / 16 % 16) true _ _ (omega arith)
    ∙ digit_told (n % 16) true _ bs (omega arith)
    ∙ ap (λ (k : ℕ). value_behind 16 k bs) (omega (arith, lt))

word_there : (n : ℕ) (b : Bool) (bs : List ℕ) → are_digits 16 b (hex_word n ++ bs) ≡ are_digits 16 true bs
word_there n b bs =
    digit_there (n / 4096 % 16) b _ (omega arith)
    ∙ digit_there (n / 256 % 16) true _ (omega arith)
    ∙ digit_there (n / 16 % 16) true _ (omega arith)
    ∙ digit_there (n % 16) true bs (omega arith)

-- digits that are digits, and what they stand for
number_is : (bs : List ℕ) (n : ℕ) → are_digits 16 false bs ≡ true → value_behind 16 0 bs ≡ n → integer_of 16 bs ≡ Some n
number_is bs n digits is = rw (digits, is) refl

word_number : (n : ℕ) → n < 2 ^ 16 → integer_of 16 (hex_word n) ≡ Some n
unfolding are_digits value_behind
word_number n lt = number_is (hex_word n) n (word_there n false []) (word_told n 0 [] lt ∙ omega arith)

double_number : (n : ℕ) → n < 2 ^ 32 → integer_of 16 (hex_double n) ≡ Some n
unfolding are_digits value_behind
double_number n lt =
    let high : n / 2 ^ 16 < 2 ^ 16 = omega (arith, lt) in
    let low : n % 2 ^ 16 < 2 ^ 16 = omega arith in
    number_is (hex_double n) n
    (word_there (n / 2 ^ 16) false (hex_word (n % 2 ^ 16)) ∙ word_there (n % 2 ^ 16) true [])
    (word_told (n / 2 ^ 16) 0 (hex_word (n % 2 ^ 16)) high ∙ word_told (n % 2 ^ 16) (0 * 2 ^ 16 + n / 2 ^ 16) [] low ∙ omega arith)

-- behind 16#
pub word_whole : (n : ℕ) → n < 2 ^ 16 → whole_by integer_of (codes "16#" ++ hex_word n) ≡ Some (pos n)
unfolding spells
word_whole n lt = rw (word_number n lt) refl

pub double_word_whole : (n : ℕ) → n < 2 ^ 32 → whole_by integer_of (codes "16#" ++ hex_double n) ≡ Some (pos n)
unfolding spells
double_word_whole n lt = rw (double_number n lt) refl

-- all of it are bytes of a literal
word_literal : (n : ℕ) (bs : List ℕ) → list_all is_literal_byte bs ≡ true → list_all is_literal_byte (hex_word n ++ bs) ≡ true
word_literal n bs all = rw (hex_literal (n / 4096 % 16) (omega arith), hex_literal (n / 256 % 16) (omega arith), hex_literal (n / 16 % 16) (omega arith), hex_literal (n % 16) (omega arith)) all

pub word_bytes : (n : ℕ) → list_all is_literal_byte (codes "16#" ++ hex_word n) ≡ true
word_bytes n = word_literal n [] refl

pub double_word_bytes : (n : ℕ) → list_all is_literal_byte (codes "16#" ++ hex_double n) ≡ true
double_word_bytes n = word_literal (n / 2 ^ 16) (hex_word (n % 2 ^ 16)) (word_literal (n % 2 ^ 16) [] refl)
