-- A warm start keeps what is retained, and all else is as when cold.
use Rattle.std.proofs.Common.{◌≡◌, ℕ, zero, suc, ◌<◌, ◌⊎◌, inl, inr, Bool, true, false, cond, ltb, List, [], ◌∷◌, ◌++◌, length, map, get_or, Option, Some, None, refl, sym, ap, subst, ◌∙◌, ◌-◌, ◌^◌, arith}
use Rattle.std.specs.Prelude.{ℤ, pos, ◌/◌, ◌%◌, slice_get, slice_set, unwrap_or, not, nat_lt, nat_eq, filter}
use Rattle.std.specs.Int.{w16, w32, cast_signed, cast_unsigned}
use Rattle.std.proofs.lemmas.Int.{of_z-to_z}
use Rattle.il_real.specs.Reals.{with_pattern, zero_real}
use Rattle.il_real.proofs.Values.{real_small, with_own_pattern}
use Rattle.std.specs.List.{list_any, AllByRecursion}
use Rattle.std.specs.Option.{option_map, option_and_then}
use Rattle.std.proofs.lemmas.Bool.{ltb-true, ltb-false, lt-ltb, le-ltb, eq-eqb, both_ways, or_parts, or_right}
use Rattle.std.proofs.lemmas.Option.{slice_get-get_or}
use Rattle.std.proofs.lemmas.List.{length-set}
use Rattle.il_values.specs.declared.value.Ty.{Ty}
use Rattle.il_values.specs.declared.value.Value.{Value}
use Rattle.il_values.specs.declared.value.Value.TheVariants as values
use Rattle.il_model.specs.declared.program.Area.{Area}
use Rattle.il_model.specs.declared.program.Area.TheVariants as areas
use Rattle.il_model.specs.declared.program.Loc.{Loc}
use Rattle.il_model.specs.declared.program.Loc.TheVariants.{Bit, Word, Pattern, Double}
use Rattle.il_model.specs.declared.program.DoubleType.{DoubleType}
use Rattle.il_model.specs.declared.program.DoubleType.TheVariants as doubles
use Rattle.il_model.specs.declared.program.Variable.{Variable}
use Rattle.il_model.specs.declared.program.Instance.{Instance}
use Rattle.il_model.specs.declared.cells.Cells.{Cells}
use Rattle.il_model.specs.declared.coded_operand.CodedOperand.{CodedOperand}
use Rattle.il_model.specs.declared.coded_operand.CodedOperand.TheVariants as coded
use Rattle.il_model.specs.Program.{Program}
use Rattle.il_values.specs.Values.{ty_of}
use Rattle.il_model.specs.Locations.{area_of, parts_of, clear_cells}
use Rattle.il_model.specs.CodedOperands.{loc_code, IsCell, with_code}
use Rattle.il_model.specs.Codes.{has_code, is_taken, is_overlapped, is_type, is_free, free_loc, coded_location}
use Rattle.il_model.specs.Image.{location_code}
use Rattle.il_model.specs.Typing.{loc_type}
use Rattle.il_model.specs.Fits.{IsVariable, AreItems, IsProgram}
use Rattle.il_model.specs.Doubles.{word_value, double_value, double_pattern, high_word, low_word, pattern_of_words}
use Rattle.il_model.proofs.RowTypes.{and_yes}
use Rattle.il_model.proofs.CodedOperands.{coded_back}
use Rattle.il_model.proofs.LocationLaws.{double_fits}
use Rattle.ctl_model.specs.State.{State, BlockInstance, cells_of, double_in, value_in, with_pattern_at, with_value_in, same_area, with_first, with_firsts, first_cells, cold_instance, cold}
use Rattle.ctl_model.specs.Suits.{AreCells, HasValues, AreInstances}
use Rattle.ctl_model.specs.Warm.{warm_values, warm_instances, warm_first, warm_cells, warm, value_of, StartsWarm}
use Rattle.ctl_model.proofs.FirstValues.{get_other}
use Rattle.ctl_model.proofs.ColdSuits.{with_first_are}
use Rattle.ctl_model.proofs.Apart.{absent, get_front, get_last}
use Rattle.ctl_model.proofs.OwnValues.{some_same, tail_same}

-- ---- the cells of a location, and two locations without a common cell

abbrev HasBit : Loc → ℕ → Type 0
HasBit (Bit a n) k = k ≡ n
HasBit loc k = ⊥

abbrev HasWord : Loc → ℕ → Type 0
HasWord (Bit a n) k = ⊥
HasWord (Word a n) k = k ≡ n
HasWord (Pattern a n) k = k ≡ n
HasWord (Double a n t) k = (k ≡ n) ⊎ (k ≡ suc n)

record AreApart (l loc : Loc) : Type 0 where
  bits : (k : ℕ) → HasBit l k → HasBit loc k → ⊥
  words : (k : ℕ) → HasWord l k → HasWord loc k → ⊥

apart_back : (l loc : Loc) → AreApart l loc → AreApart loc l
apart_back l loc apart = record { bits = λ k a b. apart.bits k b a; words = λ k a b. apart.words k b a }

-- two areas have the same cells of a location
record SameAt (c d : Cells) (loc : Loc) : Type 0 where
  bits : (k : ℕ) → HasBit loc k → slice_get c.bits k ≡ slice_get d.bits k
  words : (k : ℕ) → HasWord loc k → slice_get c.words k ≡ slice_get d.words k

same_back : (c d : Cells) (loc : Loc) → SameAt c d loc → SameAt d c loc
same_back c d loc same = record { bits = λ k at. sym (same.bits k at); words = λ k at. sym (same.words k at) }

same_on : (c d e : Cells) (loc : Loc) → SameAt c d loc → SameAt d e loc → SameAt c e loc
same_on c d e loc first more = record { bits = λ k at. first.bits k at ∙ more.bits k at; words = λ k at. first.words k at ∙ more.words k at }

value_same : (c d : Cells) (loc : Loc) → SameAt c d loc → value_in c loc ≡ value_in d loc
value_same c d (Bit a n) same = ap (option_map values.Bool) (same.bits n refl)
value_same c d (Word a n) same = ap (option_map values.Int) (same.words n refl)
value_same c d (Pattern a n) same = ap (option_map word_value) (same.words n refl)
value_same c d (Double a n t) same =
    ap (λ (o : Option ℤ). double_in t o (slice_get c.words (suc n))) (same.words n (inl refl)) ∙ ap (double_in t (slice_get d.words n)) (same.words (suc n) (inr refl))

-- ---- a write to one of them

-- the cells behind a write, where the value is of the type
abbrev written : Cells → Loc → Value → Cells
written c loc v = unwrap_or (with_value_in c loc v) c

get_same : {X : Type 0} (xs : List X) (i : ℕ) (x : X) → i < length xs → slice_get (slice_set xs i x) i ≡ Some x
get_same [] i x lt = absurd (omega arith)
get_same (y ∷ xs) zero x lt = refl
get_same (y ∷ xs) (suc i) x lt = get_same xs i x (omega arith)

set_same : {X : Type 0} (xs ys : List X) (i k : ℕ) (x : X) → length xs ≡ length ys → slice_get xs k ≡ slice_get ys k → slice_get (slice_set xs i x) k ≡ slice_get (slice_set ys i x) k
set_same [] [] i k x long e = refl
set_same [] (y ∷ ys) i k x long e = absurd (omega arith)
set_same (z ∷ xs) [] i k x long e = absurd (omega arith)
set_same (z ∷ xs) (y ∷ ys) zero zero x long e = refl
set_same (z ∷ xs) (y ∷ ys) zero (suc k) x long e = e
set_same (z ∷ xs) (y ∷ ys) (suc i) zero x long e = e
set_same (z ∷ xs) (y ∷ ys) (suc i) (suc k) x long e = set_same xs ys i k x (omega arith) e

-- it changes no cell that isn't of the location
record OnlyAt (c d : Cells) (loc : Loc) : Type 0 where
  bits : (k : ℕ) → (HasBit loc k → ⊥) → slice_get d.bits k ≡ slice_get c.bits k
  words : (k : ℕ) → (HasWord loc k → ⊥) → slice_get d.words k ≡ slice_get c.words k

unchanged : (c : Cells) (loc : Loc) → OnlyAt c c loc
unchanged c loc = record { bits = λ k no. refl; words = λ k no. refl }

only_by : (b : Bool) (c d : Cells) (loc : Loc) → OnlyAt c d loc → OnlyAt c (unwrap_or (cond b (Some d) None) c) loc
only_by true c d loc only = only
only_by false c d loc only = unchanged c loc

pattern_only : (c : Cells) (a : Area) (n : ℕ) (t : DoubleType) (o : Option ℕ) → OnlyAt c (unwrap_or (option_and_then (with_pattern_at c n) o) c) (Double a n t)
pattern_only c a n t None = unchanged c (Double a n t)
pattern_only c a n t (Some p) = only_by (nat_lt (suc n) (length c.words)) c (record c { words = slice_set (slice_set c.words n (high_word p)) (suc n) (low_word p) }) (Double a n t) (record {
  bits = λ k no. refl;
  words = λ k no. get_other (slice_set c.words n (high_word p)) (suc n) k (low_word p) (λ e. no (inr e)) ∙ get_other c.words n k (high_word p) (λ e. no (inl e));
})

written_only : (c : Cells) (loc : Loc) (v : Value) → OnlyAt c (written c loc v) loc
written_only c (Bit a n) (values.Bool b) = only_by (nat_lt n (length c.bits)) c (record c { bits = slice_set c.bits n b }) (Bit a n) (record { bits = λ k no. get_other c.bits n k b no; words = λ k no. refl })
written_only c (Word a n) (values.Int z) = only_by (nat_lt n (length c.words)) c (record c { words = slice_set c.words n z }) (Word a n) (record { bits = λ k no. refl; words = λ k no. get_other c.words n k z no })
written_only c (Pattern a n) (values.Word p) = only_by (nat_lt n (length c.words)) c (record c { words = slice_set c.words n (cast_signed w16 p) }) (Pattern a n) (record { bits = λ k no. refl; words = λ k no. get_other c.words n k (cast_signed w16 p) no })
written_only c (Double a n t) v = pattern_only c a n t (double_pattern t v)
written_only c (Bit a n) _ = unchanged c (Bit a n)
written_only c (Word a n) _ = unchanged c (Word a n)
written_only c (Pattern a n) _ = unchanged c (Pattern a n)

-- what is written elsewhere leaves the cells of a location
apart_stays : (c : Cells) (l loc : Loc) (v : Value) → AreApart l loc → SameAt (written c l v) c loc
apart_stays c l loc v apart =
    let only = written_only c l v in
    record { bits = λ k at. only.bits k (λ on. apart.bits k on at); words = λ k at. only.words k (λ on. apart.words k on at) }

-- the same value written to both leaves them alike
same_by : (b : Bool) (c d e f : Cells) (loc : Loc) → SameAt c d loc → SameAt e f loc → SameAt (unwrap_or (cond b (Some e) None) c) (unwrap_or (cond b (Some f) None) d) loc
same_by true c d e f loc none some = some
same_by false c d e f loc none some = none

pattern_same : (c d : Cells) (n : ℕ) (loc : Loc) (o : Option ℕ) → AreCells c → AreCells d → SameAt c d loc
    → SameAt (unwrap_or (option_and_then (with_pattern_at c n) o) c) (unwrap_or (option_and_then (with_pattern_at d n) o) d) loc
pattern_same c d n loc None is at same = same
pattern_same c d n loc (Some p) is at same =
    let long : length c.words ≡ length d.words = is.words ∙ sym at.words in
    rw long (same_by (nat_lt (suc n) (length d.words)) c d _ _ loc same (record {
      bits = same.bits;
      words = λ k on. set_same (slice_set c.words n (high_word p)) (slice_set d.words n (high_word p)) (suc n) k (low_word p) (omega (arith, long, length-set c.words n (high_word p), length-set d.words n (high_word p))) (set_same c.words d.words n k (high_word p) long (same.words k on));
    }))

written_same : (c d : Cells) (l loc : Loc) (v : Value) → AreCells c → AreCells d → SameAt c d loc → SameAt (written c l v) (written d l v) loc
written_same c d (Bit a n) loc (values.Bool b) is at same =
    let long : length c.bits ≡ length d.bits = is.bits ∙ sym at.bits in
    rw long (same_by (nat_lt n (length d.bits)) c d (record c { bits = slice_set c.bits n b }) (record d { bits = slice_set d.bits n b }) loc same (record { bits = λ k on. set_same c.bits d.bits n k b long (same.bits k on); words = same.words }))
written_same c d (Word a n) loc (values.Int z) is at same =
    let long : length c.words ≡ length d.words = is.words ∙ sym at.words in
    rw long (same_by (nat_lt n (length d.words)) c d (record c { words = slice_set c.words n z }) (record d { words = slice_set d.words n z }) loc same (record { bits = same.bits; words = λ k on. set_same c.words d.words n k z long (same.words k on) }))
written_same c d (Pattern a n) loc (values.Word p) is at same =
    let long : length c.words ≡ length d.words = is.words ∙ sym at.words in
    let z = cast_signed w16 p in
    rw long (same_by (nat_lt n (length d.words)) c d (record c { words = slice_set c.words n z }) (record d { words = slice_set d.words n z }) loc same (record { bits = same.bits; words = λ k on. set_same c.words d.words n k z long (same.words k on) }))
written_same c d (Double a n t) loc v is at same = pattern_same c d n loc (double_pattern t v) is at same
written_same c d (Bit a n) loc _ is at same = same
written_same c d (Word a n) loc _ is at same = same
written_same c d (Pattern a n) loc _ is at same = same

-- ---- what is read at a location reads back when it's written there

bit_back : (c : Cells) (a : Area) (n : ℕ) (o : Option Bool) (v : Value) → AreCells c → n < 512 → option_map values.Bool o ≡ Some v → value_in (written c (Bit a n) v) (Bit a n) ≡ Some v
bit_back c a n None v is lt e = absurd cc
bit_back c a n (Some b) v is lt e =
    subst (λ (v : Value). value_in (written c (Bit a n) v) (Bit a n) ≡ Some v) (some_same (values.Bool b) v e)
    (let lt : n < length c.bits = omega (arith, is.bits) in rw (lt-ltb n (length c.bits) lt, get_same c.bits n b lt) refl)

word_back : (c : Cells) (a : Area) (n : ℕ) (o : Option ℤ) (v : Value) → AreCells c → n < 64 → option_map values.Int o ≡ Some v → value_in (written c (Word a n) v) (Word a n) ≡ Some v
word_back c a n None v is lt e = absurd cc
word_back c a n (Some z) v is lt e =
    subst (λ (v : Value). value_in (written c (Word a n) v) (Word a n) ≡ Some v) (some_same (values.Int z) v e)
    (let lt : n < length c.words = omega (arith, is.words) in rw (lt-ltb n (length c.words) lt, get_same c.words n z lt) refl)

-- a WORD that was read, written as a word, is that WORD
word_pattern_back : (c : Cells) (a : Area) (n : ℕ) (o : Option ℤ) (v : Value) → AreCells c → n < 64 → option_map word_value o ≡ Some v → value_in (written c (Pattern a n) v) (Pattern a n) ≡ Some v
word_pattern_back c a n None v is lt e = absurd cc
word_pattern_back c a n (Some z) v is lt e =
    subst (λ (v : Value). value_in (written c (Pattern a n) v) (Pattern a n) ≡ Some v) (some_same (word_value z) v e)
    (let fits : n < length c.words = omega (arith, is.words) in
    let p = cast_unsigned w16 z % 2 ^ 16 in
    let small : p < 2 ^ 16 = omega arith in
    let again : cast_unsigned w16 (cast_signed w16 p) ≡ p = of_z-to_z w16 p small in
    let whole : p % 2 ^ 16 ≡ p = omega (arith, small) in
    rw (lt-ltb n (length c.words) fits, get_same c.words n (cast_signed w16 p) fits) (ap (λ (k : ℕ). Some (values.Word (k % 2 ^ 16))) again ∙ ap (λ (k : ℕ). Some (values.Word k)) whole))

-- two words of a pattern are that pattern
words_join : (p : ℕ) → p < 2 ^ 32 → pattern_of_words (high_word p) (low_word p) ≡ p
words_join p lt =
    let high = of_z-to_z w16 (p / 2 ^ 16) (omega (arith, lt)) in
    let low = of_z-to_z w16 (p % 2 ^ 16) (omega (arith, lt)) in
    rw (high, low) (omega (arith, lt))

-- what any pattern says as a number with a sign is the number that its own pattern says
record SaysAgain (z : ℤ) : Type 0 where
  small : cast_unsigned w32 z < 2 ^ 32
  again : cast_signed w32 (cast_unsigned w32 z) ≡ z

says_by : (b : Bool) (p : ℕ) → ltb p (2 ^ 31) ≡ b → SaysAgain (cast_signed w32 p)
says_by true p e = let lt = ltb-true p (2 ^ 31) e in rw e (record { small = omega (arith, lt); again = rw e refl })
says_by false p e =
    let le = ltb-false p (2 ^ 31) e in
    let back : 2 ^ 32 - suc (2 ^ 32 - suc (2 ^ 32 - suc p)) ≡ 2 ^ 32 - suc p = omega arith in
    rw e (record { small = omega arith; again = rw (le-ltb (2 ^ 32 - suc (2 ^ 32 - suc p)) (2 ^ 31) (omega arith), back) refl })

says_again : (high low : ℤ) → SaysAgain (cast_signed w32 (pattern_of_words high low))
says_again high low = says_by (ltb (pattern_of_words high low) (2 ^ 31)) (pattern_of_words high low) refl

-- the pattern of what was read, and what its words say
record IsReadAgain (t : DoubleType) (v : Value) : Type 0 where
  pattern : ℕ
  is : double_pattern t v ≡ Some pattern
  again : double_value t (high_word pattern) (low_word pattern) ≡ v

read_again : (t : DoubleType) (high low : ℤ) → IsReadAgain t (double_value t high low)
read_again doubles.Dint high low =
    let z = cast_signed w32 (pattern_of_words high low) in
    let says = says_again high low in
    record { pattern = cast_unsigned w32 z; is = refl; again = rw (words_join (cast_unsigned w32 z) says.small, says.again) refl }
read_again doubles.Time high low =
    let z = cast_signed w32 (pattern_of_words high low) in
    let says = says_again high low in
    record { pattern = cast_unsigned w32 z; is = refl; again = rw (words_join (cast_unsigned w32 z) says.small, says.again) refl }
read_again doubles.Real high low =
    let number = unwrap_or (with_pattern (pattern_of_words high low)) zero_real in
    record { pattern = number.pattern; is = refl; again = rw (words_join number.pattern (real_small number), with_own_pattern number) refl }
read_again doubles.Dword high low =
    let p = pattern_of_words high low % 2 ^ 32 in
    let small : p < 2 ^ 32 = omega arith in
    let whole : p % 2 ^ 32 ≡ p = omega (arith, small) in
    record { pattern = p; is = refl; again = ap (λ (k : ℕ). values.Dword (k % 2 ^ 32)) (words_join p small) ∙ ap values.Dword whole }

pattern_back : (c : Cells) (a : Area) (n : ℕ) (t : DoubleType) (v : Value) → AreCells c → suc n < 64 → IsReadAgain t v → value_in (written c (Double a n t) v) (Double a n t) ≡ Some v
pattern_back c a n t v is lt read =
    let e = read.is in
    let high = high_word read.pattern in
    let low = low_word read.pattern in
    let fits : suc n < length c.words = omega (arith, is.words) in
    let long = length-set c.words n high in
    let first : slice_get (slice_set (slice_set c.words n high) (suc n) low) n ≡ Some high =
    get_other (slice_set c.words n high) (suc n) n low (λ (e : n ≡ suc n). omega arith) ∙ get_same c.words n high (omega arith) in
    let second : slice_get (slice_set (slice_set c.words n high) (suc n) low) (suc n) ≡ Some low =
    get_same (slice_set c.words n high) (suc n) low (omega (arith, long)) in
    rw (e, lt-ltb (suc n) (length c.words) fits, first, second) (ap (λ x. Some x) read.again)

double_back : (c : Cells) (a : Area) (n : ℕ) (t : DoubleType) (high low : Option ℤ) (v : Value) → AreCells c → suc n < 64 → double_in t high low ≡ Some v → value_in (written c (Double a n t) v) (Double a n t) ≡ Some v
double_back c a n t None low v is lt e = absurd cc
double_back c a n t (Some h) None v is lt e = absurd cc
double_back c a n t (Some h) (Some l) v is lt e =
    subst (λ (v : Value). value_in (written c (Double a n t) v) (Double a n t) ≡ Some v) (some_same (double_value t h l) v e) (pattern_back c a n t (double_value t h l) is lt (read_again t h l))

reads_back : (c old : Cells) (loc : Loc) (v : Value) → AreCells c → IsCell loc → value_in old loc ≡ Some v → value_in (written c loc v) loc ≡ Some v
reads_back c old (Bit a n) v is cell e = bit_back c a n (slice_get old.bits n) v is cell e
reads_back c old (Word a n) v is cell e = word_back c a n (slice_get old.words n) v is cell e
reads_back c old (Pattern a n) v is cell e = word_pattern_back c a n (slice_get old.words n) v is cell e
reads_back c old (Double a n t) v is cell e = double_back c a n t (slice_get old.words n) (slice_get old.words (suc n)) v is (double_fits n cell) e

-- a cell has a value
value_there : (c : Cells) (loc : Loc) → AreCells c → IsCell loc → (v : Value) × (value_in c loc ≡ Some v)
value_there c (Bit a n) is cell = (values.Bool (get_or c.bits n false), ap (option_map values.Bool) (slice_get-get_or c.bits n false (omega (arith, is.bits, cell))))
value_there c (Word a n) is cell = (values.Int (get_or c.words n (pos 0)), ap (option_map values.Int) (slice_get-get_or c.words n (pos 0) (omega (arith, is.words, cell))))
value_there c (Pattern a n) is cell = (word_value (get_or c.words n (pos 0)), ap (option_map word_value) (slice_get-get_or c.words n (pos 0) (omega (arith, is.words, cell))))
value_there c (Double a n t) is cell =
    let lt = double_fits n cell in
    (double_value t (get_or c.words n (pos 0)) (get_or c.words (suc n) (pos 0)), rw (slice_get-get_or c.words n (pos 0) (omega (arith, is.words, lt)), slice_get-get_or c.words (suc n) (pos 0) (omega (arith, is.words, lt))) refl)

-- ---- locations of variables

same_area_is : (a b : Area) → same_area a b ≡ true → a ≡ b
same_area_is areas.Input areas.Input e = refl
same_area_is areas.Output areas.Output e = refl
same_area_is areas.Memory areas.Memory e = refl
same_area_is areas.Input areas.Output e = absurd cc
same_area_is areas.Input areas.Memory e = absurd cc
same_area_is areas.Output areas.Input e = absurd cc
same_area_is areas.Output areas.Memory e = absurd cc
same_area_is areas.Memory areas.Input e = absurd cc
same_area_is areas.Memory areas.Output e = absurd cc

same_area_self : (a : Area) → same_area a a ≡ true
same_area_self areas.Input = refl
same_area_self areas.Output = refl
same_area_self areas.Memory = refl

-- no part of the first has the code of a part of the second
abbrev HasNoCode : Option Loc → Loc → Type 0
HasNoCode o loc = AllByRecursion (λ (part : Loc). has_code (loc_code part) o ≡ false) (parts_of loc)

false_any : {X : Type 0} (p : X → Bool) (xs : List X) → list_any p xs ≡ false → AllByRecursion (λ x. p x ≡ false) xs
false_any p [] e = tt
false_any p (x ∷ xs) e = let m = or_parts (p x) (list_any p xs) e in (m.0, false_any p xs m.1)

bit_coded : (l : Loc) (k : ℕ) → HasBit l k → has_code (loc_code (Bit (area_of l) k)) (Some l) ≡ true
bit_coded (Bit a n) k e = rw (eq-eqb (loc_code (Bit a n)) (loc_code (Bit a k)) (ap (λ (m : ℕ). loc_code (Bit a m)) (sym e))) refl
bit_coded (Word a n) k e = absurd e
bit_coded (Pattern a n) k e = absurd e
bit_coded (Double a n t) k e = absurd e

word_coded : (l : Loc) (k : ℕ) → HasWord l k → has_code (loc_code (Word (area_of l) k)) (Some l) ≡ true
word_coded (Bit a n) k e = absurd e
word_coded (Word a n) k e = rw (eq-eqb (loc_code (Word a n)) (loc_code (Word a k)) (ap (λ (m : ℕ). loc_code (Word a m)) (sym e))) refl
word_coded (Pattern a n) k e = rw (eq-eqb (loc_code (Word a n)) (loc_code (Word a k)) (ap (λ (m : ℕ). loc_code (Word a m)) (sym e))) refl
word_coded (Double a n t) k (inl e) = rw (eq-eqb (loc_code (Word a n)) (loc_code (Word a k)) (ap (λ (m : ℕ). loc_code (Word a m)) (sym e))) refl
word_coded (Double a n t) k (inr e) =
    rw (eq-eqb (loc_code (Word a (suc n))) (loc_code (Word a k)) (ap (λ (m : ℕ). loc_code (Word a m)) (sym e))) (or_right (nat_eq (loc_code (Word a n)) (loc_code (Word a k))) true refl)

of_bit : (P : Loc → Type 0) (loc : Loc) (k : ℕ) → AllByRecursion P (parts_of loc) → HasBit loc k → P (Bit (area_of loc) k)
of_bit P (Bit a n) k all e = subst (λ (m : ℕ). P (Bit a m)) (sym e) all.0
of_bit P (Word a n) k all e = absurd e
of_bit P (Pattern a n) k all e = absurd e
of_bit P (Double a n t) k all e = absurd e

of_word : (P : Loc → Type 0) (loc : Loc) (k : ℕ) → AllByRecursion P (parts_of loc) → HasWord loc k → P (Word (area_of loc) k)
of_word P (Bit a n) k all e = absurd e
of_word P (Word a n) k all e = subst (λ (m : ℕ). P (Word a m)) (sym e) all.0
of_word P (Pattern a n) k all e = subst (λ (m : ℕ). P (Word a m)) (sym e) all.0
of_word P (Double a n t) k all (inl e) = subst (λ (m : ℕ). P (Word a m)) (sym e) all.0
of_word P (Double a n t) k all (inr e) = subst (λ (m : ℕ). P (Word a m)) (sym e) all.1.0

apart_by : (l loc : Loc) → area_of l ≡ area_of loc → HasNoCode (Some l) loc → AreApart l loc
apart_by l loc e none = record {
  bits = λ k at on. both_ways _ (of_bit (λ (part : Loc). has_code (loc_code part) (Some l) ≡ false) loc k none on) (subst (λ (a : Area). has_code (loc_code (Bit a k)) (Some l) ≡ true) e (bit_coded l k at));
  words = λ k at on. both_ways _ (of_word (λ (part : Loc). has_code (loc_code part) (Some l) ≡ false) loc k none on) (subst (λ (a : Area). has_code (loc_code (Word a k)) (Some l) ≡ true) e (word_coded l k at));
}

-- a variable that lies in the area of a location has no cell of it
abbrev IsApart : Variable → Loc → Type 0
IsApart u loc = (l : Loc) → u.location ≡ Some l → area_of l ≡ area_of loc → AreApart l loc

apart_from : (u : Variable) (loc : Loc) → HasNoCode u.location loc → IsApart u loc
apart_from u loc none l e same = apart_by l loc same (subst (λ (o : Option Loc). HasNoCode o loc) e none)

all_absent : (seen : List Variable) (parts : List Loc) (k : ℕ) (u : Variable) → AllByRecursion (λ (part : Loc). is_taken seen (loc_code part) ≡ false) parts → slice_get seen k ≡ Some u
    → AllByRecursion (λ (part : Loc). has_code (loc_code part) u.location ≡ false) parts
all_absent seen [] k u none at = tt
all_absent seen (part ∷ parts) k u none at = (absent (λ (v : Variable). has_code (loc_code part) v.location) seen k u none.0 at, all_absent seen parts k u none.1 at)

-- of those that no variable of a list overlaps
untaken_apart : (seen : List Variable) (loc : Loc) (k : ℕ) (u : Variable) → is_overlapped seen loc ≡ false → slice_get seen k ≡ Some u → IsApart u loc
untaken_apart seen loc k u free at = apart_from u loc (all_absent seen (parts_of loc) k u (false_any (λ (part : Loc). is_taken seen (loc_code part)) (parts_of loc) free) at)

-- what passes a test is in the filtered list
filtered : (p : Variable → Bool) (vs : List Variable) (k : ℕ) (u : Variable) → slice_get vs k ≡ Some u → p u ≡ true → (j : ℕ) × (slice_get (filter p vs) j ≡ Some u)
filtered p [] k u at passes = absurd cc
filtered p (v ∷ vs) zero u at passes =
    let same : v ≡ u = some_same v u at in
    let first : p v ≡ true = ap p same ∙ passes in
    (0, rw first at)
filtered p (v ∷ vs) (suc k) u at passes = behind (p v) refl (filtered p vs k u at passes)
  where
    behind : (b : Bool) → p v ≡ b → (j : ℕ) × (slice_get (filter p vs) j ≡ Some u) → (j : ℕ) × (slice_get (filter p (v ∷ vs)) j ≡ Some u)
    behind true e there = (suc there.0, rw e there.1)
    behind false e there = (there.0, rw e there.1)

-- ---- a location of a variable is a cell, and no two have a common one

picked : {X : Type 0} (b : Bool) (x y : X) → cond b (Some x) None ≡ Some y → (b ≡ true) × (x ≡ y)
picked true x y e = (refl, some_same x y e)
picked false x y e = absurd cc

not_is : (b : Bool) → not b ≡ true → b ≡ false
not_is true e = absurd cc
not_is false e = refl

record IsLocated (seen : List Variable) (loc : Loc) : Type 0 where
  cell : IsCell loc
  free : is_overlapped seen loc ≡ false

located_by : (seen : List Variable) (t : Ty) (n : ℕ) (o : Option CodedOperand) (loc : Loc) → with_code n ≡ o → option_and_then (free_loc seen t) o ≡ Some (Some loc) → IsLocated seen loc
located_by seen t n (Some (coded.Location l)) loc at e =
    let m = picked (is_free seen t l) (Some l) (Some loc) e in
    subst (IsLocated seen) (some_same l loc m.1) (record {
      cell = (coded_back n (coded.Location l) at).own;
      free = not_is (is_overlapped seen l) (and_yes (is_type t (loc_type l)) (not (is_overlapped seen l)) m.0).1;
    })
located_by seen t n (Some (coded.Variable i)) loc at e = absurd cc
located_by seen t n (Some (coded.Field i k)) loc at e = absurd cc
located_by seen t n (Some (coded.Constant k)) loc at e = absurd cc
located_by seen t n (Some coded.Unused) loc at e = absurd cc
located_by seen t n None loc at e = absurd cc

located : (seen : List Variable) (v : Variable) (loc : Loc) → IsVariable seen v → v.location ≡ Some loc → IsLocated seen loc
located seen v loc is e = located_by seen v.ty (loc_code loc) (with_code (loc_code loc)) loc refl (subst (λ (o : Option Loc). coded_location seen v.ty (location_code o) ≡ Some o) e is.location)

located_at : (seen vs : List Variable) → AreItems IsVariable seen vs → (i : ℕ) (v : Variable) (loc : Loc) → slice_get vs i ≡ Some v → v.location ≡ Some loc → IsCell loc
located_at seen [] are i v loc at e = absurd cc
located_at seen (z ∷ vs) are zero v loc at e = (located seen z loc are.0 (ap (λ (x : Variable). x.location) (some_same z v at) ∙ e)).cell
located_at seen (z ∷ vs) are (suc i) v loc at e = located_at (seen ++ z ∷ []) vs are.1 i v loc at e

-- the locations of two variables
abbrev LieApart : Variable → Variable → Type 0
LieApart u v = (loc : Loc) → v.location ≡ Some loc → IsApart u loc

lie_back : (u v : Variable) → LieApart u v → LieApart v u
lie_back u v lie loc at l on same = apart_back loc l (lie l on loc at (sym same))

seen_apart : (seen vs : List Variable) → AreItems IsVariable seen vs → (k : ℕ) (v : Variable) → slice_get vs k ≡ Some v → (i : ℕ) (u : Variable) → slice_get seen i ≡ Some u → LieApart u v
seen_apart seen [] are k v there i u here = absurd cc
seen_apart seen (z ∷ vs) are zero v there i u here =
    λ loc at. untaken_apart seen loc i u (located seen z loc are.0 (ap (λ (x : Variable). x.location) (some_same z v there) ∙ at)).free here
seen_apart seen (z ∷ vs) are (suc k) v there i u here = seen_apart (seen ++ z ∷ []) vs are.1 k v there i u (get_front seen (z ∷ []) i u here)

lie_apart : (seen vs : List Variable) → AreItems IsVariable seen vs → (i k : ℕ) (u v : Variable) → slice_get vs i ≡ Some u → slice_get vs k ≡ Some v → (i ≡ k → ⊥) → LieApart u v
lie_apart seen [] are i k u v here there other = absurd cc
lie_apart seen (z ∷ vs) are zero zero u v here there other = absurd (other refl)
lie_apart seen (z ∷ vs) are zero (suc k) u v here there other =
    subst (λ (x : Variable). LieApart x v) (some_same z u here) (seen_apart (seen ++ z ∷ []) vs are.1 k v there (length seen) z (get_last seen z))
lie_apart seen (z ∷ vs) are (suc i) zero u v here there other =
    subst (LieApart u) (some_same z v there) (lie_back z u (seen_apart (seen ++ z ∷ []) vs are.1 i u here (length seen) z (get_last seen z)))
lie_apart seen (z ∷ vs) are (suc i) (suc k) u v here there other = lie_apart (seen ++ z ∷ []) vs are.1 i k u v here there (λ e. other (ap suc e))

-- ---- the cells behind the first values of all

-- variables that begin with other values
abbrev beginning : (Variable → Value) → List Variable → List Variable
beginning first vs = map (λ (v : Variable). record v { initial = first v }) vs

-- one of them is written, in its own area
first_by : (b : Bool) (c : Cells) (l loc : Loc) (v : Value) → (b ≡ true → AreApart l loc) → SameAt (cond b (written c l v) c) c loc
first_by true c l loc v apart = apart_stays c l loc v (apart refl)
first_by false c l loc v apart = record { bits = λ k at. refl; words = λ k at. refl }

first_stays : (c : Cells) (o : Option Loc) (loc : Loc) (v : Value) → ((l : Loc) → o ≡ Some l → area_of l ≡ area_of loc → AreApart l loc) → SameAt (with_first (area_of loc) c o v) c loc
first_stays c None loc v apart = record { bits = λ k at. refl; words = λ k at. refl }
first_stays c (Some l) loc v apart = first_by (same_area (area_of l) (area_of loc)) c l loc v (λ e. apart l refl (same_area_is (area_of l) (area_of loc) e))

both_by : (b : Bool) (c d : Cells) (l loc : Loc) (v : Value) → AreCells c → AreCells d → SameAt c d loc → SameAt (cond b (written c l v) c) (cond b (written d l v) d) loc
both_by true c d l loc v is at same = written_same c d l loc v is at same
both_by false c d l loc v is at same = same

first_same : (area : Area) (c d : Cells) (o : Option Loc) (loc : Loc) (v : Value) → AreCells c → AreCells d → SameAt c d loc → SameAt (with_first area c o v) (with_first area d o v) loc
first_same area c d None loc v is at same = same
first_same area c d (Some l) loc v is at same = both_by (same_area (area_of l) area) c d l loc v is at same

-- none of them has a cell of the location
firsts_stay : (first : Variable → Value) (c : Cells) (vs : List Variable) (loc : Loc) → ((k : ℕ) (u : Variable) → slice_get vs k ≡ Some u → IsApart u loc)
    → SameAt (with_firsts (area_of loc) c (beginning first vs)) c loc
firsts_stay first c [] loc apart = record { bits = λ k at. refl; words = λ k at. refl }
firsts_stay first c (v ∷ vs) loc apart =
    let next = with_first (area_of loc) c v.location (first v) in
    same_on _ next c loc (firsts_stay first next vs loc (λ k u at. apart (suc k) u at)) (first_stays c v.location loc (first v) (apart 0 v refl))

-- those that begin with another value have no cell of the location
picked_first : (b : Bool) (z v : Value) → b ≡ false → cond b z v ≡ v
picked_first true z v e = absurd cc
picked_first false z v e = refl

firsts_same : (old c d : Cells) (vs : List Variable) (loc : Loc) → AreCells c → AreCells d → SameAt c d loc → ((k : ℕ) (u : Variable) → slice_get vs k ≡ Some u → u.retained ≡ true → IsApart u loc)
    → SameAt (with_firsts (area_of loc) c (beginning (warm_first old) vs)) (with_firsts (area_of loc) d vs) loc
firsts_same old c d [] loc is at same apart = same
firsts_same old c d (v ∷ vs) loc is at same apart =
    firsts_same old (with_first (area_of loc) c v.location (warm_first old v)) (with_first (area_of loc) d v.location v.initial) vs loc (with_first_are (area_of loc) c v.location (warm_first old v) is) (with_first_are (area_of loc) d v.location v.initial at) (next v.retained refl) (λ k u on. apart (suc k) u on)
  where
    next : (b : Bool) → v.retained ≡ b → SameAt (with_first (area_of loc) c v.location (warm_first old v)) (with_first (area_of loc) d v.location v.initial) loc
    next true e =
        same_on _ c _ loc (first_stays c v.location loc (warm_first old v) (apart 0 v refl e))
        (same_on _ d _ loc same (same_back _ d loc (first_stays d v.location loc v.initial (apart 0 v refl e))))
    next false e =
        rw (picked_first v.retained (unwrap_or (option_and_then (value_in old) v.location) v.initial) v.initial e) (first_same (area_of loc) c d v.location loc v.initial is at same)

pred_same : (k i : ℕ) → suc k ≡ suc i → k ≡ i
pred_same k i e = omega arith

-- one of them has the location
read_first : (first : Variable → Value) (old c : Cells) (vs : List Variable) (i : ℕ) (v : Variable) (loc : Loc) → AreCells c → slice_get vs i ≡ Some v → v.location ≡ Some loc → IsCell loc → value_in old loc ≡ Some (first v)
    → ((k : ℕ) (u : Variable) → slice_get vs k ≡ Some u → (k ≡ i → ⊥) → IsApart u loc) → value_in (with_firsts (area_of loc) c (beginning first vs)) loc ≡ Some (first v)
read_first first old c [] i v loc is at lies cell has apart = absurd cc
read_first first old c (z ∷ vs) zero v loc is at lies cell has apart =
    let same : z ≡ v = some_same z v at in
    let here : with_first (area_of loc) c z.location (first z) ≡ written c loc (first v) =
    rw (same, lies, same_area_self (area_of loc)) refl in
    let next = with_first (area_of loc) c z.location (first z) in
    value_same (with_firsts (area_of loc) next (beginning first vs)) next loc (firsts_stay first next vs loc (λ k u on. apart (suc k) u on (λ (e : suc k ≡ 0). absurd cc)))
    ∙ ap (λ (c : Cells). value_in c loc) here ∙ reads_back c old loc (first v) is cell has
read_first first old c (z ∷ vs) (suc i) v loc is at lies cell has apart =
    read_first first old (with_first (area_of loc) c z.location (first z)) vs i v loc (with_first_are (area_of loc) c z.location (first z) is) at lies cell has (λ k u on other. apart (suc k) u on (λ e. other (pred_same k i e)))

-- ---- the law

clear_are : AreCells clear_cells
clear_are = record { bits = refl; words = refl }

warm_at : (Q : Program) (s : State) (a : Area) → cells_of (warm Q s) a ≡ warm_cells a (cells_of s a) Q.variables
warm_at Q s areas.Input = refl
warm_at Q s areas.Output = refl
warm_at Q s areas.Memory = refl

cold_at : (Q : Program) (a : Area) → cells_of (cold Q) a ≡ first_cells a Q.variables
cold_at Q areas.Input = refl
cold_at Q areas.Output = refl
cold_at Q areas.Memory = refl

cells_are : (Q : Program) (s : State) (a : Area) → HasValues Q s → AreCells (cells_of s a)
cells_are Q s areas.Input vals = vals.input
cells_are Q s areas.Output vals = vals.output
cells_are Q s areas.Memory vals = vals.memory

-- no retained variable has a cell of the location
as_cold : (Q : Program) (s : State) (loc : Loc) → ((k : ℕ) (u : Variable) → slice_get Q.variables k ≡ Some u → u.retained ≡ true → IsApart u loc)
    → value_in (cells_of (warm Q s) (area_of loc)) loc ≡ value_in (cells_of (cold Q) (area_of loc)) loc
as_cold Q s loc apart =
    rw (warm_at Q s (area_of loc), cold_at Q (area_of loc))
    (value_same _ _ loc (firsts_same (cells_of s (area_of loc)) clear_cells clear_cells Q.variables loc clear_are clear_are (record { bits = λ k at. refl; words = λ k at. refl }) apart))

kept_first : (old : Cells) (v : Variable) (loc : Loc) (x : Value) → v.location ≡ Some loc → v.retained ≡ true → value_in old loc ≡ Some x → warm_first old v ≡ x
kept_first old v loc x lies kept has = rw (kept, lies, has) refl

-- a retained variable lies at the location
kept_there : (Q : Program) (s : State) (i : ℕ) (v : Variable) (loc : Loc) → IsProgram Q → HasValues Q s → slice_get Q.variables i ≡ Some v → v.location ≡ Some loc → v.retained ≡ true
    → value_in (cells_of (warm Q s) (area_of loc)) loc ≡ value_in (cells_of s (area_of loc)) loc
kept_there Q s i v loc is vals at lies kept =
    let old = cells_of s (area_of loc) in
    let cell = located_at [] Q.variables is.variables i v loc at lies in
    let there = value_there old loc (cells_are Q s (area_of loc) vals) cell in
    let own = kept_first old v loc there.0 lies kept there.1 in
    rw (warm_at Q s (area_of loc))
    (read_first (warm_first old) old clear_cells Q.variables i v loc clear_are at lies cell (there.1 ∙ ap (λ x. Some x) (sym own)) (λ k u on other. lie_apart [] Q.variables is.variables k i u v on at other loc lies)
    ∙ ap (λ x. Some x) own ∙ sym there.1)

-- the values of the variables' own
own_by : (b : Bool) (x y : Value) → Some (cond b x y) ≡ cond b (Some x) (Some y)
own_by true x y = refl
own_by false x y = refl

own_warm : (vs : List Variable) (own : List Value) (i : ℕ) (v : Variable) → map ty_of own ≡ map (λ (v : Variable). v.ty) vs → slice_get vs i ≡ Some v
    → slice_get (warm_values vs own) i ≡ cond v.retained (slice_get own i) (slice_get (map (λ (v : Variable). v.initial) vs) i)
own_warm [] own i v e at = absurd cc
own_warm (z ∷ vs) [] i v e at = absurd cc
own_warm (z ∷ vs) (x ∷ own) zero v e at = subst (λ (y : Variable). Some (cond z.retained x z.initial) ≡ cond y.retained (Some x) (Some z.initial)) (some_same z v at) (own_by z.retained x z.initial)
own_warm (z ∷ vs) (x ∷ own) (suc i) v e at = own_warm vs own i v (tail_same _ _ _ _ e) at

not_both : (u v : Variable) → u.retained ≡ true → v.retained ≡ false → u ≡ v → ⊥
not_both u v e f same = both_ways _ f (ap (λ (x : Variable). x.retained) (sym same) ∙ e)

variable_warm : (Q : Program) (s : State) (i : ℕ) (v : Variable) (o : Option Loc) (b : Bool) → IsProgram Q → HasValues Q s → slice_get Q.variables i ≡ Some v → v.location ≡ o → v.retained ≡ b
    → value_of (warm Q s) i o ≡ value_of (cond b s (cold Q)) i o
variable_warm Q s i v None true is vals at lies kept = own_warm Q.variables s.own i v vals.own at ∙ rw kept refl
variable_warm Q s i v None false is vals at lies kept = own_warm Q.variables s.own i v vals.own at ∙ rw kept refl
variable_warm Q s i v (Some loc) true is vals at lies kept = kept_there Q s i v loc is vals at lies kept
variable_warm Q s i v (Some loc) false is vals at lies kept =
    as_cold Q s loc (λ k u on stays. lie_apart [] Q.variables is.variables k i u v on at (λ (e : k ≡ i). not_both u v stays kept (some_same u v (sym on ∙ ap (slice_get Q.variables) e ∙ at))) loc lies)

-- instances
state_by : (b : Bool) (x y : BlockInstance) → Some (cond b x y) ≡ cond b (Some x) (Some y)
state_by true x y = refl
state_by false x y = refl

states_warm : (xs : List Instance) (states : List BlockInstance) (i : ℕ) (x : Instance) → AreInstances xs states → slice_get xs i ≡ Some x
    → slice_get (warm_instances xs states) i ≡ cond x.retained (slice_get states i) (slice_get (map cold_instance xs) i)
states_warm [] states i x are at = absurd cc
states_warm (z ∷ xs) [] i x are at = absurd are
states_warm (z ∷ xs) (y ∷ states) zero x are at =
    subst (λ (w : Instance). Some (cond z.retained y (cold_instance z)) ≡ cond w.retained (Some y) (Some (cold_instance z))) (some_same z x at) (state_by z.retained y (cold_instance z))
states_warm (z ∷ xs) (y ∷ states) (suc i) x are at = states_warm xs states i x are.1 at

instance_warm : (Q : Program) (s : State) (i : ℕ) (x : Instance) (b : Bool) → HasValues Q s → slice_get Q.instances i ≡ Some x → x.retained ≡ b
    → slice_get (warm Q s).instances i ≡ slice_get (cond b s (cold Q)).instances i
instance_warm Q s i x true vals at kept = states_warm Q.instances s.instances i x vals.instances at ∙ rw kept refl
instance_warm Q s i x false vals at kept = states_warm Q.instances s.instances i x vals.instances at ∙ rw kept refl

pub warm_keeps : (Q : Program) (s : State) → IsProgram Q → HasValues Q s → StartsWarm Q s (warm Q s)
warm_keeps Q s is vals = record {
  variables = λ i v at. variable_warm Q s i v v.location v.retained is vals at refl refl;
  instances = λ i x at. instance_warm Q s i x x.retained vals at refl;
  elsewhere = λ loc free. as_cold Q s loc (λ k u on stays. let there = filtered (λ (v : Variable). v.retained) Q.variables k u on stays in untaken_apart (filter (λ (v : Variable). v.retained) Q.variables) loc there.0 u free there.1);
  rest = refl;
}
