-- A location that a text says is a cell of its area, or two, and an instruction can name it.
use Rattle.std.proofs.Common.{◌≡◌, ℕ, ◌+◌, ◌*◌, ◌<◌, Bool, true, false, cond, eqb, ltb, List, [], ◌∷◌, Option, Some, None, refl, subst, ap, ◌∙◌, arith, ◌&&◌, take, drop}
use Rattle.std.proofs.lemmas.Bool.{ltb-true}
use Rattle.il_model.specs.declared.program.Area.{Area}
use Rattle.il_model.specs.declared.program.Loc.{Loc}
use Rattle.il_model.specs.declared.program.Loc.TheVariants.{Bit, Word, Pattern, Double}
use Rattle.il_model.specs.declared.program.DoubleType.{DoubleType}
use Rattle.il_model.specs.declared.program.DoubleType.TheVariants as doubles
use Rattle.il_values.specs.declared.value.Ty.{Ty}
use Rattle.il_values.specs.declared.value.Ty.TheVariants as types
use Rattle.il_model.specs.declared.dialect.Dialect.{Dialect}
use Rattle.il_model.specs.declared.dialect.Dialect.TheVariants as dialects
use Rattle.il_values.specs.Spelled.{upper}
use Rattle.il_model.specs.Literals.{integer_of}
use Rattle.il_model.specs.CodedOperands.{IsCell}
use Rattle.il_model.specs.Locations.{bit_of, word_of, letter_area, bit_at, word_at, place_at, place_in, dot_at, location_of}
use Rattle.il_model.specs.Locations.{begins_double, double_of, double_at, double_in, double_location_of, or_double, is_nameable, double_as, word_as, seen_as, parts_of, area_of}
use Rattle.il_model.specs.Typing.{loc_type}
use Rattle.il_model.specs.Doubles.{double_type}
use Rattle.il_model.specs.Codes.{is_type}
use Rattle.il_model.proofs.RowTypes.{same_type_is}
use Rattle.il_model.specs.Dialects.{location_in}

abbrev one_loc : Loc → Option Loc
one_loc z = Some z

some_loc : (x y : Loc) → one_loc x ≡ one_loc y → x ≡ y
some_loc x y e = cc

-- a location that is there and that an instruction can name
abbrev pub IsNamed : Loc → Type 0
IsNamed loc = IsCell loc × (is_nameable loc ≡ true)

bit_cell : (area : Area) (b n : Option ℕ) (loc : Loc) → bit_of area b n ≡ Some loc → IsNamed loc
bit_cell area None n loc e = absurd cc
bit_cell area (Some b) None loc e = absurd cc
bit_cell area (Some b) (Some n) loc e = chosen (ltb b 64) (ltb n 8) refl refl e
  where
    chosen : (p q : Bool) → ltb b 64 ≡ p → ltb n 8 ≡ q → cond (p && q) (Some (Bit area (8 * b + n))) None ≡ Some loc → IsNamed loc
    chosen true true f g h =
        let lb = ltb-true b 64 f in
        let ln = ltb-true n 8 g in
        let small : 8 * b + n < 512 = omega arith in
        subst IsNamed (some_loc (Bit area (8 * b + n)) loc h) (small, refl)
    chosen true false f g h = absurd cc
    chosen false q f g h = absurd cc

word_cell : (area : Area) (k : Option ℕ) (loc : Loc) → word_of area k ≡ Some loc → IsNamed loc
word_cell area None loc e = absurd cc
word_cell area (Some k) loc e = chosen (ltb k 64) refl e
  where
    chosen : (p : Bool) → ltb k 64 ≡ p → cond p (Some (Word area k)) None ≡ Some loc → IsNamed loc
    chosen true f h = subst IsNamed (some_loc (Word area k) loc h) (ltb-true k 64 f, refl)
    chosen false f h = absurd cc

at_bit : (area : Area) (bytes : List ℕ) (loc : Loc) → bit_at area bytes ≡ Some loc → IsNamed loc
unfolding bit_at
at_bit area bytes loc e = bit_cell area (integer_of 10 (take (dot_at bytes) bytes)) (integer_of 10 (drop (dot_at bytes + 1) bytes)) loc e

at_word : (area : Area) (bytes : List ℕ) (loc : Loc) → word_at area bytes ≡ Some loc → IsNamed loc
unfolding word_at
at_word area bytes loc e = word_cell area (integer_of 10 bytes) loc e

at_place : (area : Area) (bytes : List ℕ) (loc : Loc) → place_at area bytes ≡ Some loc → IsNamed loc
at_place area [] loc e = absurd cc
at_place area (b ∷ bs) loc e = chosen (eqb (upper b) 88) (eqb (upper b) 87) e
  where
    chosen : (p q : Bool) → cond p (bit_at area bs) (cond q (word_at area bs) (bit_at area (b ∷ bs))) ≡ Some loc → IsNamed loc
    chosen true q h = at_bit area bs loc h
    chosen false true h = at_word area bs loc h
    chosen false false h = at_bit area (b ∷ bs) loc h

in_place : (o : Option Area) (bytes : List ℕ) (loc : Loc) → place_in o bytes ≡ Some loc → IsNamed loc
in_place None bytes loc e = absurd cc
in_place (Some area) bytes loc e = at_place area bytes loc e

pub location_cell : (text : List ℕ) (loc : Loc) → location_of text ≡ Some loc → IsNamed loc
location_cell [] loc e = absurd cc
location_cell (percent ∷ []) loc e = absurd cc
location_cell (percent ∷ letter ∷ bytes) loc e = in_place (letter_area letter) bytes loc e

-- ---- double words

double_cell : (area : Area) (k : Option ℕ) (loc : Loc) → double_of area k ≡ Some loc → IsNamed loc
double_cell area None loc e = absurd cc
double_cell area (Some k) loc e = chosen (begins_double k) refl e
  where
    chosen : (p : Bool) → begins_double k ≡ p → cond p (Some (Double area k doubles.Dint)) None ≡ Some loc → IsNamed loc
    chosen true f h = subst IsNamed (some_loc (Double area k doubles.Dint) loc h) (f, refl)
    chosen false f h = absurd cc

at_double : (area : Area) (bytes : List ℕ) (loc : Loc) → double_at area bytes ≡ Some loc → IsNamed loc
unfolding double_at
at_double area bytes loc e = double_cell area (integer_of 10 bytes) loc e

in_double : (o : Option Area) (bytes : List ℕ) (loc : Loc) → double_in o bytes ≡ Some loc → IsNamed loc
in_double None bytes loc e = absurd cc
in_double (Some area) bytes loc e = at_double area bytes loc e

double_location : (text : List ℕ) (loc : Loc) → double_location_of text ≡ Some loc → IsNamed loc
double_location [] loc e = absurd cc
double_location (percent ∷ []) loc e = absurd cc
double_location (percent ∷ letter ∷ []) loc e = absurd cc
double_location (percent ∷ letter ∷ sort ∷ bytes) loc e = chosen (eqb (upper sort) 68) e
  where
    chosen : (p : Bool) → cond p (double_in (letter_area letter) bytes) None ≡ Some loc → IsNamed loc
    chosen true h = in_double (letter_area letter) bytes loc h
    chosen false h = absurd cc

either_location : (text : List ℕ) (o : Option Loc) (loc : Loc) → location_of text ≡ o → or_double text o ≡ Some loc → IsNamed loc
either_location text (Some x) loc f e = location_cell text loc (f ∙ e)
either_location text None loc f e = double_location text loc e

pub location_named : (dialect : Dialect) (text : List ℕ) (loc : Loc) → location_in dialect text ≡ Some loc → IsNamed loc
location_named dialects.Plain text loc e = location_cell text loc e
location_named dialects.Extended text loc e = either_location text (location_of text) loc refl e

-- ---- as that of a variable: it stays where it is

word_cell_seen : (type : Ty) (a : Area) (n : ℕ) → n < 64 → IsCell (word_as type a n)
word_cell_seen types.Word a n lt = lt
word_cell_seen _ a n lt = lt

pub cell_seen : (type : Ty) (loc : Loc) → IsCell loc → IsCell (seen_as type loc)
cell_seen type (Bit a n) cell = cell
cell_seen type (Word a n) cell = word_cell_seen type a n cell
cell_seen type (Pattern a n) cell = cell
cell_seen type (Double a n t) cell = cell

word_parts_seen : (type : Ty) (a : Area) (n : ℕ) → parts_of (word_as type a n) ≡ Word a n ∷ []
word_parts_seen types.Word a n = refl
word_parts_seen _ a n = refl

pub parts_seen : (type : Ty) (loc : Loc) → parts_of (seen_as type loc) ≡ parts_of loc
parts_seen type (Bit a n) = refl
parts_seen type (Word a n) = word_parts_seen type a n
parts_seen type (Pattern a n) = refl
parts_seen type (Double a n t) = refl

word_area_seen : (type : Ty) (a : Area) (n : ℕ) → area_of (word_as type a n) ≡ a
word_area_seen types.Word a n = refl
word_area_seen _ a n = refl

pub area_seen : (type : Ty) (loc : Loc) → area_of (seen_as type loc) ≡ area_of loc
area_seen type (Bit a n) = refl
area_seen type (Word a n) = word_area_seen type a n
area_seen type (Pattern a n) = refl
area_seen type (Double a n t) = refl

-- the location as a text has it: a word or a double word of no type of its own
abbrev pub text_loc : Loc → Loc
text_loc (Pattern a n) = Word a n
text_loc (Double a n t) = Double a n doubles.Dint
text_loc loc = loc

pub parts_in_text : (loc : Loc) → parts_of (text_loc loc) ≡ parts_of loc
parts_in_text (Bit a n) = refl
parts_in_text (Word a n) = refl
parts_in_text (Pattern a n) = refl
parts_in_text (Double a n t) = refl

pub area_in_text : (loc : Loc) → area_of (text_loc loc) ≡ area_of loc
area_in_text (Bit a n) = refl
area_in_text (Word a n) = refl
area_in_text (Pattern a n) = refl
area_in_text (Double a n t) = refl

-- what an instruction can name is as a text has it
pub named_seen : (loc : Loc) → is_nameable loc ≡ true → text_loc loc ≡ loc
named_seen (Bit a n) e = refl
named_seen (Word a n) e = refl
named_seen (Pattern a n) e = absurd cc
named_seen (Double a n doubles.Dint) e = refl
named_seen (Double a n doubles.Time) e = absurd cc
named_seen (Double a n doubles.Real) e = absurd cc
named_seen (Double a n doubles.Dword) e = absurd cc

own_again : (t : DoubleType) → double_as (double_type t) doubles.Dint ≡ t
own_again doubles.Dint = refl
own_again doubles.Time = refl
own_again doubles.Real = refl
own_again doubles.Dword = refl

word_again : (type : Ty) (a : Area) (n : ℕ) (b : Bool) → is_type type (cond b (Some types.Int) None) ≡ true → word_as type a n ≡ Word a n
word_again types.Int a n true e = refl
word_again types.Word a n true e = absurd cc
word_again _ a n true e = refl
word_again type a n false e = absurd cc

pattern_again : (type : Ty) (a : Area) (n : ℕ) (b : Bool) → is_type type (cond b (Some types.Word) None) ≡ true → word_as type a n ≡ Pattern a n
pattern_again type a n true e = ap (λ (u : Ty). word_as u a n) (same_type_is type types.Word e)
pattern_again type a n false e = absurd cc

-- of a text's word or double word, a variable of the type makes its own
pub seen_again : (type : Ty) (loc : Loc) → is_type type (loc_type loc) ≡ true → seen_as type (text_loc loc) ≡ loc
seen_again type (Bit a n) e = refl
seen_again type (Word a n) e = word_again type a n (ltb n 64) e
seen_again type (Pattern a n) e = pattern_again type a n (ltb n 64) e
seen_again type (Double a n t) e = by_test (begins_double n) e
  where
    by_test : (b : Bool) → is_type type (cond b (Some (double_type t)) None) ≡ true → Double a n (double_as type doubles.Dint) ≡ Double a n t
    by_test true h = ap (Double a n) (ap (λ (u : Ty). double_as u doubles.Dint) (same_type_is type (double_type t) h) ∙ own_again t)
    by_test false h = absurd cc
