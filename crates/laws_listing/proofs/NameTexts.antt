-- Names: in capital letters already, and other than the keywords.
use Rattle.std.proofs.Common.{◌≡◌, ℕ, ◌≤◌, Bool, true, false, cond, eqb, leb, List, [], ◌∷◌, length, Some, None, refl, sym, ap, ◌∙◌, arith, ◌&&◌, ◌||◌, not}
use Rattle.std.specs.Prelude.{nat_lt, find}
use Rattle.std.specs.List.{list_all, list_any}
use Rattle.std.specs.Str.{bytes_eq}
use Rattle.std.proofs.lemmas.Bool.{leb-true, lt-leb, eqb-true}
use Rattle.std.proofs.lemmas.Slice.Eq.{bytes_eq-Decides}
use Rattle.il_model.specs.Dialects.{newest}
use Rattle.il_model.specs.declared.dialect.Dialect.{Dialect}
use Rattle.il_model.specs.declared.dialect.Dialect.TheVariants as dialects
use Rattle.il_model.specs.declared.codes.Version.{Version}
use Rattle.il_model.specs.declared.codes.Version.TheVariants as versions
use Rattle.il_values.specs.declared.op.Op.{Op}
use Rattle.il_values.specs.declared.op.Modifier.{Modifier}
use Rattle.il_model.specs.declared.kind.BlockKind.{BlockKind}
use Rattle.il_model.specs.declared.kind.BlockKind.TheVariants as kinds
use Rattle.il_model.specs.declared.kind.Field.{Field}
use Rattle.il_model.specs.declared.kind.Field.TheVariants as fields
use Rattle.il_values.specs.declared.value.Ty.{Ty}
use Rattle.il_values.specs.declared.value.Ty.TheVariants as types
use Rattle.il_model.specs.Words.{is_first_byte, is_name_byte, is_well_spelled, mnemonic_table, look, mnemonic_of, reserved_words, is_reserved}
use Rattle.il_values.specs.Spelled.{upper, spells}
use Rattle.il_model.specs.Words.{is_dot, has_dot, under, name_parts, is_part, is_lawful_name}
use Rattle.il_model.specs.Kinds.{block_kinds, kind_name, field_name}
use Rattle.il_model.specs.Image.{may_have, may_call}
use Rattle.il_model.specs.Codes.{longest_name, length_in}
use Rattle.il_model.proofs.NameLengths.{length_kept}
use Rattle.il_declarations.specs.Resolution.{capitals}
use Rattle.il_lister.specs.Listing.{type_name}
use Rattle.laws_listing.proofs.Fronts.{begins, both_true, not_true}
use Rattle.laws_listing.proofs.NameRuns.{both_so, both_false, part_says, no_dots, dotless, under_parts, all_and_last, dot_under, is_run, parts_run, run_byte}

-- a word in capital letters, of at most 32 characters
pub record IsWord (w : List ℕ) : Type 0 where
  pub part : is_part w ≡ true

pub word_by : (w : List ℕ) → is_part w ≡ true → IsWord w
word_by w e = record { part = e }

-- a name that a text of the dialect can say: such words with dots between them, or one alone
pub record IsName (dialect : Dialect) (w : List ℕ) : Type 0 where
  pub parts : list_all is_part (name_parts w) ≡ true
  pub short : length w ≤ longest_name (newest dialect)
  pub known : may_call (newest dialect) w ≡ true

-- one that no word of the language is
pub record IsFreeName (dialect : Dialect) (w : List ℕ) : Type 0 where
  pub name : IsName dialect w
  pub free : is_reserved w ≡ false

-- ---- a word is such a name

alone : (w : List ℕ) → has_dot w ≡ false → is_part w ≡ true → list_all is_part (name_parts w) ≡ true
alone w plain is = ap (λ (ps : List (List ℕ)). list_all is_part ps) (dotless w plain) ∙ both_so (is_part w) true is refl

plain_known : (dialect : Dialect) (d : Bool) → d ≡ false → may_have (newest dialect) (cond d versions.Three versions.One) ≡ true
plain_known dialect true e = absurd cc
plain_known dialects.Plain false e = refl
plain_known dialects.Extended false e = refl

pub at_least : (dialect : Dialect) → 32 ≤ longest_name (newest dialect)
at_least dialects.Plain = omega arith
at_least dialects.Extended = omega arith

pub at_most_long : (dialect : Dialect) → longest_name (newest dialect) ≤ 96
at_most_long dialects.Plain = omega arith
at_most_long dialects.Extended = omega arith

pub word_name : (dialect : Dialect) (w : List ℕ) → IsWord w → IsName dialect w
word_name dialect w is =
    let says = part_says w is.part in
    let plain = no_dots w says.bytes in
    let short = says.short in
    let least = at_least dialect in
    record { parts = alone w plain is.part; short = omega (arith, short, least); known = plain_known dialect (has_dot w) plain }

-- ---- capital letters

within : (low high b : ℕ) → (leb low b && leb b high) ≡ true → b ≤ high
within low high b e = leb-true b high (both_true (leb low b) (leb b high) e).1

-- no word has a byte above the underscore
low_byte : (b : ℕ) → is_name_byte b ≡ true → b ≤ 95
low_byte b is = by_letter (leb 65 b && leb b 90) (eqb b 95) (leb 48 b && leb b 57) refl refl refl is
  where
    by_letter : (p q r : Bool) → (leb 65 b && leb b 90) ≡ p → eqb b 95 ≡ q → (leb 48 b && leb b 57) ≡ r → ((p || q) || r) ≡ true → b ≤ 95
    by_letter true q r e f g h = let l = within 65 90 b e in omega (arith, l)
    by_letter false true r e f g h = let l = eqb-true b 95 f in omega (arith, l)
    by_letter false false true e f g h = let l = within 48 57 b g in omega (arith, l)
    by_letter false false false e f g h = absurd cc

low_run : (b : ℕ) → (is_name_byte b || is_dot b) ≡ true → b ≤ 95
low_run b is = by_name (is_name_byte b) refl is
  where
    by_name : (n : Bool) → is_name_byte b ≡ n → (n || is_dot b) ≡ true → b ≤ 95
    by_name true e h = low_byte b e
    by_name false e h = let l = eqb-true b 46 h in omega (arith, l)

upper_stays : (b : ℕ) → b ≤ 95 → upper b ≡ b
upper_stays b low = rw (lt-leb 97 b (omega (arith, low))) refl

all_stay : (w : List ℕ) → is_run w ≡ true → capitals w ≡ w
all_stay [] run = refl
all_stay (b ∷ bs) run =
    let h = both_true (is_name_byte b || (is_dot b && begins is_first_byte bs)) (is_run bs) run in
    rw (upper_stays b (low_run b (run_byte b bs h.0)), all_stay bs h.1) refl

pub capital : (dialect : Dialect) (w : List ℕ) → IsName dialect w → capitals w ≡ w
capital dialect w is = all_stay w (parts_run w is.parts)

pub capital_word : (w : List ℕ) → IsWord w → capitals w ≡ w
capital_word w is = capital dialects.Plain w (word_name dialects.Plain w is)

-- ---- words

pub spelled_is : (k w : List ℕ) → spells k w ≡ true → capitals w ≡ k
unfolding spells
spelled_is [] [] e = refl
spelled_is [] (b ∷ bs) e = absurd cc
spelled_is (k ∷ ks) [] e = absurd cc
spelled_is (k ∷ ks) (b ∷ bs) e =
    let h = both_true (eqb (upper b) k) (spells ks bs) e in
    rw (eqb-true (upper b) k h.0, spelled_is ks bs h.1) refl

-- a word of the language isn't spelled so
pub not_word : (dialect : Dialect) (k w : List ℕ) → is_reserved k ≡ true → IsFreeName dialect w → spells k w ≡ false
not_word dialect k w reserved is = by_test (spells k w) refl
  where
    by_test : (b : Bool) → spells k w ≡ b → b ≡ false
    by_test false e = refl
    by_test true e =
        let same : w ≡ k = sym (capital dialect w is.name) ∙ spelled_is k w e in
        let clash : true ≡ false = sym reserved ∙ ap is_reserved (sym same) ∙ is.free in
        absurd cc

-- ---- a name with a dot is no word of the language

other_than : (k w : List ℕ) → has_dot k ≡ false → has_dot w ≡ true → k ≡ w → ⊥
other_than k w plain dotted same = let clash : false ≡ true = sym plain ∙ ap has_dot same ∙ dotted in cc

not_spelled : (k w : List ℕ) → has_dot k ≡ false → has_dot w ≡ true → capitals w ≡ w → spells k w ≡ false
not_spelled k w plain dotted capital_is = by_test (spells k w) refl
  where
    by_test : (b : Bool) → spells k w ≡ b → b ≡ false
    by_test false e = refl
    by_test true e = absurd (other_than k w plain dotted (sym (sym capital_is ∙ spelled_is k w e)))

not_equal : (k w : List ℕ) → has_dot k ≡ false → has_dot w ≡ true → bytes_eq k w ≡ false
not_equal k w plain dotted = by_test (bytes_eq k w) refl
  where
    by_test : (b : Bool) → bytes_eq k w ≡ b → b ≡ false
    by_test false e = refl
    by_test true e = absurd (other_than k w plain dotted ((bytes_eq-Decides k w).0 e))

not_listed : (words : List (List ℕ)) (w : List ℕ) → list_any has_dot words ≡ false → has_dot w ≡ true → list_any (λ word. bytes_eq word w) words ≡ false
not_listed [] w plain dotted = refl
not_listed (k ∷ ks) w plain dotted =
    let h = both_false (has_dot k) (list_any has_dot ks) plain in
    rw (not_equal k w h.0 dotted) (not_listed ks w h.1 dotted)

no_kind : (kinds : List BlockKind) (w : List ℕ) → list_any (λ kind. has_dot (kind_name kind)) kinds ≡ false → has_dot w ≡ true → find (λ kind. bytes_eq (kind_name kind) w) kinds ≡ None
no_kind [] w plain dotted = refl
no_kind (k ∷ ks) w plain dotted =
    let h = both_false (has_dot (kind_name k)) (list_any (λ kind. has_dot (kind_name kind)) ks) plain in
    rw (not_equal (kind_name k) w h.0 dotted) (no_kind ks w h.1 dotted)

no_operator : (es : List (List ℕ × Op × Modifier)) (w : List ℕ) → list_any (λ e. has_dot e.0) es ≡ false → has_dot w ≡ true → capitals w ≡ w → look es w ≡ None
unfolding look
no_operator [] w plain dotted capital_is = refl
no_operator (e ∷ es) w plain dotted capital_is =
    let h = both_false (has_dot e.0) (list_any (λ x. has_dot x.0) es) plain in
    rw (not_spelled e.0 w h.0 dotted capital_is) (no_operator es w h.1 dotted capital_is)

no_mnemonic : (w : List ℕ) → has_dot w ≡ true → capitals w ≡ w → mnemonic_of w ≡ None
unfolding mnemonic_of
no_mnemonic w dotted capital_is = no_operator mnemonic_table w refl dotted capital_is

pub dotted_free : (w : List ℕ) → list_all is_part (name_parts w) ≡ true → has_dot w ≡ true → is_reserved w ≡ false
dotted_free w parts dotted =
    let o = no_mnemonic w dotted (all_stay w (parts_run w parts)) in
    let k = no_kind block_kinds w refl dotted in
    rw (o, k) (not_listed reserved_words w refl dotted)

-- ---- lawful names

short_so : (version : Version) (n : ℕ) → length_in version n ≡ Some n → n ≤ longest_name version
short_so version n e = by_tests (nat_lt 0 n) (leb n (longest_name version)) refl e
  where
    by_tests : (p q : Bool) → leb n (longest_name version) ≡ q → cond (p && q) (Some n) None ≡ Some n → n ≤ longest_name version
    by_tests true true f h = leb-true n (longest_name version) f
    by_tests true false f h = absurd cc
    by_tests false q f h = absurd cc

-- what a name is that has a length in an image, and is lawful
pub record IsLawful (w : List ℕ) : Type 0 where
  pub length : length_in versions.Three (length w) ≡ Some (length w)
  pub lawful : is_lawful_name w ≡ true

lawful_parts : (w : List ℕ) → is_lawful_name w ≡ true → (list_all is_part (name_parts w) ≡ true) × (is_reserved w ≡ false)
lawful_parts w lawful = by_dot (has_dot w) refl lawful
  where
    by_dot : (d : Bool) → has_dot w ≡ d → cond d (list_all is_part (name_parts w)) (is_part w && not (is_reserved w)) ≡ true → (list_all is_part (name_parts w) ≡ true) × (is_reserved w ≡ false)
    by_dot true e h = (h, dotted_free w h e)
    by_dot false e h =
        let a = both_true (is_part w) (not (is_reserved w)) h in
        (alone w e a.0, not_true (is_reserved w) a.1)

pub lawful_free : (dialect : Dialect) (w : List ℕ) → IsLawful w → may_call (newest dialect) w ≡ true → IsFreeName dialect w
lawful_free dialect w is may =
    let says = lawful_parts w is.lawful in
    record {
      name = record { parts = says.0; short = short_so (newest dialect) (length w) (length_kept (newest dialect) w is.length is.lawful may); known = may };
      free = says.1;
    }

-- ---- the field of an instance, as one name

pub under_free : (w field : List ℕ) → IsFreeName dialects.Extended w → IsWord field → length (under w field) ≤ 96 → IsFreeName dialects.Extended (under w field)
under_free w field is also short =
    let plain = no_dots field (part_says field also.part).bytes in
    let parts : list_all is_part (name_parts (under w field)) ≡ true = ap (λ (ps : List (List ℕ)). list_all is_part ps) (under_parts w field plain) ∙ all_and_last is_part (name_parts w) field is.name.parts also.part in
    record {
      name = record { parts = parts; short = short; known = refl };
      free = dotted_free (under w field) parts (dot_under w field);
    }

-- ---- the language's own names

-- the name of a field of a block
pub record IsFieldName (w : List ℕ) : Type 0 where
  pub name : IsWord w
  pub small : length w ≤ 3

pub field_is : (field : Field) → IsFieldName (field_name field)
unfolding is_well_spelled
field_is fields.S1 = record { name = word_by _ refl; small = omega arith }
field_is fields.S = record { name = word_by _ refl; small = omega arith }
field_is fields.R1 = record { name = word_by _ refl; small = omega arith }
field_is fields.R = record { name = word_by _ refl; small = omega arith }
field_is fields.Clk = record { name = word_by _ refl; small = omega arith }
field_is fields.Cu = record { name = word_by _ refl; small = omega arith }
field_is fields.Cd = record { name = word_by _ refl; small = omega arith }
field_is fields.Ld = record { name = word_by _ refl; small = omega arith }
field_is fields.Pv = record { name = word_by _ refl; small = omega arith }
field_is fields.In = record { name = word_by _ refl; small = omega arith }
field_is fields.Pt = record { name = word_by _ refl; small = omega arith }
field_is fields.Q1 = record { name = word_by _ refl; small = omega arith }
field_is fields.Q = record { name = word_by _ refl; small = omega arith }
field_is fields.Qu = record { name = word_by _ refl; small = omega arith }
field_is fields.Qd = record { name = word_by _ refl; small = omega arith }
field_is fields.Cv = record { name = word_by _ refl; small = omega arith }
field_is fields.Et = record { name = word_by _ refl; small = omega arith }

pub kind_is : (kind : BlockKind) → IsWord (kind_name kind)
unfolding is_well_spelled
kind_is kinds.Sr = word_by _ refl
kind_is kinds.Rs = word_by _ refl
kind_is kinds.RTrig = word_by _ refl
kind_is kinds.FTrig = word_by _ refl
kind_is kinds.Ctu = word_by _ refl
kind_is kinds.Ctd = word_by _ refl
kind_is kinds.Ctud = word_by _ refl
kind_is kinds.Tp = word_by _ refl
kind_is kinds.Ton = word_by _ refl
kind_is kinds.Tof = word_by _ refl

pub type_is : (type : Ty) → IsWord (type_name type)
unfolding is_well_spelled
type_is types.Bool = word_by _ refl
type_is types.Int = word_by _ refl
type_is types.Dint = word_by _ refl
type_is types.Time = word_by _ refl
type_is types.Lint = word_by _ refl
type_is types.Real = word_by _ refl
type_is types.Word = word_by _ refl
type_is types.Dword = word_by _ refl
