-- The table of operand codes: each operand of its own code, and the code of each operand.
use Rattle.std.proofs.Common.{◌≡◌, ℕ, ◌+◌, ◌-◌, ◌*◌, ◌^◌, ◌<◌, ◌≤◌, Bool, true, false, List, cond, ltb, eqb, Option, Some, None, refl, sym, subst, ◌∙◌, arith}
use Rattle.std.specs.Prelude.{◌/◌, ◌%◌}
use Rattle.std.specs.Option.{option_map}
use Rattle.std.proofs.lemmas.Bool.{ltb-true, ltb-false, lt-ltb, le-ltb, eqb-true}
use Rattle.il_model.specs.declared.program.Area.{Area}
use Rattle.il_model.specs.declared.program.Area.TheVariants as areas
use Rattle.il_model.specs.declared.program.Loc.{Loc}
use Rattle.il_model.specs.declared.program.Loc.TheVariants.{Bit, Word, Pattern, Double}
use Rattle.il_model.specs.declared.program.DoubleType.{DoubleType}
use Rattle.il_model.specs.declared.program.DoubleType.TheVariants as doubles
use Rattle.il_model.specs.declared.coded_operand.CodedOperand.{CodedOperand}
use Rattle.il_model.specs.declared.coded_operand.CodedOperand.TheVariants.{Location, Variable, Field, Constant, Unused}
use Rattle.il_values.specs.declared.value.Ty.{Ty}
use Rattle.il_model.specs.declared.program.Variable as declarations
use Rattle.il_model.specs.Locations.{begins_double}
use Rattle.il_model.specs.Typing.{loc_type}
use Rattle.il_model.specs.Codes.{is_type, is_overlapped, coded_location}
use Rattle.il_model.specs.CodedOperands.{base_of, first_double, loc_code, IsCell, double_loc, pattern_loc, double_there, area_loc, any_loc, code_of, HasOwnCode, with_code}
use Rattle.il_model.proofs.LocationLaws.{double_fits}

same_loc : (x y : Loc) → Some x ≡ Some y → x ≡ y
same_loc x y e = cc

same_operand : (x y : CodedOperand) → Some x ≡ Some y → x ≡ y
same_operand x y e = cc

-- ---- locations

bit_there : (area : Area) (n : ℕ) → n < 512 → area_loc area n ≡ Some (Bit area n)
bit_there area n lt = rw (lt-ltb n 512 lt) refl

word_there : (area : Area) (n : ℕ) → n < 64 → area_loc area (1024 + n) ≡ Some (Word area n)
word_there area n lt =
    let back : 1024 + n - 1024 ≡ n = omega arith in
    rw (le-ltb (1024 + n) 512 (omega arith), le-ltb (1024 + n) 1024 (omega arith), lt-ltb (1024 + n) 1088 (omega arith), back) refl

dint_there : (area : Area) (n : ℕ) → begins_double n ≡ true → area_loc area (1280 + n) ≡ Some (Double area n doubles.Dint)
dint_there area n cell =
    let lt = double_fits n cell in
    let back : 1280 + n - 1280 ≡ n = omega arith in
    rw (le-ltb (1280 + n) 512 (omega arith), le-ltb (1280 + n) 1024 (omega arith), le-ltb (1280 + n) 1088 (omega arith), le-ltb (1280 + n) 1280 (omega arith), lt-ltb (1280 + n) 1536 (omega (arith, lt)), back, cell) refl

time_there : (area : Area) (n : ℕ) → begins_double n ≡ true → area_loc area (1536 + n) ≡ Some (Double area n doubles.Time)
time_there area n cell =
    let lt = double_fits n cell in
    let back : 1536 + n - 1536 ≡ n = omega arith in
    rw (le-ltb (1536 + n) 512 (omega arith), le-ltb (1536 + n) 1024 (omega arith), le-ltb (1536 + n) 1088 (omega arith), le-ltb (1536 + n) 1280 (omega arith), le-ltb (1536 + n) 1536 (omega arith), lt-ltb (1536 + n) 1792 (omega (arith, lt)), back, cell) refl

real_there : (area : Area) (n : ℕ) → begins_double n ≡ true → area_loc area (1792 + n) ≡ Some (Double area n doubles.Real)
real_there area n cell =
    let lt = double_fits n cell in
    let back : 1792 + n - 1792 ≡ n = omega arith in
    rw (le-ltb (1792 + n) 512 (omega arith), le-ltb (1792 + n) 1024 (omega arith), le-ltb (1792 + n) 1088 (omega arith), le-ltb (1792 + n) 1280 (omega arith), le-ltb (1792 + n) 1536 (omega arith), le-ltb (1792 + n) 1792 (omega arith), lt-ltb (1792 + n) 2048 (omega (arith, lt)), back, cell) refl

dword_there : (area : Area) (n : ℕ) → begins_double n ≡ true → area_loc area (2048 + n) ≡ Some (Double area n doubles.Dword)
dword_there area n cell =
    let lt = double_fits n cell in
    let back : 2048 + n - 2048 ≡ n = omega arith in
    rw (le-ltb (2048 + n) 512 (omega arith), le-ltb (2048 + n) 1024 (omega arith), le-ltb (2048 + n) 1088 (omega arith), le-ltb (2048 + n) 1280 (omega arith), le-ltb (2048 + n) 1536 (omega arith), le-ltb (2048 + n) 1792 (omega arith), le-ltb (2048 + n) 2048 (omega arith), lt-ltb (2048 + n) 2304 (omega (arith, lt)), back, cell) refl

pattern_there : (area : Area) (n : ℕ) → n < 64 → area_loc area (2304 + n) ≡ Some (Pattern area n)
pattern_there area n lt =
    let back : 2304 + n - 2304 ≡ n = omega arith in
    rw (le-ltb (2304 + n) 512 (omega arith), le-ltb (2304 + n) 1024 (omega arith), le-ltb (2304 + n) 1088 (omega arith), le-ltb (2304 + n) 1280 (omega arith), le-ltb (2304 + n) 1536 (omega arith), le-ltb (2304 + n) 1792 (omega arith), le-ltb (2304 + n) 2048 (omega arith), le-ltb (2304 + n) 2304 (omega arith), back, lt-ltb n 64 lt) refl

double_found : (area : Area) (t : DoubleType) (n : ℕ) → begins_double n ≡ true → area_loc area (first_double t + n) ≡ Some (Double area n t)
double_found area doubles.Dint n cell = dint_there area n cell
double_found area doubles.Time n cell = time_there area n cell
double_found area doubles.Real n cell = real_there area n cell
double_found area doubles.Dword n cell = dword_there area n cell

double_small : (t : DoubleType) → first_double t ≤ 2048
double_small doubles.Dint = omega arith
double_small doubles.Time = omega arith
double_small doubles.Real = omega arith
double_small doubles.Dword = omega arith

any_there : (area : Area) (n : ℕ) → n < 4096 → any_loc (base_of area + n) ≡ area_loc area n
any_there areas.Input n lt =
    let same : 0 + n ≡ n = omega arith in
    rw (same, lt-ltb n 4096 lt) refl
any_there areas.Output n lt =
    let back : 4096 + n - 4096 ≡ n = omega arith in
    rw (le-ltb (4096 + n) 4096 (omega arith), lt-ltb (4096 + n) 8192 (omega arith), back) refl
any_there areas.Memory n lt =
    let back : 8192 + n - 8192 ≡ n = omega arith in
    rw (le-ltb (8192 + n) 4096 (omega arith), le-ltb (8192 + n) 8192 (omega arith), back) refl

pub loc_again : (loc : Loc) → IsCell loc → any_loc (loc_code loc) ≡ Some loc
loc_again (Bit area n) lt = any_there area n (omega (arith, lt)) ∙ bit_there area n lt
loc_again (Word area n) lt = any_there area (1024 + n) (omega (arith, lt)) ∙ word_there area n lt
loc_again (Pattern area n) lt = any_there area (2304 + n) (omega (arith, lt)) ∙ pattern_there area n lt
loc_again (Double area n t) cell = any_there area (first_double t + n) (omega (arith, double_fits n cell, double_small t)) ∙ double_found area t n cell

base_small : (area : Area) → base_of area ≤ 8192
base_small areas.Input = omega arith
base_small areas.Output = omega arith
base_small areas.Memory = omega arith

pub loc_small : (loc : Loc) → IsCell loc → loc_code loc < 16384
loc_small (Bit area n) lt = omega (arith, lt, base_small area)
loc_small (Word area n) lt = omega (arith, lt, base_small area)
loc_small (Pattern area n) lt = omega (arith, lt, base_small area)
loc_small (Double area n t) cell = omega (arith, double_fits n cell, base_small area, double_small t)

-- a cell with that code
pub record IsCellAt (n : ℕ) (loc : Loc) : Type 0 where
  pub cell : IsCell loc
  pub code : loc_code loc ≡ n

double_back : (area : Area) (t : DoubleType) (n k : ℕ) (loc : Loc) → base_of area + (first_double t + n) ≡ k → double_loc area t n ≡ Some loc → IsCellAt k loc
double_back area t n k loc is e = by_test (begins_double n) refl e
  where
    by_test : (p : Bool) → begins_double n ≡ p → cond p (Some (Double area n t)) None ≡ Some loc → IsCellAt k loc
    by_test true f d = subst (IsCellAt k) (same_loc (Double area n t) loc d) (record { cell = f; code = is })
    by_test false f d = absurd cc

pattern_back : (area : Area) (n k : ℕ) (loc : Loc) → base_of area + (2304 + n) ≡ k → pattern_loc area n ≡ Some loc → IsCellAt k loc
pattern_back area n k loc is e = by_test (ltb n 64) refl e
  where
    by_test : (p : Bool) → ltb n 64 ≡ p → cond p (Some (Pattern area n)) None ≡ Some loc → IsCellAt k loc
    by_test true f d = subst (IsCellAt k) (same_loc (Pattern area n) loc d) (record { cell = ltb-true n 64 f; code = is })
    by_test false f d = absurd cc

doubles_back : (area : Area) (n k : ℕ) (loc : Loc) → base_of area + n ≡ k → double_there area n ≡ Some loc → IsCellAt k loc
doubles_back area n k loc is e = by_tests (ltb n 1280) (ltb n 1536) (ltb n 1792) (ltb n 2048) (ltb n 2304) refl refl refl refl refl e
  where
    by_tests : (p q r s t : Bool) → ltb n 1280 ≡ p → ltb n 1536 ≡ q → ltb n 1792 ≡ r → ltb n 2048 ≡ s → ltb n 2304 ≡ t
        → cond p None (cond q (double_loc area doubles.Dint (n - 1280)) (cond r (double_loc area doubles.Time (n - 1536)) (cond s (double_loc area doubles.Real (n - 1792)) (cond t (double_loc area doubles.Dword (n - 2048)) (pattern_loc area (n - 2304)))))) ≡ Some loc → IsCellAt k loc
    by_tests true q r s t f g h i j d = absurd cc
    by_tests false true r s t f g h i j d = let above = ltb-false n 1280 f in double_back area doubles.Dint (n - 1280) k loc (omega (arith, is)) d
    by_tests false false true s t f g h i j d = let above = ltb-false n 1536 g in double_back area doubles.Time (n - 1536) k loc (omega (arith, is)) d
    by_tests false false false true t f g h i j d = let above = ltb-false n 1792 h in double_back area doubles.Real (n - 1792) k loc (omega (arith, is)) d
    by_tests false false false false true f g h i j d = let above = ltb-false n 2048 i in double_back area doubles.Dword (n - 2048) k loc (omega (arith, is)) d
    by_tests false false false false false f g h i j d = let above = ltb-false n 2304 j in pattern_back area (n - 2304) k loc (omega (arith, is)) d

area_back : (area : Area) (n k : ℕ) (loc : Loc) → base_of area + n ≡ k → area_loc area n ≡ Some loc → IsCellAt k loc
area_back area n k loc is e = by_tests (ltb n 512) (ltb n 1024) (ltb n 1088) refl refl refl e
  where
    by_tests : (p q r : Bool) → ltb n 512 ≡ p → ltb n 1024 ≡ q → ltb n 1088 ≡ r → cond p (Some (Bit area n)) (cond q None (cond r (Some (Word area (n - 1024))) (double_there area n))) ≡ Some loc → IsCellAt k loc
    by_tests true q r f g h d = subst (IsCellAt k) (same_loc (Bit area n) loc d) (record { cell = ltb-true n 512 f; code = is })
    by_tests false true r f g h d = absurd cc
    by_tests false false true f g h d =
        let above = ltb-false n 1024 g in
        let below = ltb-true n 1088 h in
        let small : n - 1024 < 64 = omega arith in
        let code : base_of area + (1024 + (n - 1024)) ≡ k = omega (arith, is) in
        subst (IsCellAt k) (same_loc (Word area (n - 1024)) loc d) (record { cell = small; code = code })
    by_tests false false false f g h d = doubles_back area n k loc is d

pub loc_back : (n : ℕ) (loc : Loc) → any_loc n ≡ Some loc → IsCellAt n loc
loc_back n loc e = by_tests (ltb n 4096) (ltb n 8192) refl refl e
  where
    by_tests : (p q : Bool) → ltb n 4096 ≡ p → ltb n 8192 ≡ q → cond p (area_loc areas.Input n) (cond q (area_loc areas.Output (n - 4096)) (area_loc areas.Memory (n - 8192))) ≡ Some loc → IsCellAt n loc
    by_tests true q f g d = area_back areas.Input n n loc (omega arith) d
    by_tests false true f g d = let above = ltb-false n 4096 f in area_back areas.Output (n - 4096) n loc (omega arith) d
    by_tests false false f g d = let above = ltb-false n 8192 g in area_back areas.Memory (n - 8192) n loc (omega arith) d

-- ---- all operands

pub coded_again : (x : CodedOperand) → HasOwnCode x → with_code (code_of x) ≡ Some x
coded_again (Location loc) own = rw (lt-ltb (loc_code loc) 16384 (loc_small loc own), loc_again loc own) refl
coded_again (Variable i) own =
    let back : 16384 + i - 16384 ≡ i = omega arith in
    rw (le-ltb (16384 + i) 16384 (omega arith), lt-ltb (16384 + i) 20480 own, back) refl
coded_again (Field i n) own =
    let small = own.0 in
    let room = own.1 in
    let whole : (20480 + (8 * i + n) - 20480) / 8 ≡ i = omega arith in
    let rest : (20480 + (8 * i + n) - 20480) % 8 ≡ n = omega arith in
    rw (le-ltb (20480 + (8 * i + n)) 16384 (omega arith), le-ltb (20480 + (8 * i + n)) 20480 (omega arith), lt-ltb (20480 + (8 * i + n)) 32768 (omega arith), whole, rest) refl
coded_again (Constant k) own =
    let back : 32768 + k - 32768 ≡ k = omega arith in
    rw (le-ltb (32768 + k) 16384 (omega arith), le-ltb (32768 + k) 20480 (omega arith), le-ltb (32768 + k) 32768 (omega arith), lt-ltb (32768 + k) 65535 own, back) refl
coded_again Unused own = refl

-- an operand with that code, which is its own
pub record IsCoded (n : ℕ) (x : CodedOperand) : Type 0 where
  pub own : HasOwnCode x
  pub code : code_of x ≡ n

at_location : (n : ℕ) (o : Option Loc) (x : CodedOperand) → any_loc n ≡ o → option_map Location o ≡ Some x → IsCoded n x
at_location n None x at e = absurd cc
at_location n (Some loc) x at e =
    let there = loc_back n loc at in
    subst (IsCoded n) (same_operand (Location loc) x e) (record { own = there.cell; code = there.code })

pub coded_back : (n : ℕ) (x : CodedOperand) → with_code n ≡ Some x → IsCoded n x
coded_back n x e = by_tests (ltb n 16384) (ltb n 20480) (ltb n 32768) (ltb n 65535) (eqb n 65535) refl refl refl refl refl e
  where
    by_tests : (p q r s t : Bool) → ltb n 16384 ≡ p → ltb n 20480 ≡ q → ltb n 32768 ≡ r → ltb n 65535 ≡ s → eqb n 65535 ≡ t
        → cond p (option_map Location (any_loc n)) (cond q (Some (Variable (n - 16384))) (cond r (Some (Field ((n - 20480) / 8) ((n - 20480) % 8))) (cond s (Some (Constant (n - 32768))) (cond t (Some Unused) None)))) ≡ Some x → IsCoded n x
    by_tests true q r s t f g h i j d = at_location n (any_loc n) x refl d
    by_tests false true r s t f g h i j d =
        let above = ltb-false n 16384 f in
        let below = ltb-true n 20480 g in
        let code : 16384 + (n - 16384) ≡ n = omega arith in
        subst (IsCoded n) (same_operand (Variable (n - 16384)) x d) (record { own = omega arith; code = code })
    by_tests false false true s t f g h i j d =
        let above = ltb-false n 20480 g in
        let below = ltb-true n 32768 h in
        let code : 20480 + (8 * ((n - 20480) / 8) + (n - 20480) % 8) ≡ n = omega arith in
        let small : 20480 + 8 * ((n - 20480) / 8) < 32768 = omega arith in
        let room : (n - 20480) % 8 < 8 = omega arith in
        subst (IsCoded n) (same_operand (Field ((n - 20480) / 8) ((n - 20480) % 8)) x d) (record { own = (small, room); code = code })
    by_tests false false false true t f g h i j d =
        let above = ltb-false n 32768 h in
        let below = ltb-true n 65535 i in
        let code : 32768 + (n - 32768) ≡ n = omega arith in
        subst (IsCoded n) (same_operand (Constant (n - 32768)) x d) (record { own = omega arith; code = code })
    by_tests false false false false true f g h i j d = subst (IsCoded n) (same_operand Unused x d) (record { own = tt; code = sym (eqb-true n 65535 j) })
    by_tests false false false false false f g h i j d = absurd cc

-- an operand's own code is one of 16 bits
pub own_small : (x : CodedOperand) → HasOwnCode x → code_of x < 2 ^ 16
own_small (Location loc) own = omega (arith, loc_small loc own)
own_small (Variable i) own = omega (arith, own)
own_small (Field i n) own = let small = own.0 in let room = own.1 in omega arith
own_small (Constant k) own = omega (arith, own)
own_small Unused own = omega arith

-- a free location of the type reads back from its code
pub located_again : (seen : List declarations.Variable) (type : Ty) (loc : Loc) → IsCell loc → is_type type (loc_type loc) ≡ true → is_overlapped seen loc ≡ false → coded_location seen type (loc_code loc) ≡ Some (Some loc)
located_again seen type loc cell suits free = rw (coded_again (Location loc) cell, suits, free) refl
