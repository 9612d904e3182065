-- What is read is spelled so, and what is spelled so is read: fields and records.
use Rattle.std.proofs.Common.{◌≡◌, ℕ, zero, suc, ◌+◌, ◌^◌, ◌<◌, ◌≤◌, Bool, true, false, cond, ltb, List, [], ◌∷◌, ◌++◌, length, get_or, take, drop, Option, Some, None, Result, Ok, Err, refl, sym, ap, subst, ◌∙◌, append_assoc, arith, inl, inr, leb}
use Rattle.std.specs.Prelude.{ℤ, ◌&&◌, not}
use Rattle.std.specs.Option.{option_and_then}
use Rattle.std.specs.Int.{Width, w8, w16, w32, w64, byte_len, from_be_bytes, to_be_bytes, cast_signed, cast_unsigned}
use Rattle.std.proofs.lemmas.Bool.{cases_lt, ltb-false, le-ltb, leb-true}
use Rattle.std.proofs.lemmas.Int.{of_z-to_z}
use Rattle.std.proofs.lemmas.List.{take_at, drop_at, take-append-drop, length-append, length-take, get_or-drop, get_or-take, get_or_past}
use Rattle.std.proofs.lemmas.Nat.{be_bytes_2, be_bytes_4, be_bytes_8, from_be_bytes-to_be_bytes_2, from_be_bytes-to_be_bytes_4, from_be_bytes-to_be_bytes_8}
use Rattle.il_values.specs.declared.value.Ty.{Ty}
use Rattle.il_values.specs.declared.value.Ty.TheVariants as types
use Rattle.il_values.specs.declared.value.Value.{Value}
use Rattle.il_model.specs.declared.codes.Version.{Version}
use Rattle.il_model.specs.declared.codes.Version.TheVariants as versions
use Rattle.il_model.specs.declared.program.Variable.{Variable}
use Rattle.il_model.specs.declared.program.Loc.{Loc}
use Rattle.il_model.specs.declared.coded_operand.CodedOperand.{CodedOperand}
use Rattle.il_model.specs.declared.coded_operand.CodedOperand.TheVariants as coded
use Rattle.il_values.specs.Values.{typed_value, ty_of, number_of}
use Rattle.il_model.specs.CodedOperands.{code_of, with_code}
use Rattle.il_model.specs.Image.{type_code, location_code, number_width, number_bytes}
use Rattle.il_model.proofs.CodedOperands.{coded_back}
use Rattle.il_model.proofs.SettledPrograms.{made_number}
use Rattle.il_model.proofs.Versions.{number_limit, IsKept, initial_made, made_type}
use Rattle.il_records.specs.declared.fault.LoadFault.{LoadFault}
use Rattle.il_records.specs.declared.fault.LoadFault.TheVariants.{Truncated}
use Rattle.il_model.specs.Codes.{if_passes, longest_name, length_in, type_of, is_free, free_loc, coded_location, initial_of, is_known, constant_of}
use Rattle.il_records.specs.Fields.{◌>>=◌, number_at, signed_at, lawful, agrees}

abbrev pub IsBytes : List ℕ → Type 0
IsBytes bytes = (i : ℕ) → get_or bytes i 0 < 256

pub IsBytes-drop : (n : ℕ) (bytes : List ℕ) → IsBytes bytes → IsBytes (drop n bytes)
IsBytes-drop n bytes h i = rw get_or-drop (h (n + i))

pub IsBytes-take : (n : ℕ) (bytes : List ℕ) → IsBytes bytes → IsBytes (take n bytes)
IsBytes-take n bytes h i =
    elim (cases_lt i n) [
      | inl lt ↦ rw (get_or-take n bytes i 0 lt) (h i)
      | inr le ↦ rw (get_or_past (take n bytes) i 0 (omega (arith, length-take n bytes))) (omega arith)
    ]

pub bind_ok : {A B : Type 0} (r : Result A LoadFault) (f : A → Result B LoadFault) (y : B) → (r >>= f) ≡ Ok y → (x : A) × (r ≡ Ok x) × (f x ≡ Ok y)
bind_ok (Ok x) f y e = (x, refl, e)
bind_ok (Err d) f y e = absurd cc

pub guard_ok : {A : Type 0} (b : Bool) (d : LoadFault) (x y : A) → cond b (Err d) (Ok x) ≡ Ok y → (b ≡ false) × (x ≡ y)
guard_ok true d x y e = absurd cc
guard_ok false d x y e = (refl, cc)

pub guard_no : {A : Type 0} (b : Bool) (d : LoadFault) (r : Result A LoadFault) (y : A) → cond b (Err d) r ≡ Ok y → (b ≡ false) × (r ≡ Ok y)
guard_no true d r y e = absurd cc
guard_no false d r y e = (refl, e)

pub agrees_ok : (d : LoadFault) (b : Bool) (x : Unit {0}) → agrees d b ≡ Ok x → b ≡ true
agrees_ok d true x e = refl
agrees_ok d false x e = absurd cc

pub lawful_ok : {A : Type 0} (p : ℕ) (o : Option A) (x : A) → lawful p o ≡ Ok x → o ≡ Some x
lawful_ok p (Some y) x e = let is : y ≡ x = cc in ap (λ z. Some z) is
lawful_ok p None x e = absurd cc

pub some_yes : {A : Type 0} (b : Bool) (x y : A) → cond b (Some x) None ≡ Some y → (b ≡ true) × (x ≡ y)
some_yes true x y e = (refl, cc)
some_yes false x y e = absurd cc

pub ok_is : {A : Type 0} (x y : A) → let r : Result A LoadFault = Ok x in r ≡ Ok y → x ≡ y
ok_is x y e = cc

pub and_left : (a b : Bool) → (a && b) ≡ true → a ≡ true
and_left true b e = refl
and_left false b e = absurd cc

pub record Takes (bytes text rest : List ℕ) : Type 0 where
  pub parts : bytes ≡ text ++ rest
  pub rest_fits : IsBytes rest

pub Takes-then : (a x b y c : List ℕ) → Takes a x b → Takes b y c → Takes a (x ++ y) c
Takes-then a x b y c p q = record { parts = p.parts ∙ ap (λ (t : List ℕ). x ++ t) q.parts ∙ sym (append_assoc x y c); rest_fits = q.rest_fits }

-- ---- numbers

pub record IsWide (w : Width) (limit : ℕ) : Type 0 where
  pub len : (n : ℕ) → length (to_be_bytes w n) ≡ byte_len w
  pub back : (bytes : List ℕ) → length bytes ≡ byte_len w → IsBytes bytes → to_be_bytes w (from_be_bytes w bytes) ≡ bytes
  pub again : (n : ℕ) → n < limit → from_be_bytes w (to_be_bytes w n) ≡ n
  pub below : (bytes : List ℕ) → IsBytes bytes → from_be_bytes w bytes < limit

pub back_1 : (bytes : List ℕ) → length bytes ≡ 1 → IsBytes bytes → to_be_bytes w8 (from_be_bytes w8 bytes) ≡ bytes
back_1 [] len fits = absurd (omega arith)
back_1 (b ∷ []) len fits = ap (λ (x : ℕ). x ∷ []) (let lt : b < 256 = fits 0 in omega arith)
back_1 (b ∷ c ∷ bs) len fits = absurd (omega arith)

pub again_1 : (n : ℕ) → n < 2 ^ 8 → from_be_bytes w8 (to_be_bytes w8 n) ≡ n
again_1 n lt = omega arith

pub wide8 : IsWide w8 (2 ^ 8)
wide8 = record { len = λ n. refl; back = back_1; again = again_1; below = λ bytes fits. omega (arith, fits 0) }

pub wide16 : IsWide w16 (2 ^ 16)
wide16 = record { len = λ n. refl; back = λ bytes len fits. be_bytes_2 bytes _ len fits refl; again = λ n lt. from_be_bytes-to_be_bytes_2 n lt; below = λ bytes fits. omega (arith, fits 0, fits 1) }

pub wide32 : IsWide w32 (2 ^ 32)
wide32 = record { len = λ n. refl; back = λ bytes len fits. be_bytes_4 bytes _ len fits refl; again = λ n lt. from_be_bytes-to_be_bytes_4 n lt; below = λ bytes fits. omega (arith, fits 0, fits 1, fits 2, fits 3) }

pub wide64 : IsWide w64 (2 ^ 64)
wide64 = record { len = λ n. refl; back = λ bytes len fits. be_bytes_8 bytes _ len fits refl; again = λ n lt. from_be_bytes-to_be_bytes_8 n lt; below = λ bytes fits. omega (arith, fits 0, fits 1, fits 2, fits 3, fits 4, fits 5, fits 6, fits 7) }

wide : (version : Version) → IsWide (number_width version) (number_limit version)
wide versions.One = wide32
wide versions.Two = wide64
wide versions.Three = wide64

pub number_takes : (w : Width) (limit : ℕ) (wide : IsWide w limit) (bytes : List ℕ) (n : ℕ) (rest : List ℕ) → IsBytes bytes → number_at w bytes ≡ Ok (n, rest) → Takes bytes (to_be_bytes w n) rest × (n < limit)
number_takes w limit wide bytes n rest fits e =
    let g = guard_ok (ltb (length bytes) (byte_len w)) Truncated (from_be_bytes w (take (byte_len w) bytes), drop (byte_len w) bytes) (n, rest) e in
    let long : byte_len w ≤ length bytes = ltb-false _ _ g.0 in
    let n-is : from_be_bytes w (take (byte_len w) bytes) ≡ n = ap (λ (p : ℕ × List ℕ). p.0) g.1 in
    let rest-is : drop (byte_len w) bytes ≡ rest = ap (λ (p : ℕ × List ℕ). p.1) g.1 in
    let front : to_be_bytes w n ≡ take (byte_len w) bytes = rw (← n-is) (wide.back (take (byte_len w) bytes) (omega (arith, length-take (byte_len w) bytes)) (IsBytes-take (byte_len w) bytes fits)) in
    (record { parts = rw (front, ← rest-is) (sym (take-append-drop (byte_len w) bytes)); rest_fits = rw (← rest-is) (IsBytes-drop (byte_len w) bytes fits) }, rw (← n-is) (wide.below (take (byte_len w) bytes) (IsBytes-take (byte_len w) bytes fits)))

pub number_again : (w : Width) (limit : ℕ) (wide : IsWide w limit) (n : ℕ) (rest : List ℕ) → n < limit → number_at w (to_be_bytes w n ++ rest) ≡ Ok (n, rest)
number_again w limit wide n rest lt =
    let len = wide.len n in
    let long : ltb (length (to_be_bytes w n ++ rest)) (byte_len w) ≡ false = le-ltb _ _ (omega (arith, length-append (to_be_bytes w n) rest)) in
    rw (long, take_at (to_be_bytes w n) rest (byte_len w) len, drop_at (to_be_bytes w n) rest (byte_len w) len, wide.again n lt) refl

-- ---- numbers with a sign, as an image of a version has them

unsigned_again : (version : Version) (n : ℕ) → n < number_limit version → cast_unsigned (number_width version) (cast_signed (number_width version) n) ≡ n
unsigned_again versions.One n lt = of_z-to_z w32 n lt
unsigned_again versions.Two n lt = of_z-to_z w64 n lt
unsigned_again versions.Three n lt = of_z-to_z w64 n lt

pub signed_takes : (version : Version) (bytes : List ℕ) (z : ℤ) (rest : List ℕ) → IsBytes bytes → signed_at version bytes ≡ Ok (z, rest) → Takes bytes (number_bytes version z) rest
signed_takes version bytes z rest fits e =
    let w = number_width version in
    let b = bind_ok (number_at w bytes) (λ n. Ok (cast_signed w n.0, n.1)) (z, rest) e in
    let t = number_takes w (number_limit version) (wide version) bytes b.0.0 b.0.1 fits b.1 in
    let same = ok_is (cast_signed w b.0.0, b.0.1) (z, rest) b.2 in
    subst (λ (y : ℤ × List ℕ). Takes bytes (number_bytes version y.0) y.1) same (subst (λ (n : ℕ). Takes bytes (to_be_bytes w n) b.0.1) (sym (unsigned_again version b.0.0 t.1)) t.0)

pub signed_again : (version : Version) (z : ℤ) (rest : List ℕ) → IsKept version z → signed_at version (number_bytes version z ++ rest) ≡ Ok (z, rest)
signed_again version z rest kept = let w = number_width version in rw (number_again w (number_limit version) (wide version) (cast_unsigned w z) rest kept.small, kept.back) refl

-- ---- names

pub length_is : (version : Version) (n m : ℕ) → length_in version n ≡ Some m → n ≡ m
length_is version n m e = (some_yes (ltb 0 n && leb n (longest_name version)) n m e).1

le_of : (a b : Bool) (n most : ℕ) → leb n most ≡ b → (a && b) ≡ true → n ≤ most
le_of true true n most e h = leb-true n most e
le_of true false n most e h = absurd cc
le_of false b n most e h = absurd cc

-- the greatest length there is
pub length_below : (n m : ℕ) → length_in versions.Three n ≡ Some m → n < 97
length_below n m e = let le = le_of (ltb 0 n) (leb n 96) n 96 refl (some_yes (ltb 0 n && leb n 96) n m e).0 in omega (arith, le)

-- ---- tables

pub type_is : (n : ℕ) (t : Ty) → type_of n ≡ Some t → type_code t ≡ n
type_is zero t e = let is : types.Bool ≡ t = cc in sym (ap type_code is)
type_is (suc zero) t e = let is : types.Int ≡ t = cc in sym (ap type_code is)
type_is (suc (suc zero)) t e = let is : types.Dint ≡ t = cc in sym (ap type_code is)
type_is (suc (suc (suc zero))) t e = let is : types.Time ≡ t = cc in sym (ap type_code is)
type_is (suc (suc (suc (suc zero)))) t e = let is : types.Lint ≡ t = cc in sym (ap type_code is)
type_is (suc (suc (suc (suc (suc zero))))) t e = let is : types.Real ≡ t = cc in sym (ap type_code is)
type_is (suc (suc (suc (suc (suc (suc zero)))))) t e = let is : types.Word ≡ t = cc in sym (ap type_code is)
type_is (suc (suc (suc (suc (suc (suc (suc zero))))))) t e = let is : types.Dword ≡ t = cc in sym (ap type_code is)
type_is (suc (suc (suc (suc (suc (suc (suc (suc n)))))))) t e = absurd cc

pub type_small : (t : Ty) → type_code t < 2 ^ 8
type_small types.Bool = omega arith
type_small types.Int = omega arith
type_small types.Dint = omega arith
type_small types.Time = omega arith
type_small types.Lint = omega arith
type_small types.Real = omega arith
type_small types.Word = omega arith
type_small types.Dword = omega arith

free_is : (seen : List Variable) (t : Ty) (x : CodedOperand) (loc : Option Loc) → free_loc seen t x ≡ Some loc → location_code loc ≡ code_of x
free_is seen t (coded.Location l) loc e = let y = some_yes (is_free seen t l) (Some l) loc e in sym (ap location_code y.1)
free_is seen t (coded.Variable i) loc e = absurd cc
free_is seen t (coded.Field i n) loc e = absurd cc
free_is seen t (coded.Constant k) loc e = absurd cc
free_is seen t coded.Unused loc e = let is : None ≡ loc = cc in sym (ap location_code is)

located_by : (seen : List Variable) (t : Ty) (n : ℕ) (o : Option CodedOperand) (loc : Option Loc) → with_code n ≡ o → option_and_then (free_loc seen t) o ≡ Some loc → location_code loc ≡ n
located_by seen t n None loc is e = absurd cc
located_by seen t n (Some x) loc is e = free_is seen t x loc e ∙ (coded_back n x is).code

pub location_is : (seen : List Variable) (t : Ty) (n : ℕ) (loc : Option Loc) → coded_location seen t n ≡ Some loc → location_code loc ≡ n
location_is seen t n loc e = located_by seen t n (with_code n) loc refl e

-- the number of a first value that was read is the one that stood there
pub initial_is : (t : Ty) (loc : Option Loc) (z : ℤ) (v : Value) → initial_of t loc z ≡ Some v → number_of v ≡ z
initial_is t loc z v e = made_number t z v (initial_made t loc z v e)

pub tested_some : {A : Type 0} (test : A → Bool) (o : Option A) (y : A) → option_and_then (if_passes test) o ≡ Some y → (o ≡ Some y) × (test y ≡ true)
tested_some test None y e = absurd cc
tested_some test (Some x) y e = let r = some_yes (test x) x y e in (ap (λ (z : _). Some z) r.1, ap test (sym r.1) ∙ r.0)

-- what a constant that was read is
pub constant_is : (seen : List Value) (t : Ty) (z : ℤ) (v : Value) → constant_of seen t z ≡ Some v → (ty_of v ≡ t) × (number_of v ≡ z)
constant_is seen t z v e =
    let m = (tested_some (λ v. not (is_known seen v)) (typed_value t z) v e).0 in
    (made_type t z v m, made_number t z v m)
