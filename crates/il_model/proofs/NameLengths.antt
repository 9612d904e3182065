-- A name that an image of a version may have is no longer than such an image allows.
use Rattle.std.proofs.Common.{◌≡◌, ℕ, Bool, true, false, cond, ltb, leb, List, length, Some, None, refl, not, ◌&&◌, arith}
use Rattle.std.specs.List.{list_all}
use Rattle.std.proofs.lemmas.Bool.{leb-true, le-leb}
use Rattle.il_model.specs.declared.codes.Version.{Version}
use Rattle.il_model.specs.declared.codes.Version.TheVariants as versions
use Rattle.il_model.specs.Words.{begins_name, is_name_byte, is_well_spelled, is_reserved, has_dot, name_parts, is_part, is_lawful_name}
use Rattle.il_model.specs.Image.{may_have, may_call}
use Rattle.il_model.specs.Codes.{length_in}
use Rattle.il_model.proofs.RowTypes.{and_yes}

tested : (c : Bool) (n : ℕ) → cond c (Some n) None ≡ Some n → c ≡ true
tested true n e = refl
tested false n e = absurd cc

made : (a b : Bool) (n : ℕ) → a ≡ true → b ≡ true → cond (a && b) (Some n) None ≡ Some n
made true true n p q = refl
made true false n p q = absurd cc
made false b n p q = absurd cc

-- a lawful name without dots has at most 32 bytes
lawful_short : (name : List ℕ) (d : Bool) → d ≡ false → cond d (list_all is_part (name_parts name)) (is_part name && not (is_reserved name)) ≡ true → leb (length name) 32 ≡ true
lawful_short name true is lawful = absurd cc
lawful_short name false is lawful =
    let part = and_yes (is_part name) (not (is_reserved name)) lawful in
    (and_yes (begins_name name && list_all is_name_byte name && is_well_spelled name) (leb (length name) 32) part.0).1

short_length : (name : List ℕ) → length_in versions.Three (length name) ≡ Some (length name) → is_lawful_name name ≡ true → has_dot name ≡ false → cond (ltb 0 (length name) && leb (length name) 32) (Some (length name)) None ≡ Some (length name)
short_length name len lawful plain =
    let n = length name in
    made (ltb 0 n) (leb n 32) n (and_yes (ltb 0 n) (leb n 96) (tested (ltb 0 n && leb n 96) n len)).0 (lawful_short name (has_dot name) plain lawful)

one_plain : (d : Bool) → may_have versions.One (cond d versions.Three versions.One) ≡ true → d ≡ false
one_plain true e = absurd cc
one_plain false e = refl

two_plain : (d : Bool) → may_have versions.Two (cond d versions.Three versions.One) ≡ true → d ≡ false
two_plain true e = absurd cc
two_plain false e = refl

pub length_kept : (version : Version) (name : List ℕ) → length_in versions.Three (length name) ≡ Some (length name) → is_lawful_name name ≡ true → may_call version name ≡ true → length_in version (length name) ≡ Some (length name)
length_kept versions.One name len lawful may = short_length name len lawful (one_plain (has_dot name) may)
length_kept versions.Two name len lawful may = short_length name len lawful (two_plain (has_dot name) may)
length_kept versions.Three name len lawful may = len

widened : (a : Bool) (k n : ℕ) → cond (a && leb n k) (Some n) None ≡ Some n → leb n 96 ≡ true → cond (a && leb n 96) (Some n) None ≡ Some n
widened a k n e le = made a (leb n 96) n (and_yes a (leb n k) (tested (a && leb n k) n e)).0 le

le_wide : (n : ℕ) → leb n 32 ≡ true → leb n 96 ≡ true
le_wide n e = let le = leb-true n 32 e in le-leb n 96 (omega (arith, le))

-- the other way round: it has one in an image of the third version
pub length_wide : (version : Version) (n : ℕ) → length_in version n ≡ Some n → length_in versions.Three n ≡ Some n
length_wide versions.One n e = widened (ltb 0 n) 32 n e (le_wide n (and_yes (ltb 0 n) (leb n 32) (tested (ltb 0 n && leb n 32) n e)).1)
length_wide versions.Two n e = widened (ltb 0 n) 32 n e (le_wide n (and_yes (ltb 0 n) (leb n 32) (tested (ltb 0 n && leb n 32) n e)).1)
length_wide versions.Three n e = e
