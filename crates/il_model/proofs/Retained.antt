-- The code of a declaration reads back: that of its type or kind, and whether it is retained.
use Rattle.std.proofs.Common.{◌≡◌, ℕ, ◌+◌, ◌-◌, ◌<◌, ◌^◌, Bool, true, false, cond, leb, Some, refl, sym, ap, ◌∙◌, arith}
use Rattle.std.proofs.lemmas.Bool.{leb-true, le-leb}
use Rattle.il_model.specs.declared.codes.Version.{Version}
use Rattle.il_model.specs.Image.{may_retain, declared_code}
use Rattle.il_model.specs.Codes.{is_retained_code, retained_in, plain_code}
use Rattle.il_model.proofs.Versions.{passed}

below : (b : Bool) (n : ℕ) → leb 128 n ≡ b → n < 128 → b ≡ false
below true n e small = let le = leb-true 128 n e in absurd (omega (arith, le, small))
below false n e small = refl

above : (n : ℕ) → leb 128 (128 + n) ≡ true
above n = le-leb 128 (128 + n) (omega arith)

pub says_again : (r : Bool) (n : ℕ) → n < 128 → is_retained_code (declared_code r n) ≡ r
says_again true n small = above n
says_again false n small = below (leb 128 (0 + n)) (0 + n) refl (omega (arith, small))

pub plain_again : (r : Bool) (n : ℕ) → n < 128 → plain_code (declared_code r n) ≡ n
plain_again true n small = rw (above n) (omega arith)
plain_again false n small = rw (below (leb 128 (0 + n)) (0 + n) refl (omega (arith, small))) (omega arith)

pub declared_small : (r : Bool) (n : ℕ) → n < 128 → declared_code r n < 2 ^ 8
declared_small true n small = omega (arith, small)
declared_small false n small = omega (arith, small)

pub retained_again : (version : Version) (r : Bool) (n : ℕ) → n < 128 → may_retain version r ≡ true → retained_in version (declared_code r n) ≡ Some r
retained_again version r n small may = rw (says_again r n small, may) refl

code_by : (b : Bool) (n : ℕ) → leb 128 n ≡ b → declared_code b (cond b (n - 128) n) ≡ n
code_by true n e = let le = leb-true 128 n e in omega (arith, le)
code_by false n e = omega arith

-- what was read of a code
pub code_is : (version : Version) (n : ℕ) (r : Bool) → retained_in version n ≡ Some r → declared_code r (plain_code n) ≡ n
code_is version n r e =
    let is = passed (may_retain version) (Some (is_retained_code n)) r e in
    let same : is_retained_code n ≡ r = cc in
    ap (λ (b : Bool). declared_code b (plain_code n)) (sym same) ∙ code_by (leb 128 n) n refl
