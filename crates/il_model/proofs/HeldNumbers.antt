-- What is told of numbers from 2^64 - 1 on makes no difference to a literal.
use Rattle.std.proofs.Common.{◌≡◌, ℕ, zero, suc, ◌+◌, ◌*◌, ◌<◌, ◌≤◌, ◌^◌, ◌⊎◌, inl, inr, min, Bool, true, false, cond, ltb, eqb, List, [], ◌∷◌, length, take, drop, Option, Some, None, refl, sym, ap, subst, arith, codes}
use Rattle.std.specs.Prelude.{ℤ, pos, negsuc, option_map}
use Rattle.std.specs.Option.{option_and_then}
use Rattle.std.proofs.Math.Nat.{mul-le-mul_left}
use Rattle.std.proofs.lemmas.Bool.{cases_lt, le-ltb, ltb-false}
use Rattle.il_values.specs.declared.value.Ty.TheVariants as types
use Rattle.il_model.specs.declared.duration.TimeUnit.{TimeUnit}
use Rattle.il_values.specs.declared.value.Value.{Value}
use Rattle.il_values.specs.declared.value.Value.TheVariants as values
use Rattle.il_values.specs.Values.{is_within, bits_made}
use Rattle.il_values.specs.Spelled.{spells}
use Rattle.il_model.specs.Literals.{integer_of, held_integer, PartText, unit_of, unit_len, digits_len, fraction_of}
use Rattle.il_model.specs.Literals.{plain_part, broken_part, at_unit, at_decimals, begins_dot, behind_number, part_by}
use Rattle.il_model.specs.Literals.{past_join, sum_of_parts, parts_by, duration_by, positive, minus, signed_by, hash_at}
use Rattle.il_model.specs.Literals.{based_by, whole_by, time_by, typed_literal, bare_literal, prefixed_literal}
use Rattle.il_model.specs.Literals.{literal_by, literal_of}

abbrev top : ℕ
top = 18446744073709551615

record Far (a b : Option ℕ) : Type 0 where
  one : ℕ
  other : ℕ
  is_one : a ≡ Some one
  is_other : b ≡ Some other
  one_far : 18446744073709551615 ≤ one
  other_far : 18446744073709551615 ≤ other

record Near (a b : Option ℕ) : Type 0 where
  near : (a ≡ b) ⊎ Far a b

same_near : (a b : Option ℕ) → a ≡ b → Near a b
same_near a b e = record { near = inl e }

far_near : (x y : ℕ) → 18446744073709551615 ≤ x → 18446744073709551615 ≤ y → Near (Some x) (Some y)
far_near x y a b = record { near = inr (record { one = x; other = y; is_one = refl; is_other = refl; one_far = a; other_far = b }) }

held_near : (o : Option ℕ) → Near (option_map (λ n. min n 18446744073709551615) o) o
held_near None = same_near None None refl
held_near (Some n) = elim (cases_lt n 18446744073709551615) [
  | inl small ↦ let e : min n 18446744073709551615 ≡ n = omega arith in same_near _ _ (ap (λ (x : ℕ). Some x) e)
  | inr large ↦ far_near (min n 18446744073709551615) n (omega arith) large
]

integer_near : (base : ℕ) (bs : List ℕ) → Near (held_integer base bs) (integer_of base bs)
integer_near base bs = held_near (integer_of base bs)

-- ---- numbers with a sign

abbrev IsOut : ℤ → Type 0
IsOut z = is_within (2 ^ 63) z ≡ false

record FarSigned (a b : Option ℤ) : Type 0 where
  one : ℤ
  other : ℤ
  is_one : a ≡ Some one
  is_other : b ≡ Some other
  one_out : IsOut one
  other_out : IsOut other

record NearSigned (a b : Option ℤ) : Type 0 where
  near : (a ≡ b) ⊎ FarSigned a b

positive_out : (n : ℕ) → 18446744073709551615 ≤ n → IsOut (positive n)
positive_out n le = le-ltb n (2 ^ 63) (omega (arith, le))

minus_out : (n : ℕ) → 18446744073709551615 ≤ n → IsOut (minus n)
minus_out zero le = absurd (omega (arith, le))
minus_out (suc n) le = le-ltb n (2 ^ 63) (omega (arith, le))

signed_near : (f : ℕ → ℤ) → ((n : ℕ) → 18446744073709551615 ≤ n → IsOut (f n)) → (a b : Option ℕ) → Near a b → NearSigned (option_map f a) (option_map f b)
signed_near f out a b n = elim n.near [
  | inl e ↦ record { near = inl (ap (option_map f) e) }
  | inr d ↦ record { near = inr (record { one = f d.one; other = f d.other; is_one = rw d.is_one refl; is_other = rw d.is_other refl; one_out = out d.one d.one_far; other_out = out d.other d.other_far }) }
]

positive_near : (a b : Option ℕ) → Near a b → NearSigned (option_map positive a) (option_map positive b)
positive_near a b n = signed_near positive positive_out a b n

minus_near : (a b : Option ℕ) → Near a b → NearSigned (option_map minus a) (option_map minus b)
minus_near a b n = signed_near minus minus_out a b n

either : (c : Bool) (a b x y : Option ℤ) → NearSigned a b → NearSigned x y → NearSigned (cond c a x) (cond c b y)
either true a b x y n m = n
either false a b x y n m = m

none_near : NearSigned None None
none_near = record { near = inl refl }

digits_near : (base : ℕ) (bs : List ℕ) → NearSigned (option_map positive (held_integer base bs)) (option_map positive (integer_of base bs))
digits_near base bs = positive_near _ _ (integer_near base bs)

signed_is : (bytes : List ℕ) → NearSigned (signed_by held_integer bytes) (signed_by integer_of bytes)
signed_is [] = none_near
signed_is (b ∷ bs) =
    either (eqb b 45) (option_map minus (held_integer 10 bs)) (option_map minus (integer_of 10 bs)) _ _ (minus_near _ _ (integer_near 10 bs))
    (either (eqb b 43) (option_map positive (held_integer 10 bs)) (option_map positive (integer_of 10 bs)) (option_map positive (held_integer 10 (b ∷ bs))) (option_map positive (integer_of 10 (b ∷ bs))) (digits_near 10 bs) (digits_near 10 (b ∷ bs)))

based_is : (base bytes : List ℕ) → NearSigned (based_by held_integer base bytes) (based_by integer_of base bytes)
based_is base bytes =
    either (spells (codes "2") base) (option_map positive (held_integer 2 bytes)) (option_map positive (integer_of 2 bytes)) _ _ (digits_near 2 bytes)
    (either (spells (codes "8") base) (option_map positive (held_integer 8 bytes)) (option_map positive (integer_of 8 bytes)) _ _ (digits_near 8 bytes)
    (either (spells (codes "16") base) (option_map positive (held_integer 16 bytes)) (option_map positive (integer_of 16 bytes)) None None (digits_near 16 bytes) none_near))

whole_is : (bytes : List ℕ) → NearSigned (whole_by held_integer bytes) (whole_by integer_of bytes)
whole_is bytes =
    let n = hash_at bytes in
    either (ltb n (length bytes)) (based_by held_integer (take n bytes) (drop (n + 1) bytes)) (based_by integer_of (take n bytes) (drop (n + 1) bytes)) (signed_by held_integer bytes) (signed_by integer_of bytes) (based_is (take n bytes) (drop (n + 1) bytes)) (signed_is bytes)

-- ---- durations

record FarParts (a b : Option PartText) : Type 0 where
  one : PartText
  other : PartText
  is_one : a ≡ Some one
  is_other : b ≡ Some other
  rank : one.rank ≡ other.rank
  broken : one.broken ≡ other.broken
  rest : one.rest ≡ other.rest
  one_far : 18446744073709551615 ≤ one.milliseconds
  other_far : 18446744073709551615 ≤ other.milliseconds

record NearParts (a b : Option PartText) : Type 0 where
  near : (a ≡ b) ⊎ FarParts a b

abbrev IsSome : Option TimeUnit → Type 0
IsSome None = Unit {0}
IsSome (Some u) = 0 < u.milliseconds

record HasLength (o : Option TimeUnit) : Type 0 where
  has : IsSome o

unit_either : (c : Bool) (a b : Option TimeUnit) → HasLength a → HasLength b → HasLength (cond c a b)
unit_either true a b x y = x
unit_either false a b x y = y

abbrev unit : ℕ → ℕ → Option TimeUnit
unit r n = Some (record { rank = r; milliseconds = n })

unit_length : (w : List ℕ) → HasLength (unit_of w)
unit_length w =
    unit_either (spells (codes "D") w) (unit 4 86400000) _ (record { has = omega arith })
    (unit_either (spells (codes "H") w) (unit 3 3600000) _ (record { has = omega arith })
    (unit_either (spells (codes "M") w) (unit 2 60000) _ (record { has = omega arith })
    (unit_either (spells (codes "S") w) (unit 1 1000) _ (record { has = omega arith })
    (unit_either (spells (codes "MS") w) (unit 0 1) None (record { has = omega arith }) (record { has = tt })))))

times_far : (n u : ℕ) → 18446744073709551615 ≤ n → 0 < u → 18446744073709551615 ≤ n * u
times_far n u le some =
    let one : 1 ≤ u = omega (arith, some) in
    let h : n * 1 ≤ n * u = mul-le-mul_left n one in
    omega (arith, h, le)

abbrev some_part : PartText → Option PartText
some_part p = Some p

plain_far : (x y : ℕ) (rest : List ℕ) (o : Option TimeUnit) → 18446744073709551615 ≤ x → 18446744073709551615 ≤ y → HasLength o → NearParts (option_map (plain_part x rest) o) (option_map (plain_part y rest) o)
plain_far x y rest None a b u = record { near = inl refl }
plain_far x y rest (Some u) a b l =
    record { near = inr (record { one = plain_part x rest u; other = plain_part y rest u; is_one = refl; is_other = refl; rank = refl; broken = refl; rest = refl; one_far = times_far x u.milliseconds a l.has; other_far = times_far y u.milliseconds b l.has }) }

broken_far : (x y : ℕ) (rest : List ℕ) (u : TimeUnit) (f : Option ℕ) → 18446744073709551615 ≤ x → 18446744073709551615 ≤ y → 0 < u.milliseconds
    → NearParts (option_map (λ (n : ℕ). record { rank = u.rank; broken = true; milliseconds = x * u.milliseconds + n; rest = rest }) f) (option_map (λ (n : ℕ). record { rank = u.rank; broken = true; milliseconds = y * u.milliseconds + n; rest = rest }) f)
broken_far x y rest u None a b l = record { near = inl refl }
broken_far x y rest u (Some f) a b l =
    let p = times_far x u.milliseconds a l in
    let q = times_far y u.milliseconds b l in
    record { near = inr (record { one = record { rank = u.rank; broken = true; milliseconds = x * u.milliseconds + f; rest = rest }; other = record { rank = u.rank; broken = true; milliseconds = y * u.milliseconds + f; rest = rest }; is_one = refl; is_other = refl; rank = refl; broken = refl; rest = refl; one_far = omega (arith, p); other_far = omega (arith, q) }) }

decimals_far : (x y : ℕ) (fraction rest : List ℕ) (o : Option TimeUnit) → 18446744073709551615 ≤ x → 18446744073709551615 ≤ y → HasLength o → NearParts (option_and_then (broken_part x fraction rest) o) (option_and_then (broken_part y fraction rest) o)
decimals_far x y fraction rest None a b u = record { near = inl refl }
decimals_far x y fraction rest (Some u) a b l = broken_far x y rest u (fraction_of u.milliseconds fraction) a b l.has

number_far : (bytes : List ℕ) (x y : ℕ) → 18446744073709551615 ≤ x → 18446744073709551615 ≤ y → NearParts (behind_number bytes x) (behind_number bytes y)
number_far bytes x y a b = chosen (begins_dot bytes)
  where
    unit_text : List ℕ
    unit_text = drop (digits_len (drop 1 bytes)) (drop 1 bytes)

    chosen : (c : Bool) → NearParts (cond c (at_decimals x (drop 1 bytes)) (at_unit x bytes)) (cond c (at_decimals y (drop 1 bytes)) (at_unit y bytes))
    chosen true = decimals_far x y (take (digits_len (drop 1 bytes)) (drop 1 bytes)) (drop (unit_len unit_text) unit_text) (unit_of (take (unit_len unit_text) unit_text)) a b (unit_length _)
    chosen false = plain_far x y (drop (unit_len bytes) bytes) (unit_of (take (unit_len bytes) bytes)) a b (unit_length _)

part_near : (bytes : List ℕ) → NearParts (part_by held_integer bytes) (part_by integer_of bytes)
unfolding part_by
part_near bytes =
    let rest = drop (digits_len bytes) bytes in
    let number = take (digits_len bytes) bytes in
    elim (integer_near 10 number).near [
      | inl e ↦ record { near = inl (ap (option_and_then (behind_number rest)) e) }
      | inr d ↦
          let P : Option ℕ → Option ℕ → Type 0 = λ o p. NearParts (option_and_then (behind_number rest) o) (option_and_then (behind_number rest) p) in
          let q : P (Some d.one) (Some d.other) = number_far rest d.one d.other d.one_far d.other_far in
          subst (λ (o : Option ℕ). P o (integer_of 10 number)) (sym d.is_one) (subst (P (Some d.one)) (sym d.is_other) q)
    ]

more_near : (n : ℕ) (a b : Option ℕ) → Near a b → Near (option_map (λ (k : ℕ). n + k) a) (option_map (λ (k : ℕ). n + k) b)
more_near n a b h = elim h.near [
  | inl e ↦ record { near = inl (ap (option_map (λ (k : ℕ). n + k)) e) }
  | inr d ↦ let l = d.one_far in let r = d.other_far in rw (d.is_one, d.is_other) (far_near (n + d.one) (n + d.other) (omega (arith, l)) (omega (arith, r)))
]

-- two numbers from 2^64 - 1 on, with what follows
far_more : (n m : ℕ) (a b : Option ℕ) → 18446744073709551615 ≤ n → 18446744073709551615 ≤ m → Near a b → Near (option_map (λ (k : ℕ). n + k) a) (option_map (λ (k : ℕ). m + k) b)
far_more n m a b x y h = elim h.near [
  | inl e ↦ subst (λ (o : Option ℕ). Near (option_map (λ (k : ℕ). n + k) a) (option_map (λ (k : ℕ). m + k) o)) e (same a)
  | inr d ↦ rw (d.is_one, d.is_other) (far_near (n + d.one) (m + d.other) (omega (arith, x)) (omega (arith, y)))
]
  where
    same : (o : Option ℕ) → Near (option_map (λ (k : ℕ). n + k) o) (option_map (λ (k : ℕ). m + k) o)
    same None = same_near None None refl
    same (Some z) = far_near (n + z) (m + z) (omega (arith, x)) (omega (arith, y))

choose_near : (c : Bool) (a b x y : Option ℕ) → Near a b → Near x y → Near (cond c a x) (cond c b y)
choose_near true a b x y n m = n
choose_near false a b x y n m = m

nothing_near : Near None None
nothing_near = same_near None None refl

added_near : (f g : ℕ → List ℕ → Option ℕ) → ((limit : ℕ) (bytes : List ℕ) → Near (f limit bytes) (g limit bytes)) → (limit : ℕ) (p : PartText) → Near (sum_of_parts f limit p) (sum_of_parts g limit p)
added_near f g near limit p =
    choose_near (ltb p.rank limit) _ _ None None
    (choose_near (eqb (length p.rest) 0) (Some p.milliseconds) (Some p.milliseconds) _ _ (same_near _ _ refl)
    (choose_near p.broken None None (option_map (λ (n : ℕ). p.milliseconds + n) (f p.rank (past_join p.rest))) (option_map (λ (n : ℕ). p.milliseconds + n) (g p.rank (past_join p.rest))) nothing_near (more_near p.milliseconds _ _ (near p.rank (past_join p.rest)))))
    nothing_near

-- a part with its fields by themselves
abbrev part : ℕ → Bool → ℕ → List ℕ → PartText
part r b n rest = record { rank = r; broken = b; milliseconds = n; rest = rest }

added_far : (f g : ℕ → List ℕ → Option ℕ) → ((limit : ℕ) (bytes : List ℕ) → Near (f limit bytes) (g limit bytes)) → (limit r x y : ℕ) (b : Bool) (rest : List ℕ) → 18446744073709551615 ≤ x → 18446744073709551615 ≤ y
    → Near (sum_of_parts f limit (part r b x rest)) (sum_of_parts g limit (part r b y rest))
added_far f g near limit r x y b rest i j =
    choose_near (ltb r limit) _ _ None None
    (choose_near (eqb (length rest) 0) (Some x) (Some y) _ _ (far_near x y i j)
    (choose_near b None None (option_map (λ (n : ℕ). x + n) (f r (past_join rest))) (option_map (λ (n : ℕ). y + n) (g r (past_join rest))) nothing_near (far_more x y _ _ i j (near r (past_join rest)))))
    nothing_near

parts_near : (k limit : ℕ) (bytes : List ℕ) → Near (parts_by held_integer k limit bytes) (parts_by integer_of k limit bytes)
unfolding parts_by
parts_near zero limit bytes = nothing_near
parts_near (suc k) limit bytes = by_part (part_near bytes) (parts_near k)
  where
    by_part : NearParts (part_by held_integer bytes) (part_by integer_of bytes) → ((limit : ℕ) (bytes : List ℕ) → Near (parts_by held_integer k limit bytes) (parts_by integer_of k limit bytes))
        → Near (option_and_then (sum_of_parts (parts_by held_integer k) limit) (part_by held_integer bytes)) (option_and_then (sum_of_parts (parts_by integer_of k) limit) (part_by integer_of bytes))
    by_part n again = elim n.near [
      | inl e ↦ subst (λ (o : Option PartText). Near (option_and_then (sum_of_parts (parts_by held_integer k) limit) (part_by held_integer bytes)) (option_and_then (sum_of_parts (parts_by integer_of k) limit) o)) e (same (part_by held_integer bytes))
      | inr d ↦
          let F : Option PartText → Option ℕ = option_and_then (sum_of_parts (parts_by held_integer k) limit) in
          let G : Option PartText → Option ℕ = option_and_then (sum_of_parts (parts_by integer_of k) limit) in
          let one = d.one in
          let other = d.other in
          let q : Near (F (Some one)) (G (Some (part one.rank one.broken other.milliseconds one.rest))) = added_far (parts_by held_integer k) (parts_by integer_of k) again limit one.rank one.milliseconds other.milliseconds one.broken one.rest d.one_far d.other_far in
          let same_rest : part one.rank one.broken other.milliseconds one.rest ≡ other = fields one other d.rank d.broken d.rest in
          let q2 : Near (F (Some one)) (G (Some other)) = subst (λ (p : PartText). Near (F (Some one)) (G (Some p))) same_rest q in
          subst (λ (o : Option PartText). Near (F o) (G (part_by integer_of bytes))) (sym d.is_one) (subst (λ (o : Option PartText). Near (F (Some one)) (G o)) (sym d.is_other) q2)
    ]
      where
        same : (o : Option PartText) → Near (option_and_then (sum_of_parts (parts_by held_integer k) limit) o) (option_and_then (sum_of_parts (parts_by integer_of k) limit) o)
        same None = nothing_near
        same (Some p) = added_near (parts_by held_integer k) (parts_by integer_of k) again limit p

        fields : (p q : PartText) → p.rank ≡ q.rank → p.broken ≡ q.broken → p.rest ≡ q.rest → part p.rank p.broken q.milliseconds p.rest ≡ q
        fields p q a b c = rw (a, b, c) refl

time_is : (bytes : List ℕ) → NearSigned (time_by held_integer bytes) (time_by integer_of bytes)
time_is [] = none_near
time_is (b ∷ bs) =
    either (eqb b 45) (option_map minus (duration_by held_integer bs)) (option_map minus (duration_by integer_of bs)) (option_map positive (duration_by held_integer (b ∷ bs))) (option_map positive (duration_by integer_of (b ∷ bs)))
    (minus_near _ _ (parts_near 5 5 bs)) (positive_near _ _ (parts_near 5 5 (b ∷ bs)))

-- ---- literals

narrow_out : (limit : ℕ) (z : ℤ) → limit ≤ 2 ^ 63 → IsOut z → is_within limit z ≡ false
narrow_out limit (pos n) low e = le-ltb n limit (let h = ltb-false n (2 ^ 63) e in omega (arith, h, low))
narrow_out limit (negsuc n) low e = le-ltb n limit (let h = ltb-false n (2 ^ 63) e in omega (arith, h, low))

outside : (limit : ℕ) → limit ≤ 2 ^ 63 → {a b : Option ℤ} (d : FarSigned a b) → (is_within limit d.one ≡ false) × (is_within limit d.other ≡ false)
outside limit low d = (narrow_out limit d.one low d.one_out, narrow_out limit d.other low d.other_out)

int_same : (a b : Option ℤ) → NearSigned a b → typed_literal types.Int a ≡ typed_literal types.Int b
int_same a b n = elim n.near [
  | inl e ↦ ap (typed_literal types.Int) e
  | inr d ↦ let o = outside (2 ^ 15) (omega arith) d in rw (d.is_one, d.is_other, o.0, o.1) refl
]

dint_same : (a b : Option ℤ) → NearSigned a b → typed_literal types.Dint a ≡ typed_literal types.Dint b
dint_same a b n = elim n.near [
  | inl e ↦ ap (typed_literal types.Dint) e
  | inr d ↦ let o = outside (2 ^ 31) (omega arith) d in rw (d.is_one, d.is_other, o.0, o.1) refl
]

lint_same : (a b : Option ℤ) → NearSigned a b → typed_literal types.Lint a ≡ typed_literal types.Lint b
lint_same a b n = elim n.near [
  | inl e ↦ ap (typed_literal types.Lint) e
  | inr d ↦ rw (d.is_one, d.is_other, d.one_out, d.other_out) refl
]

time_same : (a b : Option ℤ) → NearSigned a b → typed_literal types.Time a ≡ typed_literal types.Time b
time_same a b n = elim n.near [
  | inl e ↦ ap (typed_literal types.Time) e
  | inr d ↦ let o = outside (2 ^ 31) (omega arith) d in rw (d.is_one, d.is_other, o.0, o.1) refl
]

-- a number past 64 bits is no pattern
bits_out : (limit : ℕ) (bits : ℕ → Value) (z : ℤ) → limit ≤ 2 ^ 63 → IsOut z → bits_made limit bits z ≡ None
bits_out limit bits (pos n) low e = rw (le-ltb n limit (let h = ltb-false n (2 ^ 63) e in omega (arith, h, low))) refl
bits_out limit bits (negsuc n) low e = refl

word_same : (a b : Option ℤ) → NearSigned a b → typed_literal types.Word a ≡ typed_literal types.Word b
word_same a b n = elim n.near [
  | inl e ↦ ap (typed_literal types.Word) e
  | inr d ↦ rw (d.is_one, d.is_other, bits_out (2 ^ 16) values.Word d.one (omega arith) d.one_out, bits_out (2 ^ 16) values.Word d.other (omega arith) d.other_out) refl
]

double_word_same : (a b : Option ℤ) → NearSigned a b → typed_literal types.Dword a ≡ typed_literal types.Dword b
double_word_same a b n = elim n.near [
  | inl e ↦ ap (typed_literal types.Dword) e
  | inr d ↦ rw (d.is_one, d.is_other, bits_out (2 ^ 32) values.Dword d.one (omega arith) d.one_out, bits_out (2 ^ 32) values.Dword d.other (omega arith) d.other_out) refl
]

pub word_whole : (bytes : List ℕ) → typed_literal types.Word (whole_by held_integer bytes) ≡ typed_literal types.Word (whole_by integer_of bytes)
word_whole bytes = word_same _ _ (whole_is bytes)

pub double_word_whole : (bytes : List ℕ) → typed_literal types.Dword (whole_by held_integer bytes) ≡ typed_literal types.Dword (whole_by integer_of bytes)
double_word_whole bytes = double_word_same _ _ (whole_is bytes)

bare_same : (a b : Option ℤ) → NearSigned a b → option_and_then bare_literal a ≡ option_and_then bare_literal b
bare_same a b n = elim n.near [
  | inl e ↦ ap (option_and_then bare_literal) e
  | inr d ↦ let o = outside (2 ^ 31) (omega arith) d in rw (d.is_one, d.is_other, o.0, o.1) refl
]

prefixed_same : (word bytes : List ℕ) → prefixed_literal held_integer word bytes ≡ prefixed_literal integer_of word bytes
prefixed_same word bytes = rw (int_same _ _ (whole_is bytes), dint_same _ _ (whole_is bytes), lint_same _ _ (whole_is bytes), time_same _ _ (time_is bytes), bare_same _ _ (based_is word bytes)) refl

pub literal_same : (bytes : List ℕ) → literal_by held_integer bytes ≡ literal_of bytes
unfolding literal_of
literal_same bytes = rw (prefixed_same (take (hash_at bytes) bytes) (drop (hash_at bytes + 1) bytes), bare_same _ _ (signed_is bytes)) refl
