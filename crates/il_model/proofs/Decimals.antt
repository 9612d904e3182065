-- Laws of decimals.
use Rattle.std.proofs.Common.{◌≡◌, ℕ, suc, ◌+◌, ◌-◌, ◌*◌, ◌/◌, ◌%◌, ◌^◌, ◌<◌, ◌≤◌, ◌≢◌, Bool, true, false, cond, eqb, ltb, get_or, take, List, [], ◌∷◌, ◌++◌, length, Option, Some, None, refl, sym, ap, ◌∙◌, arith, add-one}
use Rattle.std.proofs.Math.Nat.{mul-le-mul_left, pow-succ', one-le-pow}
use Rattle.std.proofs.lemmas.Nat.{mul-le, div-mul-add, mod-mul-add, div-add-mod'}
use Rattle.std.proofs.lemmas.Bool.{eqb-true, eq-eqb, ne_eqb, lt-ltb, le-ltb}
use Rattle.std.proofs.lemmas.List.{take_more, length-append}
use Rattle.il_model.specs.Literals.{digit_of, decimals, held_integer, digit_list, whole_part, PartText, part_by}
use Rattle.il_model.specs.Literals.{sum_of_parts, parts_by, past_join}
use Rattle.std.specs.Prelude.{option_map}

pub small_product : (n u : ℕ) → n < 2 ^ 64 → u ≤ 86400000 → n * u ≤ 18446744073709551615 * 86400000
small_product n u a b = mul-le n u 18446744073709551615 86400000 (omega (arith, a)) b

-- so many milliseconds are the part of the unit that the decimals say
abbrev pub IsFraction : ℕ → List ℕ → ℕ → Type 0
IsFraction unit ds ms = ms * 10 ^ length ds ≡ decimals ds * unit

decimals-push : (ds : List ℕ) (d : ℕ) → decimals (ds ++ d ∷ []) ≡ 10 * decimals ds + d
unfolding decimals
decimals-push [] d = omega arith
decimals-push (e ∷ ds) d =
    let n : length (ds ++ d ∷ []) ≡ suc (length ds) = omega (arith, length-append ds (d ∷ [])) in
    let again = decimals-push ds d in
    let p : 10 ^ suc (length ds) ≡ 10 * 10 ^ length ds = pow-succ' 10 (length ds) in
    rw (n, p) (omega (arith, again))

length-push : (ds : List ℕ) (d : ℕ) → length (ds ++ d ∷ []) ≡ length ds + 1
length-push ds d = omega (arith, length-append ds (d ∷ []))

digits-push : (bs : List ℕ) (b : ℕ) → eqb b 95 ≡ false → digit_list (bs ++ b ∷ []) ≡ digit_list bs ++ digit_of b ∷ []
unfolding digit_list
digits-push [] b other = rw other refl
digits-push (a ∷ bs) b other = chosen (eqb a 95) (digits-push bs b other)
  where
    chosen : (t : Bool) → digit_list (bs ++ b ∷ []) ≡ digit_list bs ++ digit_of b ∷ [] → cond t (digit_list (bs ++ b ∷ [])) (digit_of a ∷ digit_list (bs ++ b ∷ [])) ≡ cond t (digit_list bs) (digit_of a ∷ digit_list bs) ++ digit_of b ∷ []
    chosen true e = e
    chosen false e = rw e refl

join-push : (bs : List ℕ) (b : ℕ) → eqb b 95 ≡ true → digit_list (bs ++ b ∷ []) ≡ digit_list bs
unfolding digit_list
join-push [] b is = rw is refl
join-push (a ∷ bs) b is = chosen (eqb a 95) (join-push bs b is)
  where
    chosen : (t : Bool) → digit_list (bs ++ b ∷ []) ≡ digit_list bs → cond t (digit_list (bs ++ b ∷ [])) (digit_of a ∷ digit_list (bs ++ b ∷ [])) ≡ cond t (digit_list bs) (digit_of a ∷ digit_list bs)
    chosen true e = e
    chosen false e = rw e refl

-- the decimals of the first k bytes
abbrev pub upto : ℕ → List ℕ → List ℕ
upto k bytes = digit_list (take k bytes)

pub at_digit : (bytes : List ℕ) (k : ℕ) → k < length bytes → get_or bytes k 0 ≢ 95 → upto (k + 1) bytes ≡ upto k bytes ++ digit_of (get_or bytes k 0) ∷ []
at_digit bytes k lt other = rw (take_more bytes k 0 lt) (digits-push (take k bytes) (get_or bytes k 0) (ne_eqb (get_or bytes k 0) 95 other))

pub at_join : (bytes : List ℕ) (k : ℕ) → k < length bytes → get_or bytes k 0 ≡ 95 → upto (k + 1) bytes ≡ upto k bytes
at_join bytes k lt is = rw (take_more bytes k 0 lt) (join-push (take k bytes) (get_or bytes k 0) (eq-eqb (get_or bytes k 0) 95 is))

-- decimals, of which some are turned into whole ones of the last place before them
abbrev pub Leads : ℕ → ℕ → List ℕ → ℕ → Type 0
Leads unit ms ds m = m * 10 ^ length ds ≡ decimals ds * unit + ms

-- one decimal from the end
pub turned_back : (unit ms m d q : ℕ) (ds : List ℕ) → d * unit + ms ≡ 10 * q → Leads unit ms (ds ++ d ∷ []) m → Leads unit q ds m
turned_back unit ms m d q ds sum h =
    let p : 10 ^ length (ds ++ d ∷ []) ≡ 10 * 10 ^ length ds = rw (length-push ds d, add-one) (pow-succ' 10 (length ds)) in
    let e : m * (10 * 10 ^ length ds) ≡ (10 * decimals ds + d) * unit + ms = rw (← p, ← decimals-push ds d) h in
    omega (arith, e, sum)

pub turned_on : (unit ms m d q : ℕ) (ds : List ℕ) → d * unit + ms ≡ 10 * q → Leads unit q ds m → Leads unit ms (ds ++ d ∷ []) m
turned_on unit ms m d q ds sum h =
    let p : 10 ^ length (ds ++ d ∷ []) ≡ 10 * 10 ^ length ds = rw (length-push ds d, add-one) (pow-succ' 10 (length ds)) in
    rw (p, decimals-push ds d) (omega (arith, h, sum))

-- a sum that 10 does not divide is no tenth of anything whole
pub not_whole : (unit ms m d r q : ℕ) (ds : List ℕ) → d * unit + ms ≡ 10 * q + r → 0 < r → r < 10 → Leads unit ms (ds ++ d ∷ []) m → ⊥
not_whole unit ms m d r q ds sum pos small h =
    let p : 10 ^ length (ds ++ d ∷ []) ≡ 10 * 10 ^ length ds = rw (length-push ds d, add-one) (pow-succ' 10 (length ds)) in
    let e : m * (10 * 10 ^ length ds) ≡ (10 * decimals ds + d) * unit + ms = rw (← p, ← decimals-push ds d) h in
    omega (arith, e, sum)

pub ends_at : (unit ms k : ℕ) (bytes : List ℕ) → k ≡ 0 → Leads unit ms (upto k bytes) ms
unfolding decimals digit_list
ends_at unit ms k bytes none = rw none (omega arith)

pub small_step : (unit ms d : ℕ) → d < 100 → ms ≤ 11 * unit → (d * unit + ms) / 10 ≤ 11 * unit
small_step unit ms d digit small =
    let most : d ≤ 99 = omega arith in
    let h : unit * d ≤ unit * 99 = mul-le-mul_left unit most in
    omega (arith, h)

zero_more : (a b : ℕ) → a ≡ b → a ≡ b + 0
zero_more a b e = omega (arith, e)

-- what the whole milliseconds are
pub is_whole : (unit ms : ℕ) (ds : List ℕ) → IsFraction unit ds ms → whole_part unit ds ≡ Some ms
unfolding whole_part
is_whole unit ms ds e =
    let t = 10 ^ length ds in
    let pos : 0 < t = one-le-pow (length ds) 10 (omega arith) in
    let x : decimals ds * unit ≡ ms * t + 0 = zero_more (decimals ds * unit) (ms * t) (sym e) in
    let r : (decimals ds * unit) % t ≡ 0 = rw x (mod-mul-add ms t 0 pos) in
    let q : (decimals ds * unit) / t ≡ ms = rw x (div-mul-add ms t 0 pos) in
    rw (r, q) refl

pub is_broken : (unit : ℕ) (ds : List ℕ) → ((ms : ℕ) → IsFraction unit ds ms → ⊥) → whole_part unit ds ≡ None
unfolding whole_part
is_broken unit ds none = chosen (eqb ((decimals ds * unit) % 10 ^ length ds) 0) refl
  where
    chosen : (b : Bool) → eqb ((decimals ds * unit) % 10 ^ length ds) 0 ≡ b → cond b (Some (decimals ds * unit / 10 ^ length ds)) None ≡ None
    chosen true e =
        let z = eqb-true ((decimals ds * unit) % 10 ^ length ds) 0 e in
        let s = div-add-mod' (decimals ds * unit) (10 ^ length ds) in
        absurd (none (decimals ds * unit / 10 ^ length ds) (omega (arith, z, s)))
    chosen false e = refl

-- ---- parts that are added up

pub added_to : (n m : ℕ) (o : Option ℕ) → option_map (λ (k : ℕ). n + k) (option_map (λ (k : ℕ). m + k) o) ≡ option_map (λ (k : ℕ). n + m + k) o
added_to n m None = refl
added_to n m (Some k) = let e : n + (m + k) ≡ n + m + k = omega arith in ap (λ (x : ℕ). Some x) e

-- no part stands here
pub no_part : (total i limit : ℕ) (bytes : List ℕ) (whole : Option ℕ) → i < 5 → part_by held_integer bytes ≡ None → option_map (λ (n : ℕ). total + n) (parts_by held_integer (5 - i) limit bytes) ≡ whole → whole ≡ None
unfolding parts_by
no_part total i limit bytes whole lt none so_far =
    let e : 5 - i ≡ suc (5 - (i + 1)) = omega arith in
    let f : parts_by held_integer (5 - i) limit bytes ≡ None = rw (e, none) refl in
    sym so_far ∙ rw f refl

-- what a part adds
turned : (i limit : ℕ) (bytes : List ℕ) (p : PartText) → i < 5 → part_by held_integer bytes ≡ Some p → parts_by held_integer (5 - i) limit bytes ≡ sum_of_parts (parts_by held_integer (5 - (i + 1))) limit p
unfolding parts_by
turned i limit bytes p lt is =
    let e : 5 - i ≡ suc (5 - (i + 1)) = omega arith in
    rw (e, is) refl

pub too_high : (total i limit : ℕ) (bytes : List ℕ) (p : PartText) (whole : Option ℕ) → i < 5 → part_by held_integer bytes ≡ Some p → limit ≤ p.rank → option_map (λ (n : ℕ). total + n) (parts_by held_integer (5 - i) limit bytes) ≡ whole → whole ≡ None
too_high total i limit bytes p whole lt is high so_far =
    let h : ltb p.rank limit ≡ false = le-ltb p.rank limit high in
    sym so_far ∙ rw (turned i limit bytes p lt is, h) refl

pub last_part : (total i limit : ℕ) (bytes : List ℕ) (p : PartText) (whole : Option ℕ) → i < 5 → part_by held_integer bytes ≡ Some p → p.rank < limit → length p.rest ≡ 0 → option_map (λ (n : ℕ). total + n) (parts_by held_integer (5 - i) limit bytes) ≡ whole → whole ≡ Some (total + p.milliseconds)
last_part total i limit bytes p whole lt is low none so_far =
    let h : ltb p.rank limit ≡ true = lt-ltb p.rank limit low in
    let z : eqb (length p.rest) 0 ≡ true = eq-eqb (length p.rest) 0 none in
    sym so_far ∙ rw (turned i limit bytes p lt is, h, z) refl

pub not_last : (total i limit : ℕ) (bytes : List ℕ) (p : PartText) (whole : Option ℕ) → i < 5 → part_by held_integer bytes ≡ Some p → p.rank < limit → length p.rest ≢ 0 → p.broken ≡ true → option_map (λ (n : ℕ). total + n) (parts_by held_integer (5 - i) limit bytes) ≡ whole → whole ≡ None
not_last total i limit bytes p whole lt is low some broken so_far =
    let h : ltb p.rank limit ≡ true = lt-ltb p.rank limit low in
    let z : eqb (length p.rest) 0 ≡ false = ne_eqb (length p.rest) 0 some in
    sym so_far ∙ rw (turned i limit bytes p lt is, h, z, broken) refl

pub goes_on : (total i limit : ℕ) (bytes : List ℕ) (p : PartText) (whole : Option ℕ) → i < 5 → part_by held_integer bytes ≡ Some p → p.rank < limit → length p.rest ≢ 0 → p.broken ≡ false → option_map (λ (n : ℕ). total + n) (parts_by held_integer (5 - i) limit bytes) ≡ whole
    → option_map (λ (n : ℕ). total + p.milliseconds + n) (parts_by held_integer (5 - (i + 1)) p.rank (past_join p.rest)) ≡ whole
goes_on total i limit bytes p whole lt is low some plain so_far =
    let h : ltb p.rank limit ≡ true = lt-ltb p.rank limit low in
    let z : eqb (length p.rest) 0 ≡ false = ne_eqb (length p.rest) 0 some in
    let e : parts_by held_integer (5 - i) limit bytes ≡ option_map (λ (n : ℕ). p.milliseconds + n) (parts_by held_integer (5 - (i + 1)) p.rank (past_join p.rest)) = rw (turned i limit bytes p lt is, h, z, plain) refl in
    sym (added_to total p.milliseconds (parts_by held_integer (5 - (i + 1)) p.rank (past_join p.rest))) ∙ sym (ap (option_map (λ (n : ℕ). total + n)) e) ∙ so_far

pub ran_out : (total i limit : ℕ) (bytes : List ℕ) (whole : Option ℕ) → 5 ≤ i → option_map (λ (n : ℕ). total + n) (parts_by held_integer (5 - i) limit bytes) ≡ whole → whole ≡ None
unfolding parts_by
ran_out total i limit bytes whole le so_far =
    let e : 5 - i ≡ 0 = omega arith in
    sym so_far ∙ rw e refl
