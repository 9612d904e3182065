-- The parts of a name: the first one and the rest, and what stands before the last dot.
use Rattle.std.proofs.Common.{◌≡◌, ℕ, suc, ◌+◌, ◌<◌, ◌≤◌, Bool, true, false, cond, not, List, [], ◌∷◌, ◌++◌, take, drop, length, get_or, Option, Some, None, refl, sym, ap, ◌∙◌, arith, add-one}
use Rattle.std.specs.Option.{option_map}
use Rattle.std.proofs.Math.Seq.{take-suc}
use Rattle.il_model.specs.Locations.{dot_at}
use Rattle.il_model.specs.Words.{is_dot, onto_first, name_parts, before_last, split_last}

-- ---- the first part

first_by : (c : Bool) (b : ℕ) (bs : List ℕ) (k : ℕ) → is_dot b ≡ c → (k < length bs → take k bs ∷ name_parts (drop (k + 1) bs) ≡ name_parts bs)
    → let n = cond (not c) (1 + k) 0 in n < length (b ∷ bs) → take n (b ∷ bs) ∷ name_parts (drop (n + 1) (b ∷ bs)) ≡ cond c ([] ∷ name_parts bs) (onto_first b (name_parts bs))
first_by true b bs k is again lt = refl
first_by false b bs k is again lt =
    let one : 1 + k ≡ suc k = omega arith in
    let two : suc k + 1 ≡ suc (k + 1) = omega arith in
    rw (one, two) (ap (onto_first b) (again (omega (arith, lt))))

pub first_parts : (name : List ℕ) → dot_at name < length name → take (dot_at name) name ∷ name_parts (drop (dot_at name + 1) name) ≡ name_parts name
unfolding name_parts
first_parts [] lt = absurd (omega (arith, lt))
first_parts (b ∷ bs) lt = first_by (is_dot b) b bs (dot_at bs) refl (first_parts bs) lt

one_by : (c : Bool) (b : ℕ) (bs : List ℕ) (k : ℕ) → (length bs ≤ k → bs ∷ [] ≡ name_parts bs)
    → let n = cond (not c) (1 + k) 0 in length (b ∷ bs) ≤ n → (b ∷ bs) ∷ [] ≡ cond c ([] ∷ name_parts bs) (onto_first b (name_parts bs))
one_by true b bs k again le = absurd (omega (arith, le))
one_by false b bs k again le = ap (onto_first b) (again (omega (arith, le)))

-- a name without a dot is its only part
pub one_part : (name : List ℕ) → length name ≤ dot_at name → name ∷ [] ≡ name_parts name
unfolding name_parts
one_part [] le = refl
one_part (b ∷ bs) le = one_by (is_dot b) b bs (dot_at bs) (one_part bs) le

-- ---- the last dot

abbrev last_with : Option ℕ → Bool → Option ℕ
last_with (Some k) c = Some (suc k)
last_with None true = Some 0
last_with None false = None

-- where it stands
abbrev pub last_dot : List ℕ → Option ℕ
last_dot [] = None
last_dot (b ∷ bs) = last_with (last_dot bs) (is_dot b)

alone : (c : Bool) → last_with None c ≡ cond c (Some 0) None
alone true = refl
alone false = refl

behind : (c t : Bool) (n : ℕ) (o : Option ℕ) → last_with (cond c (Some n) o) t ≡ cond c (Some (suc n)) (last_with o t)
behind true t n o = refl
behind false t n o = refl

push : (xs : List ℕ) (b : ℕ) → last_dot (xs ++ b ∷ []) ≡ cond (is_dot b) (Some (length xs)) (last_dot xs)
push [] b = alone (is_dot b)
push (x ∷ xs) b = ap (λ (o : Option ℕ). last_with o (is_dot x)) (push xs b) ∙ behind (is_dot b) (is_dot x) (length xs) (last_dot xs)

-- one byte more
pub more_dot : (name : List ℕ) (i b : ℕ) → i < length name → b ≡ get_or name i 0 → last_dot (take (i + 1) name) ≡ cond (is_dot b) (Some (length (take i name))) (last_dot (take i name))
more_dot name i b lt is =
    let one : take (i + 1) name ≡ take i name ++ b ∷ [] = rw add-one (take-suc name i 0 lt ∙ ap (λ (c : ℕ). take i name ++ c ∷ []) (sym is)) in
    ap last_dot one ∙ push (take i name) b

abbrev split_at : List ℕ → ℕ → List ℕ × List ℕ
split_at name k = (take k name, drop (k + 1) name)

split_with : (o : Option ℕ) (c : Bool) (b : ℕ) (bs : List ℕ) → is_dot b ≡ c → before_last b bs (option_map (split_at bs) o) ≡ option_map (split_at (b ∷ bs)) (last_with o c)
split_with (Some k) c b bs is = let e : suc k + 1 ≡ suc (k + 1) = omega arith in rw e refl
split_with None true b bs is = rw is refl
split_with None false b bs is = rw is refl

pub split_is : (name : List ℕ) → split_last name ≡ option_map (λ k. (take k name, drop (k + 1) name)) (last_dot name)
unfolding split_last
split_is [] = refl
split_is (b ∷ bs) = ap (before_last b bs) (split_is bs) ∙ split_with (last_dot bs) (is_dot b) b bs refl

-- it stands before the end
within_with : (o : Option ℕ) (c : Bool) (k n : ℕ) → ((j : ℕ) → o ≡ Some j → j < n) → last_with o c ≡ Some k → k < suc n
within_with (Some j) c k n within e = let lt = within j refl in let is : suc j ≡ k = cc in omega (arith, lt, is)
within_with None true k n within e = let is : 0 ≡ k = cc in omega (arith, is)
within_with None false k n within e = absurd cc

pub last_within : (name : List ℕ) (k : ℕ) → last_dot name ≡ Some k → k < length name
last_within [] k e = absurd cc
last_within (b ∷ bs) k e = within_with (last_dot bs) (is_dot b) k (length bs) (last_within bs) e
