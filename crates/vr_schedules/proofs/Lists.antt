-- Lists with one place changed, messages at the end, and the committed list.
use Rattle.std.proofs.Common.{◌≡◌, ℕ, ◌+◌, ◌<◌, ◌≤◌, List, [], ◌∷◌, ◌++◌, length, take, drop, map, max, zero, suc, get_or, Some, None, cond, take-append-drop, refl, sym, ap, ◌∙◌, subst, inl, inr, arith, length-append, append_assoc}
use Rattle.std.proofs.lemmas.Bool.{cases_eq, cases_lt, le-ltb}
use Rattle.std.proofs.lemmas.Grind.{common_steps}
use Rattle.std.specs.List.{slice_get}
use Rattle.std.specs.Prelude.{slice_set}
use Rattle.std.proofs.lemmas.List.{length-take, map-append, drop-append-le, take_more, get_or-set_same, get_or-set_other, length-set}
use Rattle.std.proofs.lemmas.Option.{slice_get_within, slice_get-get_or, get_or_from_slice_get}
use Rattle.il_model.specs.declared.command.Command.{Command}
use Rattle.vr_model.specs.declared.message.Request as asked
use Rattle.vr_model.specs.Logs.{Request, IsPrefix}
use Rattle.vr_model.specs.World.{longer}
use Rattle.vr_model.specs.StandsFor.{request_of, requests_of}

-- a member of a list with one place changed is the new one there, or an old one elsewhere
pub set_cases : {X : Type 0} (xs : List X) (i : ℕ) (x : X) (P : ℕ → X → Type 0) → P i x → ((j : ℕ) (y : X) → (j ≡ i → ⊥) → slice_get xs j ≡ Some y → P j y)
    → (j : ℕ) (y : X) → slice_get (slice_set xs i x) j ≡ Some y → P j y
set_cases {X} xs i x P here there j y e =
    let within : j < length xs = omega (arith, slice_get_within (slice_set xs i x) j y e, length-set xs i x) in
    elim (cases_eq j i) [
      | inl same ↦
          let got : get_or (slice_set xs i x) j y ≡ y = get_or_from_slice_get (slice_set xs i x) j y y e in
          let in_range : i < length xs = omega arith in
          let now : get_or (slice_set xs i x) j y ≡ x = ap (λ k. get_or (slice_set xs i x) k y) same ∙ get_or-set_same xs i x y in_range in
          let value : x ≡ y = sym now ∙ got in
          subst (λ k. P k y) (sym same) (subst (P i) value here)
      | inr apart ↦
          let got : get_or (slice_set xs i x) j y ≡ y = get_or_from_slice_get (slice_set xs i x) j y y e in
          let old : get_or xs j y ≡ y = sym (get_or-set_other xs i j x y apart) ∙ got in
          there j y apart (slice_get-get_or xs j y within ∙ ap Some old)
    ]

-- one more entry of a log
pub drop_more : {X : Type 0} (first place : ℕ) (log : List X) (x : X) → first ≤ place → slice_get log place ≡ Some x → drop first (take (place + 1) log) ≡ drop first (take place log) ++ x ∷ []
drop_more first place log x l e =
    let within : place < length log = slice_get_within log place x e in
    let more : take (place + 1) log ≡ take place log ++ x ∷ [] = take_more log place x within ∙ ap (λ y. take place log ++ y ∷ []) (get_or_from_slice_get log place x x e) in
    let long : first ≤ length (take place log) = omega (arith, length-take place log) in
    ap (drop first) more ∙ drop-append-le first (take place log) (x ∷ []) long

pub one_more_entry : (old items new : List asked.Request) (log : List (Request Command)) (m : asked.Request) (first place : ℕ) → new ≡ items ++ m ∷ []
    → requests_of items ≡ requests_of old ++ drop first (take place log) → first ≤ place → slice_get log place ≡ Some (request_of m)
    → requests_of new ≡ requests_of old ++ drop first (take (place + 1) log)
one_more_entry old items new log m first place e k l is =
    ap requests_of e ∙ map-append request_of items (m ∷ []) ∙ ap (λ (xs : List (Request Command)). xs ++ request_of m ∷ []) k ∙ append_assoc (requests_of old) (drop first (take place log)) (request_of m ∷ [])
    ∙ ap (λ xs. requests_of old ++ xs) (sym (drop_more first place log (request_of m) l is))

-- there is no entry at this place, so the log ends before it
pub no_more : {X : Type 0} (xs : List X) (n : ℕ) → slice_get xs n ≡ None → length xs ≤ n
no_more [] n e = omega arith
no_more (x ∷ xs) zero e = absurd cc
no_more (x ∷ xs) (suc n) e = omega (arith, no_more xs n e)

pub take_front : {X : Type 0} (xs ys : List X) → take (length xs) (xs ++ ys) ≡ xs
take_front xs ys = grind (arith, common_steps)

take_less : {X : Type 0} (n m : ℕ) (xs : List X) → n ≤ m → take n (take m xs) ≡ take n xs
take_less n m xs l = grind (arith, common_steps)

-- The committed list with the rest of a log behind it, cut where the list or what was executed ends: that is what the
-- list becomes, where what is executed past it is of that log.
pub settled_order : {X : Type 0} (order log now : List X) (k : ℕ) → IsPrefix order (longer order (take k now)) → (length order < k → longer order (take k now) ≡ take k log)
    → take (max (length order) k) (order ++ drop (length order) log) ≡ longer order (take k now)
settled_order order log now k grows had = elim (cases_lt (length order) k) [
  | inl past ↦
      let is : longer order (take k now) ≡ take k log = had past in
      let begins : order ++ grows.rest ≡ take k log = grows.is ∙ is in
      let front : take (length order) log ≡ order = sym (take_less (length order) k log (omega arith)) ∙ ap (take (length order)) (sym begins) ∙ take_front order grows.rest in
      let whole : order ++ drop (length order) log ≡ log = ap (λ xs. xs ++ drop (length order) log) (sym front) ∙ take-append-drop (length order) log in
      let cut : max (length order) k ≡ k = omega arith in
      ap (λ n. take n (order ++ drop (length order) log)) cut ∙ ap (take k) whole ∙ sym is
  | inr low ↦
      let cut : max (length order) k ≡ length order = omega arith in
      let short : length (take k now) ≤ length order = omega (arith, length-take k now) in
      ap (λ n. take n (order ++ drop (length order) log)) cut ∙ take_front order (drop (length order) log) ∙ sym (ap (λ b. cond b (take k now) order) (le-ltb (length order) (length (take k now)) short))
]

map_take : {X Y : Type 0} (f : X → Y) (n : ℕ) (xs : List X) → map f (take n xs) ≡ take n (map f xs)
map_take f zero xs = refl
map_take f (suc n) [] = refl
map_take f (suc n) (x ∷ xs) = ap (λ ys. f x ∷ ys) (map_take f n xs)

pub requests_taken : (xs ys : List asked.Request) (n : ℕ) → xs ≡ take n ys → requests_of xs ≡ take n (requests_of ys)
requests_taken xs ys n e = ap requests_of e ∙ map_take request_of n ys

-- what is a prefix of the committed list leaves it as it is
pub stays : {X : Type 0} (order done : List X) → IsPrefix done order → longer order done ≡ order
stays {X} order done k =
    let l : length done ≤ length order = omega (arith, ap length k.is, length-append done k.rest) in
    ap (λ b. cond b done order) (le-ltb (length order) (length done) l)

-- what was read by an index
pub got : {X : Type 0} (xs : List X) (i : ℕ) (x : X) → i < length xs → x ≡ get_or xs i x → slice_get xs i ≡ Some x
got xs i x l e = slice_get-get_or xs i x l ∙ ap Some (sym e)

-- what was read where it was just written
pub got_written : {X : Type 0} (xs : List X) (i : ℕ) (x y : X) → i < length xs → x ≡ get_or (slice_set xs i y) i x → y ≡ x
got_written xs i x y l e = sym (e ∙ get_or-set_same xs i y x l)

-- what an index reads
pub reads : {X : Type 0} (xs : List X) (n i : ℕ) (d : X) → i < n → length xs ≡ n → slice_get xs i ≡ Some (get_or xs i d)
reads xs n i d l e = slice_get-get_or xs i d (omega arith)

-- what `get` found
pub found : {X : Type 0} (ys xs : List X) (n : ℕ) (x : X) → ys ≡ xs → n < length ys → x ≡ get_or ys n x → slice_get xs n ≡ Some x
found ys xs n x same l e = ap (λ zs. slice_get zs n) (sym same) ∙ got ys n x l e

pub take_prefix : {X : Type 0} (n : ℕ) (xs : List X) → IsPrefix (take n xs) xs
take_prefix n xs = record { rest = drop n xs; is = take-append-drop n xs }
