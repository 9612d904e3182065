-- Cells that are handed over, one by one.
use Rattle.std.proofs.Common.{◌≡◌, ℕ, ◌+◌, ◌-◌, ◌≤◌, ◌<◌, Bool, true, false, List, ◌++◌, refl, ◌∙◌, ap, arith, get_or, length, take, drop}
use Rattle.std.specs.Prelude.{pos, ◌&&◌, nat_le, nat_lt, if◌then◌else◌, slice_range}
use Rattle.std.specs.List.{splice}
use Rattle.std.proofs.lemmas.List.{get_or-take, get_or-drop, get_or-append_right, get_or_append_left}
use Rattle.std.proofs.lemmas.List.Edits.{get_or-between}
use Rattle.std.proofs.lemmas.Grind.{common_steps}
use Rattle.std.proofs.lemmas.Bool.Decides.{nat_tests}
use Rattle.il_model.specs.declared.cells.Cells.{Cells}
use Rattle.io_image.specs.Book.{after_change}
use Rattle.field_map.specs.declared.places.Kind.{Kind}
use Rattle.field_map.specs.declared.places.Kind.TheVariants.{Bits, Words}
use Rattle.field_map.specs.declared.places.Places.{Places}
use Rattle.field_map.specs.Areas.{area_length, is_one_kind}
use Rattle.field_map.specs.Filled.{is_in}
use Rattle.field_map.specs.Asking.{carried, carried_by}
use Rattle.field_map.specs.Carried.{bit, word, cell_at, IsWhole}

-- a part of one list over the same part of another
abbrev pub laid : {A : Type 0} → List A → List A → ℕ → ℕ → List A
laid xs ys a m = splice xs a (a + length (slice_range ys a (a + m))) (slice_range ys a (a + m))

pub length-part : {A : Type 0} (ys : List A) (a m : ℕ) → a + m ≤ length ys → length (slice_range ys a (a + m)) ≡ m
length-part ys a m h = grind (arith, common_steps)

pub length-laid : {A : Type 0} (xs ys : List A) (a m : ℕ) → a + m ≤ length xs → a + m ≤ length ys
    → length (laid xs ys a m) ≡ length xs
length-laid xs ys a m h k =
    let e : length (slice_range ys a (a + m)) ≡ m = length-part ys a m k in
    rw e (grind (arith, common_steps, e))

pub laid_before : {A : Type 0} (xs rs : List A) (a b n : ℕ) (d : A) → a ≤ length xs → n < a
    → get_or (splice xs a b rs) n d ≡ get_or xs n d
laid_before xs rs a b n d h lt =
    get_or_append_left (take a xs) (rs ++ drop b xs) d n (grind (arith, common_steps)) ∙ get_or-take a xs n d lt

pub laid_within : {A : Type 0} (xs rs : List A) (a b n : ℕ) (d : A) → a ≤ length xs → a ≤ n → n < a + length rs
    → get_or (splice xs a b rs) n d ≡ get_or rs (n - a) d
laid_within xs rs a b n d h le lt =
    get_or-append_right (take a xs) (rs ++ drop b xs) a n d (grind (arith, common_steps)) le
    ∙ get_or_append_left rs (drop b xs) d (n - a) (omega arith)

pub laid_behind : {A : Type 0} (xs rs : List A) (a b n : ℕ) (d : A) → a ≤ length xs → a + length rs ≡ b → b ≤ n
    → get_or (splice xs a b rs) n d ≡ get_or xs n d
laid_behind xs rs a b n d h e le =
    get_or-append_right (take a xs) (rs ++ drop b xs) a n d (grind (arith, common_steps)) (omega arith)
    ∙ (get_or-append_right rs (drop b xs) (length rs) (n - a) d refl (omega arith)
    ∙ (get_or-drop b xs (n - a - length rs) d ∙ ap (λ k. get_or xs k d) (omega arith)))

-- one cell of it
pub get_or-laid : {A : Type 0} (xs ys : List A) (a m n : ℕ) (d : A) → a + m ≤ length xs → a + m ≤ length ys
    → get_or (laid xs ys a m) n d ≡ (if nat_le a n && nat_lt n (a + m) then get_or ys n d else get_or xs n d)
get_or-laid xs ys a m n d h k =
    let e : length (slice_range ys a (a + m)) ≡ m = length-part ys a m k in
    by_cases (nat_le a n) (nat_lt n (a + m)) refl refl
  where
    by_cases : (b c : Bool) → nat_le a n ≡ b → nat_lt n (a + m) ≡ c
        → get_or (laid xs ys a m) n d ≡ (if b && c then get_or ys n d else get_or xs n d)
    by_cases false c p q = laid_before xs (slice_range ys a (a + m)) a (a + length (slice_range ys a (a + m))) n d (omega arith) (grind (arith, nat_tests))
    by_cases true true p q =
        let e : length (slice_range ys a (a + m)) ≡ m = length-part ys a m k in
        let le : a ≤ n = grind (arith, nat_tests) in
        let lt : n < a + m = grind (arith, nat_tests) in
        laid_within xs (slice_range ys a (a + m)) a (a + length (slice_range ys a (a + m))) n d (omega arith) le (omega arith)
        ∙ (get_or-between ys a (a + m) (n - a) d (omega arith) ∙ ap (λ k. get_or ys k d) (omega arith))
    by_cases true false p q =
        let e : length (slice_range ys a (a + m)) ≡ m = length-part ys a m k in
        let ge : a + m ≤ n = grind (arith, nat_tests) in
        laid_behind xs (slice_range ys a (a + m)) a (a + length (slice_range ys a (a + m))) n d (omega arith) refl (omega arith)

pub if_ap : {A B : Type 0} (f : A → B) (b : Bool) (x y : A) → f (if b then x else y) ≡ (if b then f x else f y)
if_ap f true x y = refl
if_ap f false x y = refl

carried_at : (p : Kind) (a m : ℕ) (c g : Cells) (kind : Kind) (n : ℕ) → a + m ≤ area_length p → IsWhole c → IsWhole g
    → cell_at (after_change c (carried_by p a m g)) kind n
    ≡ (if is_one_kind p kind && (nat_le a n && nat_lt n (a + m)) then cell_at g kind n else cell_at c kind n)
carried_at Bits a m c g Bits n h w v =
    ap bit (get_or-laid c.bits g.bits a m n false (omega (arith, h, w.0)) (omega (arith, h, v.0)))
    ∙ if_ap bit (nat_le a n && nat_lt n (a + m)) (get_or g.bits n false) (get_or c.bits n false)
carried_at Words a m c g Words n h w v =
    ap word (get_or-laid c.words g.words a m n (pos 0) (omega (arith, h, w.1)) (omega (arith, h, v.1)))
    ∙ if_ap word (nat_le a n && nat_lt n (a + m)) (get_or g.words n (pos 0)) (get_or c.words n (pos 0))
carried_at Bits a m c g Words n h w v = refl
carried_at Words a m c g Bits n h w v = refl

carried_whole : (p : Kind) (a m : ℕ) (c g : Cells) → a + m ≤ area_length p → IsWhole c → IsWhole g
    → IsWhole (after_change c (carried_by p a m g))
carried_whole Bits a m c g h w v =
    (length-laid c.bits g.bits a m (omega (arith, h, w.0)) (omega (arith, h, v.0)) ∙ w.0, w.1)
carried_whole Words a m c g h w v =
    (w.0, length-laid c.words g.words a m (omega (arith, h, w.1)) (omega (arith, h, v.1)) ∙ w.1)

-- of places that are handed over each cell is that of the others, and no other changes
pub cell_at-carried : (p : Places) (c g : Cells) (kind : Kind) (n : ℕ) → IsWhole c → IsWhole g
    → cell_at (after_change c (carried p g)) kind n ≡ (if is_in p kind n then cell_at g kind n else cell_at c kind n)
cell_at-carried p c g kind n w v = carried_at p.kind p.from p.count c g kind n p.inside w v

pub carried_is_whole : (p : Places) (c g : Cells) → IsWhole c → IsWhole g → IsWhole (after_change c (carried p g))
carried_is_whole p c g w v = carried_whole p.kind p.from p.count c g p.inside w v
