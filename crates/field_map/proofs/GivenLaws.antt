-- Each place has what its device gives.
use Rattle.std.proofs.Common.{◌≡◌, ℕ, zero, suc, Bool, true, false, List, [], ◌∷◌, refl, sym, ◌∙◌, ap, rules}
use Rattle.std.specs.Prelude.{◌||◌, if◌then◌else◌, Option, Some, None, is_some, slice_get}
use Rattle.std.specs.List.{flat_map, AllByRecursion}
use Rattle.il_model.specs.declared.cells.Cells.{Cells}
use Rattle.field_map.specs.declared.places.Kind.{Kind}
use Rattle.field_map.specs.declared.places.Places.{Places}
use Rattle.field_map.specs.declared.device.Device.{Device}
use Rattle.field_map.specs.declared.reading.Fallback.{Fallback}
use Rattle.field_map.specs.declared.reading.Fallback.TheVariants.{Hold, Zero}
use Rattle.il_model.specs.Locations.{clear_cells}
use Rattle.field_map.specs.Asking.{all_cells}
use Rattle.field_map.specs.Filled.{is_in, is_in_some, is_in_any, is_read, are_all_apart}
use Rattle.field_map.specs.Field.{filled_by, places_read}
use Rattle.field_map.specs.Field.{places_alive}
use Rattle.field_map.specs.Rounds.{handed_cells}
use Rattle.field_map.specs.Carried.{Cell, cell_at, IsWhole, IsWholeIf, handed_over, after_device, after_devices}
use Rattle.field_map.specs.Carried.{is_filled, given_by, shown_at_place, IsEachGiven}
use Rattle.field_map.proofs.ApartLaws.{apart_behind, bool_cases, in_front_alone, is_in_any-append, is_in_any-read}
use Rattle.std.proofs.lemmas.Option.{same_Some}
use Rattle.field_map.proofs.PlaceLaws.{cell_at-carried, carried_is_whole}

-- what was handed over, and what was there
over : Option Places → Option Cells → Kind → ℕ → Cell → Cell
over places cells kind n before = if is_in_some places kind n then shown_at_place cells kind n before else before

same_if : {A : Type 0} (b : Bool) (x : A) → (if b then x else x) ≡ x
same_if true x = refl
same_if false x = refl

cell_at-handed : (c : Cells) (p : Option Places) (g : Option Cells) (kind : Kind) (n : ℕ) → IsWhole c → IsWholeIf g
    → cell_at (handed_over c p g) kind n ≡ over p g kind n (cell_at c kind n)
unfolding over
cell_at-handed c None g kind n w v = refl
cell_at-handed c (Some p) None kind n w v = sym (same_if (is_in p kind n) (cell_at c kind n))
cell_at-handed c (Some p) (Some g) kind n w v = cell_at-carried p c g kind n w v

handed_is_whole : (c : Cells) (p : Option Places) (g : Option Cells) → IsWhole c → IsWholeIf g → IsWhole (handed_over c p g)
handed_is_whole c None g w v = w
handed_is_whole c (Some p) None w v = w
handed_is_whole c (Some p) (Some g) w v = carried_is_whole p c g w v

all_is_whole : (b : Bool) → IsWhole (all_cells b)
all_is_whole b = (search rules, search rules)

pub clear_is_whole : IsWhole clear_cells
clear_is_whole = (search rules, search rules)

fallen_is_whole : (fallback : Fallback) (g : Option Cells) → IsWholeIf g → IsWholeIf (handed_cells fallback g)
fallen_is_whole fallback (Some g) w = w
fallen_is_whole Zero None w = clear_is_whole
fallen_is_whole Hold None w = tt

-- one device: each cell has what it gives
device_gives : (c : Cells) (d : Device) (g : Option Cells) (kind : Kind) (n : ℕ) → IsWhole c → IsWholeIf g
    → cell_at (after_device c d g) kind n ≡ given_by d g kind n (cell_at c kind n)
unfolding over
device_gives c d g kind n w v =
    let fallen = fallen_is_whole d.on_loss g v in
    cell_at-handed (handed_over c d.inputs.places (handed_cells d.on_loss g)) d.alive (Some (all_cells (is_some g))) kind n
    (handed_is_whole c d.inputs.places (handed_cells d.on_loss g) w fallen) (all_is_whole (is_some g))
    ∙ (ap (λ (x : Cell). if is_in_some d.alive kind n then cell_at (all_cells (is_some g)) kind n else x)
    (cell_at-handed c d.inputs.places (handed_cells d.on_loss g) kind n w fallen)
    ∙ ap (λ (b : Bool). if is_in_some d.alive kind n then cell_at (all_cells (is_some g)) kind n
    else (if b then shown_at_place (handed_cells d.on_loss g) kind n (cell_at c kind n) else cell_at c kind n))
    (d.inputs.filled kind n))

device_is_whole : (c : Cells) (d : Device) (g : Option Cells) → IsWhole c → IsWholeIf g → IsWhole (after_device c d g)
device_is_whole c d g w v =
    handed_is_whole (handed_over c d.inputs.places (handed_cells d.on_loss g)) d.alive (Some (all_cells (is_some g)))
    (handed_is_whole c d.inputs.places (handed_cells d.on_loss g) w (fallen_is_whole d.on_loss g v)) (all_is_whole (is_some g))

alive_in : (p : Option Places) (kind : Kind) (n : ℕ) → is_in_any (places_alive p) kind n ≡ is_in_some p kind n
alive_in None kind n = refl
alive_in (Some p) kind n = or_no (is_in p kind n)
  where
    or_no : (b : Bool) → (b || false) ≡ b
    or_no true = refl
    or_no false = refl

-- what a device fills
filled_in : (d : Device) (kind : Kind) (n : ℕ)
    → is_in_any (filled_by d) kind n ≡ (is_read d.inputs.readings.items kind n || is_in_some d.alive kind n)
filled_in d kind n =
    is_in_any-append (places_read d.inputs.readings.items) (places_alive d.alive) kind n
    ∙ (ap (λ b. b || is_in_any (places_alive d.alive) kind n) (is_in_any-read d.inputs.readings.items kind n)
    ∙ ap (λ b. is_read d.inputs.readings.items kind n || b) (alive_in d.alive kind n))

or_first : (a b : Bool) → (a || b) ≡ false → a ≡ false
or_first true b e = absurd cc
or_first false b e = refl

or_second : (a b : Bool) → (a || b) ≡ false → b ≡ false
or_second true b e = absurd cc
or_second false b e = e

-- a device gives nothing to what it doesn't fill
gives_no_other : (d : Device) (g : Option Cells) (kind : Kind) (n : ℕ) (before : Cell)
    → is_in_any (filled_by d) kind n ≡ false → given_by d g kind n before ≡ before
gives_no_other d g kind n before e =
    let both = sym (filled_in d kind n) ∙ e in
    let read : is_read d.inputs.readings.items kind n ≡ false = or_first (is_read d.inputs.readings.items kind n) (is_in_some d.alive kind n) both in
    let alive : is_in_some d.alive kind n ≡ false = or_second (is_read d.inputs.readings.items kind n) (is_in_some d.alive kind n) both in
    ap (λ (b : Bool). if b then cell_at (all_cells (is_some g)) kind n
    else (if is_read d.inputs.readings.items kind n then shown_at_place (handed_cells d.on_loss g) kind n before else before)) alive
    ∙ ap (λ (b : Bool). if b then shown_at_place (handed_cells d.on_loss g) kind n before else before) read

filled_list : List (Device × Option Cells) → List Places
filled_list xs = flat_map (λ x. filled_by x.0) xs

others_same : (c : Cells) (xs : List (Device × Option Cells)) (kind : Kind) (n : ℕ) → IsWhole c
    → AllByRecursion (λ x. IsWholeIf x.1) xs → is_filled xs kind n ≡ false
    → cell_at (after_devices c xs) kind n ≡ cell_at c kind n
others_same c [] kind n w v e = refl
others_same c (x ∷ xs) kind n w v e =
    let apart = sym (is_in_any-append (filled_by x.0) (flat_map (λ x. filled_by x.0) xs) kind n) ∙ e in
    others_same (after_device c x.0 x.1) xs kind n (device_is_whole c x.0 x.1 w v.0) v.1
    (or_second (is_in_any (filled_by x.0) kind n) (is_in_any (flat_map (λ x. filled_by x.0) xs) kind n) apart)
    ∙ (device_gives c x.0 x.1 kind n w v.0
    ∙ gives_no_other x.0 x.1 kind n (cell_at c kind n)
    (or_first (is_in_any (filled_by x.0) kind n) (is_in_any (flat_map (λ x. filled_by x.0) xs) kind n) apart))

-- what is in the places of one is in those of all
in_all : (xs : List (Device × Option Cells)) (i : ℕ) (d : Device) (g : Option Cells) (kind : Kind) (n : ℕ)
    → slice_get xs i ≡ Some (d, g) → is_in_any (filled_by d) kind n ≡ true
    → is_in_any (flat_map (λ x. filled_by x.0) xs) kind n ≡ true
in_all [] i d g kind n e h = absurd cc
in_all (x ∷ xs) zero d g kind n e h =
    is_in_any-append (filled_by x.0) (flat_map (λ x. filled_by x.0) xs) kind n
    ∙ or_left (is_in_any (filled_by x.0) kind n) (is_in_any (flat_map (λ x. filled_by x.0) xs) kind n)
    (ap (λ (y : Device × Option Cells). is_in_any (filled_by y.0) kind n) (same_Some x (d, g) e) ∙ h)
  where
    or_left : (a b : Bool) → a ≡ true → (a || b) ≡ true
    or_left true b e = refl
    or_left false b e = absurd cc
in_all (x ∷ xs) (suc i) d g kind n e h =
    is_in_any-append (filled_by x.0) (flat_map (λ x. filled_by x.0) xs) kind n
    ∙ or_right (is_in_any (filled_by x.0) kind n) (is_in_any (flat_map (λ x. filled_by x.0) xs) kind n)
    (in_all xs i d g kind n e h)
  where
    or_right : (a b : Bool) → b ≡ true → (a || b) ≡ true
    or_right true b e = refl
    or_right false b e = e

given_each : (c : Cells) (xs : List (Device × Option Cells)) (i : ℕ) (d : Device) (g : Option Cells) (kind : Kind) (n : ℕ)
    → IsWhole c → AllByRecursion (λ x. IsWholeIf x.1) xs → are_all_apart (flat_map (λ x. filled_by x.0) xs) ≡ true
    → slice_get xs i ≡ Some (d, g) → is_in_any (filled_by d) kind n ≡ true
    → cell_at (after_devices c xs) kind n ≡ given_by d g kind n (cell_at c kind n)
given_each c [] i d g kind n w v a e h = absurd cc
given_each c (x ∷ xs) zero d g kind n w v a e h =
    let here : x ≡ (d, g) = same_Some x (d, g) e in
    let mine : is_in_any (filled_by x.0) kind n ≡ true =
    ap (λ (y : Device × Option Cells). is_in_any (filled_by y.0) kind n) here ∙ h in
    others_same (after_device c x.0 x.1) xs kind n (device_is_whole c x.0 x.1 w v.0) v.1
    (in_front_alone (filled_by x.0) (flat_map (λ x. filled_by x.0) xs) kind n a mine)
    ∙ (device_gives c x.0 x.1 kind n w v.0
    ∙ ap (λ (y : Device × Option Cells). given_by y.0 y.1 kind n (cell_at c kind n)) here)
given_each c (x ∷ xs) (suc i) d g kind n w v a e h =
    let behind : is_in_any (flat_map (λ x. filled_by x.0) xs) kind n ≡ true = in_all xs i d g kind n e h in
    given_each (after_device c x.0 x.1) xs i d g kind n (device_is_whole c x.0 x.1 w v.0) v.1
    (apart_behind (filled_by x.0) (flat_map (λ x. filled_by x.0) xs) a) e h
    ∙ ap (given_by d g kind n) (device_gives c x.0 x.1 kind n w v.0
    ∙ gives_no_other x.0 x.1 kind n (cell_at c kind n)
    (bool_cases (is_in_any (filled_by x.0) kind n ≡ false) (is_in_any (filled_by x.0) kind n)
    (λ mine. let none : is_in_any (flat_map (λ x. filled_by x.0) xs) kind n ≡ false = in_front_alone (filled_by x.0) (flat_map (λ x. filled_by x.0) xs) kind n a mine in absurd cc)
    (λ no. no)))

pub each_given : IsEachGiven
each_given c xs w v a =
    record {
      given = λ i d g kind n e h. given_each c xs i d g kind n w v a e h;
      others = λ kind n e. others_same c xs kind n w v e;
    }
