-- What a cycle carries.
use Rattle.std.proofs.Common.{◌≡◌, ℕ, zero, suc, ◌-◌, Bool, true, false, List, [], ◌∷◌, ◌++◌, refl, sym, ◌∙◌, ap, subst}
use Rattle.std.specs.Prelude.{◌||◌, if◌then◌else◌, Option, Some, None, is_some, slice_get}
use Rattle.std.specs.List.{flat_map, list_all, AllByRecursion}
use Rattle.std.proofs.lemmas.Option.{same_Some}
use Rattle.il_model.specs.declared.cells.Cells.{Cells}
use Rattle.il_model.specs.Locations.{clear_cells}
use Rattle.modbus_wire.specs.declared.reply.Reply.{Reply}
use Rattle.field_map.specs.declared.places.Kind.{Kind}
use Rattle.field_map.specs.declared.places.Places.{Places}
use Rattle.field_map.specs.declared.reading.Reading.{Reading}
use Rattle.field_map.specs.declared.device.Device.{Device}
use Rattle.field_map.specs.Filled.{are_apart, is_in, is_in_some, is_in_any}
use Rattle.field_map.specs.Field.{filled_by, places_read, places_alive}
use Rattle.field_map.specs.Filled.{is_read, are_all_apart}
use Rattle.field_map.specs.Asking.{shown_by, after_some, all_cells}
use Rattle.field_map.specs.Carried.{gathered_by, with_gathered, after_cycle, HasAnswered, IsEachCarried, gathered_of}
use Rattle.field_map.specs.Carried.{value_read, AreShown, Cell, cell_at, IsWhole, IsWholeIf, given_by, shown_at_place}
use Rattle.field_map.specs.Carried.{HasGiven}
use Rattle.field_map.specs.Rounds.{handed_cells}
use Rattle.field_map.proofs.ApartLaws.{and_first, and_second, and_both, list_all-append, apart_behind, in_front_alone, is_in_any-append, is_in_any-read}
use Rattle.field_map.proofs.GatheredLaws.{choose_false, choose_true, reading_whole, each_gathered}
use Rattle.field_map.proofs.GivenLaws.{clear_is_whole, each_given}

gathered_whole : (rs : List Reading) (ys : List Reply) (c : Cells) → IsWhole c → IsWhole (gathered_of rs ys c)
gathered_whole [] ys c w = w
gathered_whole (r ∷ rs) [] c w = w
gathered_whole (r ∷ rs) (y ∷ ys) c w = gathered_whole rs ys (after_some c (shown_by r y)) (reading_whole r y c w)

by_whole : (d : Device) (a : Option (List Reply)) → IsWholeIf (gathered_by d a)
by_whole d None = tt
by_whole d (Some replies) = gathered_whole d.inputs.readings.items replies clear_cells clear_is_whole

each_whole : (xs : List (Device × Option (List Reply))) → AllByRecursion (λ x. IsWholeIf x.1) (with_gathered xs)
each_whole [] = tt
each_whole (x ∷ xs) = (by_whole x.0 x.1, each_whole xs)

same_places : (xs : List (Device × Option (List Reply)))
    → flat_map (λ x. filled_by x.0) (with_gathered xs) ≡ flat_map (λ x. filled_by x.0) xs
same_places [] = refl
same_places (x ∷ xs) = ap (λ (ps : List Places). filled_by x.0 ++ ps) (same_places xs)

nth_gathered : (xs : List (Device × Option (List Reply))) (i : ℕ) (d : Device) (a : Option (List Reply))
    → slice_get xs i ≡ Some (d, a) → slice_get (with_gathered xs) i ≡ Some (d, gathered_by d a)
nth_gathered [] i d a e = absurd cc
nth_gathered (x ∷ xs) zero d a e =
    ap (λ (y : Device × Option (List Reply)). Some (y.0, gathered_by y.0 y.1)) (same_Some x (d, a) e)
nth_gathered (x ∷ xs) (suc i) d a e = nth_gathered xs i d a e

nth_answered : (xs : List (Device × Option (List Reply))) (i : ℕ) (d : Device) (replies : List Reply)
    → AllByRecursion (λ x. HasAnswered x.0 x.1) xs → slice_get xs i ≡ Some (d, Some replies)
    → AreShown d.inputs.readings.items replies
nth_answered [] i d replies v e = absurd cc
nth_answered (x ∷ xs) zero d replies v e =
    subst (λ (y : Device × Option (List Reply)). HasAnswered y.0 y.1) (same_Some x (d, Some replies) e) v.0
nth_answered (x ∷ xs) (suc i) d replies v e = nth_answered xs i d replies v.1 e

-- those in front are apart
apart_front : (xs ys : List Places) → are_all_apart (xs ++ ys) ≡ true → are_all_apart xs ≡ true
apart_front [] ys e = refl
apart_front (x ∷ xs) ys e =
    and_both (list_all (are_apart x) xs) (are_all_apart xs)
    (and_first (list_all (are_apart x) xs) (list_all (are_apart x) ys) (sym (list_all-append (are_apart x) xs ys)
    ∙ and_first (list_all (are_apart x) (xs ++ ys)) (are_all_apart (xs ++ ys)) e))
    (apart_front xs ys (and_second (list_all (are_apart x) (xs ++ ys)) (are_all_apart (xs ++ ys)) e))

-- the places of one device are apart
own_apart : (xs : List (Device × Option (List Reply))) (i : ℕ) (d : Device) (a : Option (List Reply))
    → are_all_apart (flat_map (λ x. filled_by x.0) xs) ≡ true → slice_get xs i ≡ Some (d, a)
    → are_all_apart (filled_by d) ≡ true
own_apart [] i d a e h = absurd cc
own_apart (x ∷ xs) zero d a e h =
    ap (λ (y : Device × Option (List Reply)). are_all_apart (filled_by y.0)) (sym (same_Some x (d, a) h))
    ∙ apart_front (filled_by x.0) (flat_map (λ x. filled_by x.0) xs) e
own_apart (x ∷ xs) (suc i) d a e h =
    own_apart xs i d a (apart_behind (filled_by x.0) (flat_map (λ x. filled_by x.0) xs) e) h

or_left : (a b : Bool) → a ≡ true → (a || b) ≡ true
or_left true b e = refl
or_left false b e = absurd cc

or_right : (a b : Bool) → b ≡ true → (a || b) ≡ true
or_right true b e = refl
or_right false b e = e

or_nothing : (a : Bool) → a ≡ (a || false)
or_nothing true = refl
or_nothing false = refl

in_read : (rs : List Reading) (j : ℕ) (r : Reading) (kind : Kind) (n : ℕ) → slice_get rs j ≡ Some r
    → is_in r.places kind n ≡ true → is_in_any (places_read rs) kind n ≡ true
in_read [] j r kind n e h = absurd cc
in_read (q ∷ rs) zero r kind n e h =
    or_left (is_in q.places kind n) (is_in_any (places_read rs) kind n)
    (ap (λ (x : Reading). is_in x.places kind n) (same_Some q r e) ∙ h)
in_read (q ∷ rs) (suc j) r kind n e h =
    or_right (is_in q.places kind n) (is_in_any (places_read rs) kind n) (in_read rs j r kind n e h)

in_alive : (alive : Option Places) (kind : Kind) (n : ℕ) → is_in_some alive kind n ≡ is_in_any (places_alive alive) kind n
in_alive None kind n = refl
in_alive (Some p) kind n = or_nothing (is_in p kind n)

read_is_filled : (d : Device) (kind : Kind) (n : ℕ) → is_in_any (places_read d.inputs.readings.items) kind n ≡ true
    → is_in_any (filled_by d) kind n ≡ true
read_is_filled d kind n h =
    is_in_any-append (places_read d.inputs.readings.items) (places_alive d.alive) kind n
    ∙ or_left (is_in_any (places_read d.inputs.readings.items) kind n) (is_in_any (places_alive d.alive) kind n) h

alive_is_filled : (d : Device) (kind : Kind) (n : ℕ) → is_in_some d.alive kind n ≡ true
    → is_in_any (filled_by d) kind n ≡ true
alive_is_filled d kind n h =
    is_in_any-append (places_read d.inputs.readings.items) (places_alive d.alive) kind n
    ∙ or_right (is_in_any (places_read d.inputs.readings.items) kind n) (is_in_any (places_alive d.alive) kind n)
    (sym (in_alive d.alive kind n) ∙ h)

-- what a place of a reading is given
gives_read : (d : Device) (g : Option Cells) (kind : Kind) (n : ℕ) (before : Cell) → are_all_apart (filled_by d) ≡ true
    → is_in_any (places_read d.inputs.readings.items) kind n ≡ true
    → given_by d g kind n before ≡ shown_at_place (handed_cells d.on_loss g) kind n before
gives_read d g kind n before a h =
    choose_false (is_in_some d.alive kind n) (cell_at (all_cells (is_some g)) kind n)
    (if is_read d.inputs.readings.items kind n then shown_at_place (handed_cells d.on_loss g) kind n before else before)
    (in_alive d.alive kind n
    ∙ in_front_alone (places_read d.inputs.readings.items) (places_alive d.alive) kind n a h)
    ∙ choose_true (is_read d.inputs.readings.items kind n) (shown_at_place (handed_cells d.on_loss g) kind n before) before
    (sym (is_in_any-read d.inputs.readings.items kind n) ∙ h)

-- what a cycle gives to a place of a device
cycle_gives : (c : Cells) (xs : List (Device × Option (List Reply))) (i : ℕ) (d : Device) (a : Option (List Reply))
    (kind : Kind) (n : ℕ) → IsWhole c → are_all_apart (flat_map (λ x. filled_by x.0) xs) ≡ true
    → slice_get xs i ≡ Some (d, a) → is_in_any (filled_by d) kind n ≡ true
    → cell_at (after_cycle c xs) kind n ≡ given_by d (gathered_by d a) kind n (cell_at c kind n)
cycle_gives c xs i d a kind n w e h f =
    let all : HasGiven (with_gathered xs) c (after_cycle c xs) =
    each_given c (with_gathered xs) w (each_whole xs) (ap are_all_apart (same_places xs) ∙ e) in
    all.given i d (gathered_by d a) kind n (nth_gathered xs i d a h) f

carries_read : (c : Cells) (xs : List (Device × Option (List Reply))) (i : ℕ) (d : Device) (replies : List Reply) (j : ℕ)
    (r : Reading) (reply : Reply) (kind : Kind) (n : ℕ) → IsWhole c → AllByRecursion (λ x. HasAnswered x.0 x.1) xs
    → are_all_apart (flat_map (λ x. filled_by x.0) xs) ≡ true → slice_get xs i ≡ Some (d, Some replies)
    → slice_get d.inputs.readings.items j ≡ Some r → slice_get replies j ≡ Some reply → is_in r.places kind n ≡ true
    → cell_at (after_cycle c xs) kind n ≡ value_read r reply n
carries_read c xs i d replies j r reply kind n w v e h k l f =
    let own : are_all_apart (filled_by d) ≡ true = own_apart xs i d (Some replies) e h in
    let mine : is_in_any (places_read d.inputs.readings.items) kind n ≡ true = in_read d.inputs.readings.items j r kind n k f in
    cycle_gives c xs i d (Some replies) kind n w e h (read_is_filled d kind n mine)
    ∙ (gives_read d (gathered_by d (Some replies)) kind n (cell_at c kind n) own mine
    ∙ each_gathered d.inputs.readings.items replies clear_cells clear_is_whole
    (apart_front (places_read d.inputs.readings.items) (places_alive d.alive) own)
    (nth_answered xs i d replies v h) j r reply kind n k l f)

carries_lost : (c : Cells) (xs : List (Device × Option (List Reply))) (i : ℕ) (d : Device) (kind : Kind) (n : ℕ) → IsWhole c
    → are_all_apart (flat_map (λ x. filled_by x.0) xs) ≡ true → slice_get xs i ≡ Some (d, None)
    → is_in_any (places_read d.inputs.readings.items) kind n ≡ true
    → cell_at (after_cycle c xs) kind n ≡ shown_at_place (handed_cells d.on_loss None) kind n (cell_at c kind n)
carries_lost c xs i d kind n w e h mine =
    cycle_gives c xs i d None kind n w e h (read_is_filled d kind n mine)
    ∙ gives_read d None kind n (cell_at c kind n) (own_apart xs i d None e h) mine

answers_same : (d : Device) (a : Option (List Reply)) → is_some (gathered_by d a) ≡ is_some a
answers_same d None = refl
answers_same d (Some replies) = refl

carries_alive : (c : Cells) (xs : List (Device × Option (List Reply))) (i : ℕ) (d : Device) (a : Option (List Reply))
    (p : Places) (kind : Kind) (n : ℕ) → IsWhole c → are_all_apart (flat_map (λ x. filled_by x.0) xs) ≡ true
    → slice_get xs i ≡ Some (d, a) → d.alive ≡ Some p → is_in p kind n ≡ true
    → cell_at (after_cycle c xs) kind n ≡ cell_at (all_cells (is_some a)) kind n
carries_alive c xs i d a p kind n w e h k f =
    let mine : is_in_some d.alive kind n ≡ true = ap (λ (o : Option Places). is_in_some o kind n) k ∙ f in
    cycle_gives c xs i d a kind n w e h (alive_is_filled d kind n mine)
    ∙ (choose_true (is_in_some d.alive kind n) (cell_at (all_cells (is_some (gathered_by d a))) kind n)
    (if is_read d.inputs.readings.items kind n
    then shown_at_place (handed_cells d.on_loss (gathered_by d a)) kind n (cell_at c kind n) else cell_at c kind n) mine
    ∙ ap (λ (b : Bool). cell_at (all_cells b) kind n) (answers_same d a))

carries_others : (c : Cells) (xs : List (Device × Option (List Reply))) (kind : Kind) (n : ℕ) → IsWhole c
    → are_all_apart (flat_map (λ x. filled_by x.0) xs) ≡ true
    → is_in_any (flat_map (λ x. filled_by x.0) xs) kind n ≡ false
    → cell_at (after_cycle c xs) kind n ≡ cell_at c kind n
carries_others c xs kind n w e h =
    let all : HasGiven (with_gathered xs) c (after_cycle c xs) =
    each_given c (with_gathered xs) w (each_whole xs) (ap are_all_apart (same_places xs) ∙ e) in
    all.others kind n (ap (λ (ps : List Places). is_in_any ps kind n) (same_places xs) ∙ h)

pub each_carried : IsEachCarried
each_carried c xs w v e =
    record {
      read = λ i d replies j r reply kind n h k l f. carries_read c xs i d replies j r reply kind n w v e h k l f;
      lost = λ i d kind n h f. carries_lost c xs i d kind n w e h f;
      alive = λ i d a p kind n h k f. carries_alive c xs i d a p kind n w e h k f;
      others = λ kind n h. carries_others c xs kind n w e h;
    }
