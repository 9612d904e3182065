-- What a round gathers.
use Rattle.std.proofs.Common.{◌≡◌, ℕ, suc, ◌+◌, ◌-◌, ◌^◌, ◌<◌, Bool, true, false, List, [], ◌∷◌, ◌++◌, refl, sym, ◌∙◌, ap, arith, length, length-append, append_assoc}
use Rattle.std.specs.Prelude.{nat_lt, if◌then◌else◌, Option, Some, None, is_some, slice_get, option_and_then}
use Rattle.std.proofs.lemmas.Grind.{common_steps}
use Rattle.std.proofs.lemmas.Bool.Decides.{nat_tests}
use Rattle.io_image.specs.Book.{Change}
use Rattle.modbus_wire.specs.declared.reply.Reply.{Reply}
use Rattle.field_map.specs.declared.device.Device.{Device}
use Rattle.field_map.specs.declared.reading.Reading.{Reading}
use Rattle.field_map.specs.Asking.{shown_by, after_some}
use Rattle.field_map.specs.Carried.{gathered_of, AreShown}
use Rattle.field_map.specs.Rounds.{steps_of, taken_at, is_taken_at, is_done}
use Rattle.field_cycle.specs.declared.round.Round.{Round}
use Rattle.field_cycle.specs.Links.{later}
use Rattle.field_cycle.specs.Rounds.{taken, next_step, taken_all, IsEachRoundGathered}

seam : {A : Type 0} (xs : List A) (y : A) (ys : List A) → slice_get (xs ++ y ∷ ys) (length xs) ≡ Some y
seam [] y ys = refl
seam (x ∷ xs) y ys = seam xs y ys

choose_false : {A : Type 0} (b : Bool) (x y : A) → b ≡ false → (if b then x else y) ≡ y
choose_false true x y e = absurd cc
choose_false false x y e = refl

choose_true : {A : Type 0} (b : Bool) (x y : A) → b ≡ true → (if b then x else y) ≡ x
choose_true true x y e = refl
choose_true false x y e = absurd cc

not_below : (w n : ℕ) → nat_lt (w + n) w ≡ false
not_below w n = grind (arith, nat_tests)

next_number : (n : ℕ) → n < 2 ^ 64 - 1 → later n 1 ≡ n + 1
next_number n h = omega arith

-- the step of a reading
reads_at : (d : Device) (pre : List Reading) (q : Reading) (qs : List Reading) (step : ℕ) (y : Reply)
    → d.inputs.readings.items ≡ pre ++ q ∷ qs → step ≡ length d.writings.items + length pre
    → taken_at d step y ≡ shown_by q y
reads_at d pre q qs step y is at =
    ap (λ n. taken_at d n y) at
    ∙ (choose_false (nat_lt (length d.writings.items + length pre) (length d.writings.items)) None
    (option_and_then (λ r. shown_by r y) (slice_get d.inputs.readings.items (length d.writings.items + length pre - length d.writings.items)))
    (not_below (length d.writings.items) (length pre))
    ∙ (ap (λ (n : ℕ). option_and_then (λ r. shown_by r y) (slice_get d.inputs.readings.items n)) (omega arith)
    ∙ (ap (λ (rs : List Reading). option_and_then (λ r. shown_by r y) (slice_get rs (length pre))) is
    ∙ ap (λ (o : Option Reading). option_and_then (λ r. shown_by r y) o) (seam pre q qs))))

is_read_at : (d : Device) (pre : List Reading) (step : ℕ) (y : Reply) → step ≡ length d.writings.items + length pre
    → is_taken_at d step y ≡ is_some (taken_at d step y)
is_read_at d pre step y at =
    choose_false (nat_lt step (length d.writings.items)) (is_done y) (is_some (taken_at d step y))
    (ap (λ n. nat_lt n (length d.writings.items)) at ∙ not_below (length d.writings.items) (length pre))

gathers : (d : Device) (pre rs : List Reading) (replies : List Reply) (r : Round) → steps_of d < 2 ^ 64
    → d.inputs.readings.items ≡ pre ++ rs → r.step ≡ length d.writings.items + length pre → AreShown rs replies
    → ((taken_all d r replies).gathered ≡ gathered_of rs replies r.gathered)
    × ((taken_all d r replies).step ≡ length d.writings.items + length pre + length rs)
gathers d pre [] [] r few is at s = (refl, at ∙ omega arith)
gathers d pre [] (y ∷ ys) r few is at s = absurd s
gathers d pre (q ∷ qs) [] r few is at s = absurd s
gathers d pre (q ∷ qs) (y ∷ ys) r few is at s =
    let shows : taken_at d r.step y ≡ shown_by q y = reads_at d pre q qs r.step y is at in
    let takes : is_taken_at d r.step y ≡ true = is_read_at d pre r.step y at ∙ (ap is_some shows ∙ s.0) in
    let many : length d.inputs.readings.items ≡ length pre + suc (length qs) = ap length is ∙ length-append pre (q ∷ qs) in
    let next : taken d r y ≡ next_step d r y = choose_true (is_taken_at d r.step y) (next_step d r y) r takes in
    let step : (next_step d r y).step ≡ length d.writings.items + length (pre ++ q ∷ []) =
    next_number r.step (omega arith) ∙ (ap (λ n. n + 1) at ∙ grind (arith, common_steps)) in
    let rest = gathers d (pre ++ q ∷ []) qs ys (next_step d r y) few (is ∙ sym (append_assoc pre (q ∷ []) qs)) step s.1 in (
      ap (λ (t : Round). (taken_all d t ys).gathered) next
          ∙ (rest.0 ∙ ap (λ (o : Option Change). gathered_of qs ys (after_some r.gathered o)) shows),
      ap (λ (t : Round). (taken_all d t ys).step) next ∙ (rest.1 ∙ grind (arith, common_steps)),
    )

pub each_round : IsEachRoundGathered
each_round d r replies few at s =
    let all = gathers d [] d.inputs.readings.items replies r few refl (at ∙ omega arith) s in
    (all.0, all.1 ∙ omega arith)
