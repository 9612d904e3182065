-- Each reader takes exactly the texts of the values that have one: the parts of a snapshot.
use Rattle.std.proofs.Common.{◌≡◌, ℕ, zero, suc, ◌+◌, ◌^◌, ◌<◌, Bool, true, false, cond, List, [], ◌∷◌, ◌++◌, length, Option, Some, None, refl, sym, ap, subst, ◌∙◌, append_assoc, arith, lit<}
use Rattle.std.specs.Prelude.{slice_get, find, nat_eq, is_none, ◌&&◌, ◌==◌}
use Rattle.std.specs.Int.{w8, w16, w32, w64, to_be_bytes}
use Rattle.std.specs.List.{flat_map, AllByRecursion}
use Rattle.std.proofs.lemmas.Bool.{eqb-true, leb-true, le-leb}
use Rattle.std.proofs.lemmas.List.{nil_from_length}
use Rattle.il_values.specs.declared.value.Value.{Value}
use Rattle.il_values.specs.declared.op.Op.{Op}
use Rattle.il_values.specs.declared.op.Op.TheVariants as ops
use Rattle.il_model.specs.declared.kind.BlockKind.{BlockKind}
use Rattle.il_model.specs.declared.kind.BlockKind.TheVariants as kinds
use Rattle.il_model.specs.declared.fetched.Deferred.{Deferred}
use Rattle.il_model.specs.declared.snapshot.ForcedSlot.{ForcedSlot}
use Rattle.il_model.specs.declared.snapshot.SavedPhase.{SavedPhase}
use Rattle.il_model.specs.declared.snapshot.SavedPhase.TheVariants as phases
use Rattle.il_model.specs.Snapshots.{SavedBlock, SavedController}
use Rattle.il_model.specs.Kinds.{block_kinds, kind_code, kind_of_code, input_count}
use Rattle.il_values.specs.OpCodes.{op_code}
use Rattle.il_values.specs.OpCodes.{op_list, op_of}
use Rattle.vr_wire.specs.Fields.{bit_number, listed, counted, value_bytes, FitsValue}
use Rattle.vr_wire.specs.Reading.{◌>>=◌, number_at, counted_at, fields_4, lawful, passed, read_by, stop_of, listed_at, value_at}
use Rattle.vr_wire.specs.Snapshots.{phase_code, phase_stop, phase_performed, phase_bytes, result_bytes, deferred_bytes, scan_bytes, areas_bytes, block_bytes, force_bytes, tables_bytes, snapshot_bytes, rises_from, FitsPhase, FitsResult, may_open, IsOpening, FitsDeferred, IsAtRest, IsScan, FitsScan, FitsAreas, IsBlock, FitsBlock, FitsForce, IsTables, FitsTables, IsSnapshot, FitsSnapshot}
use Rattle.vr_wire.specs.SnapshotReading.{phase_of, Placed, PhaseNumbers, numbers_at, placed_of, placed_at, result_readers, result_at, opening, truth_of, there, deferred_at, is_depth, deferred_list_at, OpenScan, is_at_rest, is_scan, any_scan_at, scan_at, Areas, areas_at, parts_of_at, block_at, force_at, breaks_at, slots_rise, forces_at, Tables, tables_at, snapshot_of, snapshot_at}
use Rattle.il_model.proofs.Lawful.{listed as op_listed, op_below}
use Rattle.il_values.proofs.OpCodes.{op_is}
use Rattle.vr_wire.proofs.Values.{some_yes}
use Rattle.vr_wire.proofs.Fields.{IsBytes, bind_some, some_is, Takes, Takes-then, IsInverse, number8, number16, number32, number64, took_0, took_1, took_2, took_3, took_4, again_1, again_2, again_3, again_4, lawful_inverse, tagged_takes, tagged_again}
use Rattle.vr_wire.proofs.Formats.{listed_inverse, counted_inverse, bytes_inverse, passing, cells_inverse, value_inverse, slot_inverse, stop_sound, stop_again}

-- a list whose items are what two facts say
pub apart : {X : Type 0} (p q : X → Type 0) (xs : List X) → AllByRecursion (λ x. p x × q x) xs → AllByRecursion p xs × AllByRecursion q xs
apart p q [] all = (tt, tt)
apart p q (x ∷ xs) all = let others = apart p q xs all.1 in ((all.0.0, others.0), (all.0.1, others.1))

pub together : {X : Type 0} (p q : X → Type 0) (xs : List X) → AllByRecursion p xs → AllByRecursion q xs → AllByRecursion (λ x. p x × q x) xs
together p q [] ps qs = tt
together p q (x ∷ xs) ps qs = ((ps.0, qs.0), together p q xs ps.1 qs.1)

-- ---- the open scan

phase_sound : (code stop performed : ℕ) (x : SavedPhase) → performed < 2 ^ 32 → phase_of code stop performed ≡ Some x → (phase_code x ≡ code) × (phase_stop x ≡ stop) × (phase_performed x ≡ performed) × FitsPhase x
phase_sound zero zero zero x lt e = let is : phases.Idle ≡ x = cc in (sym (ap phase_code is), sym (ap phase_stop is), sym (ap phase_performed is), subst FitsPhase is tt)
phase_sound zero zero (suc p) x lt e = absurd cc
phase_sound zero (suc s) p x lt e = absurd cc
phase_sound (suc zero) zero p x lt e = let is : phases.Held p ≡ x = cc in (sym (ap phase_code is), sym (ap phase_stop is), sym (ap phase_performed is), subst FitsPhase is lt)
phase_sound (suc zero) (suc s) p x lt e = absurd cc
phase_sound (suc (suc zero)) stop zero x lt e =
    let b = bind_some (stop_of stop) (λ s. Some (phases.Stopped s)) x e in
    let is : phases.Stopped b.0 ≡ x = cc in
    (sym (ap phase_code is), sym (ap phase_stop is) ∙ stop_sound stop b.0 b.1, sym (ap phase_performed is), subst FitsPhase is tt)
phase_sound (suc (suc zero)) stop (suc p) x lt e = absurd cc
phase_sound (suc (suc (suc n))) stop p x lt e = absurd cc

record FitsNumbers (n : PhaseNumbers) : Type 0 where
  code : n.code < 2 ^ 8
  stop : n.stop < 2 ^ 8
  position : n.position < 2 ^ 16
  performed : n.performed < 2 ^ 32

abbrev numbers_text : PhaseNumbers → List ℕ
numbers_text n = to_be_bytes w8 n.code ++ (to_be_bytes w8 n.stop ++ (to_be_bytes w16 n.position ++ to_be_bytes w32 n.performed))

numbers_inverse : IsInverse numbers_text FitsNumbers numbers_at
numbers_inverse = record {
  takes = λ bytes n rest fits e.
      let t = took_4 (λ code stop position performed. record { code = code; stop = stop; position = position; performed = performed }) number8 number8 number16 number32 bytes n rest fits e in
      subst (λ (y : PhaseNumbers). Takes bytes (numbers_text y) rest × FitsNumbers y) (sym t.is) (t.took, record { code = t.fits_one; stop = t.fits_two; position = t.fits_three; performed = t.fits_four });
  again = λ n rest fits. again_4 (λ code stop position performed. record { code = code; stop = stop; position = position; performed = performed }) number8 number8 number16 number32 n.code n.stop n.position n.performed rest fits.code fits.stop fits.position fits.performed;
}

abbrev numbers_of : Placed → PhaseNumbers
numbers_of p = record { code = phase_code p.phase; stop = phase_stop p.phase; position = p.position; performed = phase_performed p.phase }

abbrev FitsPlaced : Placed → Type 0
FitsPlaced p = FitsPhase p.phase × (p.position < 2 ^ 16)

placed_sound : (n : PhaseNumbers) (x : Placed) → FitsNumbers n → placed_of n ≡ Some x → (numbers_of x ≡ n) × FitsPlaced x
placed_sound n x fits e =
    let b = bind_some (phase_of n.code n.stop n.performed) (λ (phase : SavedPhase). Some (record { phase = phase; position = n.position })) x e in
    let s = phase_sound n.code n.stop n.performed b.0 fits.performed b.1 in
    let made : Placed = record { phase = b.0; position = n.position } in
    let is : made ≡ x = some_is made x b.2 in
    let same : numbers_of made ≡ n = rw (s.0, s.1, s.2) refl in
    (sym (ap numbers_of is) ∙ same, subst FitsPlaced is (s.3, fits.position))

placed_again : (phase : SavedPhase) (position : ℕ) → FitsPhase phase → position < 2 ^ 16 → FitsNumbers (numbers_of (record { phase = phase; position = position })) × (placed_of (numbers_of (record { phase = phase; position = position })) ≡ Some (record { phase = phase; position = position }))
placed_again phases.Idle position fits lt = (record { code = lit< tt; stop = lit< tt; position = lt; performed = lit< tt }, refl)
placed_again (phases.Held performed) position fits lt = (record { code = lit< tt; stop = lit< tt; position = lt; performed = fits }, refl)
placed_again (phases.Stopped stop) position fits lt = let s = stop_again stop in (record { code = lit< tt; stop = s.0; position = lt; performed = lit< tt }, rw s.1 refl)

placed_inverse : IsInverse (λ (p : Placed). phase_bytes p.phase p.position) FitsPlaced placed_at
placed_inverse = lawful_inverse numbers_inverse (record { sound = placed_sound; complete = λ p fits. placed_again p.phase p.position fits.0 fits.1 })

-- ---- current results

result_take : (tag : ℕ) (bytes : List ℕ) (x : Option Value) (rest : List ℕ) → IsBytes bytes → read_by (slice_get result_readers tag) bytes ≡ Some (x, rest)
    → (text : List ℕ) × (result_bytes x ≡ to_be_bytes w8 tag ++ text) × Takes bytes text rest × FitsResult x
result_take zero bytes x rest fits e =
    let none : Option Value = None in
    let t = took_0 none bytes x rest fits e in
    ([], ap result_bytes t.0, t.1, subst FitsResult (sym t.0) tt)
result_take (suc zero) bytes x rest fits e =
    let t = took_1 (λ v. Some v) value_inverse bytes x rest fits e in
    (value_bytes t.one, ap result_bytes t.is, t.took, subst FitsResult (sym t.is) t.fits_one)
result_take (suc (suc tag)) bytes x rest fits e = absurd cc

result_again : (x : Option Value) (rest : List ℕ) → FitsResult x → result_at (result_bytes x ++ rest) ≡ Some (x, rest)
result_again None rest fits = tagged_again result_readers 0 [] rest None (lit< tt) refl
result_again (Some v) rest fits = tagged_again result_readers 1 (value_bytes v) rest (Some v) (lit< tt) (again_1 (λ v. Some v) value_inverse v rest fits)

result_inverse : IsInverse result_bytes FitsResult result_at
result_inverse = record {
  takes = λ bytes x rest fits e.
      let s = tagged_takes result_readers bytes x rest fits e in
      let t = result_take s.0 s.1 x rest s.2.rest_fits s.3 in
      (subst (λ (text : List ℕ). Takes bytes text rest) (sym t.1) (Takes-then bytes (to_be_bytes w8 s.0) s.1 t.0 rest s.2 t.2), t.3);
  again = result_again;
}

there_sound : (cr : Option Value) (v : Value) → FitsResult cr → there cr ≡ Some v → (Some v ≡ cr) × FitsValue v
there_sound None v fits e = absurd cc
there_sound (Some x) v fits e = let is : x ≡ v = cc in (ap (λ (y : Value). Some y) (sym is), subst FitsValue is fits)

there_inverse : IsInverse (λ v. result_bytes (Some v)) FitsValue (lawful there result_at)
there_inverse = lawful_inverse {code = λ (v : Value). Some v} result_inverse (record { sound = there_sound; complete = λ v fits. (fits, refl) })

-- ---- deferred operators

opening_sound : (n : ℕ) (op : Op) → n < 2 ^ 8 → opening n ≡ Some op → (op_code op ≡ n) × (may_open op ≡ true)
opening_sound n op lt e =
    let b = bind_some (op_of n) (passed may_open) op e in
    let y = some_yes (may_open b.0) b.0 op b.2 in
    (ap op_code (sym y.1) ∙ op_is n b.0 b.1, ap may_open (sym y.1) ∙ y.0)

opening_again : (op : Op) → may_open op ≡ true → opening (op_code op) ≡ Some op
opening_again op opens = rw (op_listed op, opens) refl

truth_sound : (n : ℕ) (b : Bool) → truth_of n ≡ Some b → bit_number b ≡ n
truth_sound zero b e = let is : false ≡ b = cc in sym (ap bit_number is)
truth_sound (suc zero) b e = let is : true ≡ b = cc in sym (ap bit_number is)
truth_sound (suc (suc n)) b e = absurd cc

truth_again : (b : Bool) → (bit_number b < 2 ^ 8) × (truth_of (bit_number b) ≡ Some b)
truth_again true = (lit< tt, refl)
truth_again false = (lit< tt, refl)

opening_inverse : IsInverse (λ op. to_be_bytes w8 (op_code op)) (λ op. may_open op ≡ true) (lawful opening (number_at w8))
opening_inverse = lawful_inverse number8 (record { sound = opening_sound; complete = λ op opens. (op_below op, opening_again op opens) })

truth_inverse : IsInverse (λ b. to_be_bytes w8 (bit_number b)) (λ b. Unit {0}) (lawful truth_of (number_at w8))
truth_inverse = lawful_inverse number8 (record { sound = λ n b lt e. (truth_sound n b e, tt); complete = λ b fits. truth_again b })

deferred_inverse : IsInverse deferred_bytes (λ d. IsOpening d × FitsDeferred d) deferred_at
deferred_inverse = record {
  takes = λ bytes d rest fits e.
      let t = took_3 (λ op negated cr. record { op = op; negated = negated; cr = cr }) opening_inverse truth_inverse there_inverse bytes d rest fits e in
      subst (λ (y : Deferred). Takes bytes (deferred_bytes y) rest × (IsOpening y × FitsDeferred y)) (sym t.is) (t.took, (t.fits_one, t.fits_three));
  again = λ d rest fits. again_3 (λ op negated cr. record { op = op; negated = negated; cr = cr }) opening_inverse truth_inverse there_inverse d.op d.negated d.cr rest fits.0 tt fits.1;
}

-- at most sixteen are
abbrev IsDepth : ℕ → Type 0
IsDepth n = (n < 2 ^ 8) × (is_depth n ≡ true)

deferred_list : IsInverse (listed w8 deferred_bytes) (λ xs. IsDepth (length xs) × AllByRecursion (λ d. IsOpening d × FitsDeferred d) xs) deferred_list_at
deferred_list = listed_inverse w8 (passing is_depth number8) deferred_inverse

-- ---- what is open of a scan

abbrev open_bytes : OpenScan → List ℕ
open_bytes s = scan_bytes s.phase s.position s.cr s.deferred

record FitsAnyScan (s : OpenScan) : Type 0 where
  phase : FitsPhase s.phase
  position : s.position < 2 ^ 16
  cr : FitsResult s.cr
  depth : IsDepth (length s.deferred)
  deferred : AllByRecursion (λ d. IsOpening d × FitsDeferred d) s.deferred

any_scan_inverse : IsInverse open_bytes FitsAnyScan any_scan_at
any_scan_inverse = record {
  takes = λ bytes s rest fits e.
      let t = took_3 (λ placed cr deferred. record { phase = placed.phase; position = placed.position; cr = cr; deferred = deferred }) placed_inverse result_inverse deferred_list bytes s rest fits e in
      subst (λ (y : OpenScan). Takes bytes (open_bytes y) rest × FitsAnyScan y) (sym t.is) (t.took, record { phase = t.fits_one.0; position = t.fits_one.1; cr = t.fits_two; depth = t.fits_three.0; deferred = t.fits_three.1 });
  again = λ s rest fits.
      again_3 (λ placed cr deferred. record { phase = placed.phase; position = placed.position; cr = cr; deferred = deferred }) placed_inverse result_inverse deferred_list (record { phase = s.phase; position = s.position }) s.cr s.deferred rest (fits.phase, fits.position) fits.cr (fits.depth, fits.deferred);
}

three : (a b c : Bool) → (a && (b && c)) ≡ true → (a ≡ true) × (b ≡ true) × (c ≡ true)
three true true true e = (refl, refl, refl)
three true true false e = absurd cc
three true false c e = absurd cc
three false b c e = absurd cc

no_result : (cr : Option Value) → is_none cr ≡ true → cr ≡ None
no_result None e = refl
no_result (Some v) e = absurd cc

pub rest_sound : (phase : SavedPhase) (position : ℕ) (cr : Option Value) (deferred : List Deferred) → is_at_rest phase position cr deferred ≡ true → IsAtRest phase position cr deferred
rest_sound phases.Idle position cr deferred e =
    let t = three (position == 0) (is_none cr) (length deferred == 0) e in
    (eqb-true position 0 t.0, no_result cr t.1, nil_from_length deferred (eqb-true (length deferred) 0 t.2))
rest_sound (phases.Held performed) position cr deferred e = tt
rest_sound (phases.Stopped stop) position cr deferred e = tt

pub rest_again : (phase : SavedPhase) (position : ℕ) (cr : Option Value) (deferred : List Deferred) → IsAtRest phase position cr deferred → is_at_rest phase position cr deferred ≡ true
rest_again phases.Idle position cr deferred h = rw (h.0, h.1, h.2) refl
rest_again (phases.Held performed) position cr deferred h = refl
rest_again (phases.Stopped stop) position cr deferred h = refl

record FitsOpenScan (s : OpenScan) : Type 0 where
  lawful : IsScan s.phase s.position s.cr s.deferred
  fits : FitsScan s.phase s.position s.cr s.deferred

scan_inverse : IsInverse open_bytes FitsOpenScan scan_at
scan_inverse =
    let one = passing is_scan any_scan_inverse in
    record {
      takes = λ bytes s rest fits e.
          let t = one.takes bytes s rest fits e in
          let all = apart IsOpening FitsDeferred s.deferred t.1.0.deferred in (
            t.0,
            record {
              lawful = record { depth = leb-true (length s.deferred) 16 t.1.0.depth.1; opening = all.0; at_rest = rest_sound s.phase s.position s.cr s.deferred t.1.1 };
              fits = record { phase = t.1.0.phase; position = t.1.0.position; cr = t.1.0.cr; deferred = all.1 };
            },
          );
      again = λ s rest fits.
          let depth : IsDepth (length s.deferred) = (omega (arith, fits.lawful.depth), le-leb (length s.deferred) 16 fits.lawful.depth) in
          one.again s rest (
            record { phase = fits.fits.phase; position = fits.fits.position; cr = fits.fits.cr; depth = depth; deferred = together IsOpening FitsDeferred s.deferred fits.lawful.opening fits.fits.deferred },
            rest_again s.phase s.position s.cr s.deferred fits.lawful.at_rest,
          );
    }

-- ---- the areas

areas_inverse : IsInverse (λ (a : Areas). areas_bytes a.input a.output a.memory) (λ (a : Areas). FitsAreas a.input a.output a.memory) areas_at
areas_inverse = record {
  takes = λ bytes areas rest fits e.
      let t = took_3 (λ input output memory. record { input = input; output = output; memory = memory }) cells_inverse cells_inverse cells_inverse bytes areas rest fits e in
      subst (λ (a : Areas). Takes bytes (areas_bytes a.input a.output a.memory) rest × FitsAreas a.input a.output a.memory) (sym t.is) (t.took, record { input = t.fits_one; output = t.fits_two; memory = t.fits_three });
  again = λ areas rest fits. again_3 (λ input output memory. record { input = input; output = output; memory = memory }) cells_inverse cells_inverse cells_inverse areas.input areas.output areas.memory rest fits.input fits.output fits.memory;
}

-- ---- instances

found_by : {X : Type 0} (p : X → Bool) (b : Bool) (x : X) (o : Option X) (y : X) → p x ≡ b → cond b (Some x) o ≡ Some y → (o ≡ Some y → p y ≡ true) → p y ≡ true
found_by p true x o y e h ih = let is : x ≡ y = cc in ap p (sym is) ∙ e
found_by p false x o y e h ih = ih h

found_passes : {X : Type 0} (p : X → Bool) (xs : List X) (y : X) → find p xs ≡ Some y → p y ≡ true
found_passes p [] y e = absurd cc
found_passes p (x ∷ xs) y e = found_by p (p x) x (find p xs) y refl e (λ h. found_passes p xs y h)

kind_is : (n : ℕ) (kind : BlockKind) → kind_of_code n ≡ Some kind → kind_code kind ≡ n
kind_is n kind e = eqb-true (kind_code kind) n (found_passes (λ (k : BlockKind). nat_eq (kind_code k) n) block_kinds kind e)

kind_again : (kind : BlockKind) → (kind_code kind < 2 ^ 8) × (kind_of_code (kind_code kind) ≡ Some kind)
kind_again kinds.Sr = (lit< tt, refl)
kind_again kinds.Rs = (lit< tt, refl)
kind_again kinds.RTrig = (lit< tt, refl)
kind_again kinds.FTrig = (lit< tt, refl)
kind_again kinds.Ctu = (lit< tt, refl)
kind_again kinds.Ctd = (lit< tt, refl)
kind_again kinds.Ctud = (lit< tt, refl)
kind_again kinds.Tp = (lit< tt, refl)
kind_again kinds.Ton = (lit< tt, refl)
kind_again kinds.Tof = (lit< tt, refl)

kind_inverse : IsInverse (λ kind. to_be_bytes w8 (kind_code kind)) (λ kind. Unit {0}) (lawful kind_of_code (number_at w8))
kind_inverse = lawful_inverse number8 (record { sound = λ n kind lt e. (kind_is n kind e, tt); complete = λ kind fits. kind_again kind })

block_take : (bytes : List ℕ) (b : SavedBlock) (rest : List ℕ) → IsBytes bytes → block_at bytes ≡ Some (b, rest) → Takes bytes (block_bytes b) rest × (IsBlock b × FitsBlock b)
block_take bytes b rest fits e =
    let s = bind_some (lawful kind_of_code (number_at w8) bytes) (λ (kind : BlockKind × List ℕ). parts_of_at kind.0 kind.1) (b, rest) e in
    let k = kind_inverse.takes bytes s.0.0 s.0.1 fits s.1 in
    let t = took_2 (λ inputs words. record { kind = s.0.0; inputs = inputs; words = words }) (counted_inverse (input_count s.0.0) value_inverse) (counted_inverse 4 number64) s.0.1 b rest k.0.rest_fits s.2 in
    subst (λ (y : SavedBlock). Takes bytes (block_bytes y) rest × (IsBlock y × FitsBlock y)) (sym t.is) (Takes-then bytes (to_be_bytes w8 (kind_code s.0.0)) s.0.1 (flat_map value_bytes t.one ++ flat_map (to_be_bytes w64) t.two) rest k.0 t.took, (t.fits_one.0, record { inputs = t.fits_one.1; four = t.fits_two.0; words = t.fits_two.1 }))

block_again : (b : SavedBlock) (rest : List ℕ) → IsBlock b × FitsBlock b → block_at (block_bytes b ++ rest) ≡ Some (b, rest)
block_again b rest fits =
    let parts = flat_map value_bytes b.inputs ++ flat_map (to_be_bytes w64) b.words in
    let first : lawful kind_of_code (number_at w8) (block_bytes b ++ rest) ≡ Some (b.kind, parts ++ rest) = ap (lawful kind_of_code (number_at w8)) (append_assoc (to_be_bytes w8 (kind_code b.kind)) parts rest) ∙ kind_inverse.again b.kind (parts ++ rest) tt in
    rw first (again_2 (λ inputs words. record { kind = b.kind; inputs = inputs; words = words }) (counted_inverse (input_count b.kind) value_inverse) (counted_inverse 4 number64) b.inputs b.words rest (fits.0, fits.1.inputs) (fits.1.four, fits.1.words))

block_inverse : IsInverse block_bytes (λ b. IsBlock b × FitsBlock b) block_at
block_inverse = record { takes = block_take; again = block_again }

-- ---- the tables

force_inverse : IsInverse force_bytes FitsForce force_at
force_inverse = record {
  takes = λ bytes f rest fits e.
      let t = took_2 (λ slot value. record { slot = slot; value = value }) slot_inverse value_inverse bytes f rest fits e in
      subst (λ (y : ForcedSlot). Takes bytes (force_bytes y) rest × FitsForce y) (sym t.is) (t.took, record { slot = t.fits_one; value = t.fits_two });
  again = λ f rest fits. again_2 (λ slot value. record { slot = slot; value = value }) slot_inverse value_inverse f.slot f.value rest fits.slot fits.value;
}

variables_inverse : IsInverse (listed w16 value_bytes) (λ xs. (length xs < 2 ^ 16) × AllByRecursion FitsValue xs) (listed_at (number_at w16) value_at)
variables_inverse = listed_inverse w16 number16 value_inverse

instances_inverse : IsInverse (listed w16 block_bytes) (λ xs. (length xs < 2 ^ 16) × AllByRecursion (λ b. IsBlock b × FitsBlock b) xs) (listed_at (number_at w16) block_at)
instances_inverse = listed_inverse w16 number16 block_inverse

breaks_inverse : IsInverse (listed w16 (to_be_bytes w16)) (λ xs. ((length xs < 2 ^ 16) × AllByRecursion (λ n. n < 2 ^ 16) xs) × (rises_from 0 xs ≡ true)) breaks_at
breaks_inverse = passing (rises_from 0) (listed_inverse w16 number16 number16)

forces_inverse : IsInverse (listed w16 force_bytes) (λ xs. ((length xs < 2 ^ 16) × AllByRecursion FitsForce xs) × (slots_rise xs ≡ true)) forces_at
forces_inverse = passing slots_rise (listed_inverse w16 number16 force_inverse)

abbrev all_tables : Tables → List ℕ
all_tables t = tables_bytes t.variables t.instances t.breaks t.forces

record FitsAllTables (t : Tables) : Type 0 where
  lawful : IsTables t.variables t.instances t.breaks t.forces
  fits : FitsTables t.variables t.instances t.breaks t.forces

tables_inverse : IsInverse all_tables FitsAllTables tables_at
tables_inverse = record {
  takes = λ bytes x rest fits e.
      let t = took_4 (λ variables instances breaks forces. record { variables = variables; instances = instances; breaks = breaks; forces = forces }) variables_inverse instances_inverse breaks_inverse forces_inverse bytes x rest fits e in
      let blocks = apart IsBlock FitsBlock t.two t.fits_two.1 in
      subst (λ (y : Tables). Takes bytes (all_tables y) rest × FitsAllTables y) (sym t.is) (
        t.took,
        record {
          lawful = record { variables_short = t.fits_one.0; instances_short = t.fits_two.0; blocks = blocks.0; breaks_short = t.fits_three.0.0; breaks_rise = t.fits_three.1; forces_short = t.fits_four.0.0; forces_rise = t.fits_four.1 };
          fits = record { variables = t.fits_one.1; instances = blocks.1; breaks = t.fits_three.0.1; forces = t.fits_four.0.1 };
        },
      );
  again = λ x rest fits.
      again_4 (λ variables instances breaks forces. record { variables = variables; instances = instances; breaks = breaks; forces = forces }) variables_inverse instances_inverse breaks_inverse forces_inverse x.variables x.instances x.breaks x.forces rest
      (fits.lawful.variables_short, fits.fits.variables)
      (fits.lawful.instances_short, together IsBlock FitsBlock x.instances fits.lawful.blocks fits.fits.instances)
      ((fits.lawful.breaks_short, fits.fits.breaks), fits.lawful.breaks_rise)
      ((fits.lawful.forces_short, fits.fits.forces), fits.lawful.forces_rise);
}

-- ---- the whole

image_inverse : IsInverse (counted w32) (λ x. length x < 2 ^ 32) (counted_at (number_at w32))
image_inverse = bytes_inverse w32 number32

snapshot_take : (bytes : List ℕ) (x : SavedController) (rest : List ℕ) → IsBytes bytes → snapshot_at bytes ≡ Some (x, rest) → Takes bytes (snapshot_bytes x) rest × (IsSnapshot x × FitsSnapshot x)
snapshot_take bytes x rest fits e =
    let i = bind_some (counted_at (number_at w32) bytes) (λ (image : List ℕ × List ℕ). number_at w64 image.1 >>= λ count. fields_4 (snapshot_of image.0 count.0) (number_at w64) scan_at areas_at tables_at count.1) (x, rest) e in
    let image = image_inverse.takes bytes i.0.0 i.0.1 fits i.1 in
    let s = bind_some (number_at w64 i.0.1) (λ (count : ℕ × List ℕ). fields_4 (snapshot_of i.0.0 count.0) (number_at w64) scan_at areas_at tables_at count.1) (x, rest) i.2 in
    let n = number64.takes i.0.1 s.0.0 s.0.1 image.0.rest_fits s.1 in
    let t = took_4 (snapshot_of i.0.0 s.0.0) number64 scan_inverse areas_inverse tables_inverse s.0.1 x rest n.0.rest_fits s.2 in
    let areas = areas_bytes t.three.input t.three.output t.three.memory in
    let others = to_be_bytes w64 t.one ++ (open_bytes t.two ++ (areas ++ all_tables t.four)) in
    let behind = Takes-then i.0.1 (to_be_bytes w64 s.0.0) s.0.1 others rest n.0 t.took in
    let took = Takes-then bytes (counted w32 i.0.0) i.0.1 (to_be_bytes w64 s.0.0 ++ others) rest image.0 behind in
    let made = snapshot_of i.0.0 s.0.0 t.one t.two t.three t.four in
    subst (λ (y : SavedController). Takes bytes (snapshot_bytes y) rest × (IsSnapshot y × FitsSnapshot y)) {x = made} (sym {b = made} t.is) (
      took,
      (
        record { image = image.1; scan = t.fits_two.lawful; tables = t.fits_four.lawful },
        record { count = n.1; moment = t.fits_one; scan = t.fits_two.fits; areas = t.fits_three; tables = t.fits_four.fits },
      ),
    )

abbrev scan_of : SavedController → OpenScan
scan_of x = record { phase = x.phase; position = x.position; cr = x.cr; deferred = x.deferred }

abbrev areas_of : SavedController → Areas
areas_of x = record { input = x.input; output = x.output; memory = x.memory }

abbrev tables_of : SavedController → Tables
tables_of x = record { variables = x.variables; instances = x.instances; breaks = x.breaks; forces = x.forces }

snapshot_again : (x : SavedController) (rest : List ℕ) → IsSnapshot x × FitsSnapshot x → snapshot_at (snapshot_bytes x ++ rest) ≡ Some (x, rest)
snapshot_again x rest fits =
    let parts = to_be_bytes w64 x.moment ++ (open_bytes (scan_of x) ++ (areas_bytes x.input x.output x.memory ++ all_tables (tables_of x))) in
    let behind = to_be_bytes w64 x.count ++ parts in
    let image : counted_at (number_at w32) (snapshot_bytes x ++ rest) ≡ Some (x.image, behind ++ rest) = ap (counted_at (number_at w32)) (append_assoc (counted w32 x.image) behind rest) ∙ image_inverse.again x.image (behind ++ rest) fits.0.image in
    let first : number_at w64 (behind ++ rest) ≡ Some (x.count, parts ++ rest) = ap (number_at w64) (append_assoc (to_be_bytes w64 x.count) parts rest) ∙ number64.again x.count (parts ++ rest) fits.1.count in
    rw (image, first) (again_4 (snapshot_of x.image x.count) number64 scan_inverse areas_inverse tables_inverse x.moment (scan_of x) (areas_of x) (tables_of x) rest fits.1.moment (record { lawful = fits.0.scan; fits = fits.1.scan }) fits.1.areas (record { lawful = fits.0.tables; fits = fits.1.tables }))

pub snapshot_inverse : IsInverse snapshot_bytes (λ x. IsSnapshot x × FitsSnapshot x) snapshot_at
snapshot_inverse = record { takes = snapshot_take; again = snapshot_again }
