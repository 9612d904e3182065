-- What a field says of itself to the controller.
use Rattle.std.specs.Prelude.{ℤ, pos, Bool, true, false, ◌&&◌, is_some, if◌then◌else◌, Option, Some, None}
use Rattle.std.specs.Int.{w16, int_wrapping_add}
use Rattle.modbus_wire.specs.declared.request.Request.{Request}
use Rattle.field_map.specs.declared.places.Places.{Places}
use Rattle.field_map.specs.Asking.{write_request, all_cells, all_words}
use Rattle.field_cycle.specs.declared.signs.Signs.{Signs}

abbrev pub new_signs : Option Places → Option Places → Signs
new_signs beat ready =
    record { beat = beat; ready = ready; count = pos 0; is_beating = false; is_ready = None; tells = None }

-- the word is to be counted up
abbrev pub beaten : Signs → Signs
beaten s = record s { count = int_wrapping_add w16 s.count (pos 1); is_beating = true }

abbrev pub is_told : Option Bool → Bool → Bool
is_told (Some true) true = true
is_told (Some false) false = true
is_told _ _ = false

-- that inputs are real or aren't is to be told, unless it was
abbrev pub marked : Signs → Bool → Signs
marked s is_ready = if is_told s.is_ready is_ready then s else record s { is_ready = Some is_ready; tells = Some is_ready }

abbrev pub told_anew : Signs → Signs
told_anew s = record s { is_ready = None; tells = None }

abbrev pub word_of : Option Places → ℤ → Option Request
word_of (Some p) count = Some (write_request p.from p (all_words count))
word_of None count = None

abbrev pub bit_of : Option Places → Option Bool → Option Request
bit_of (Some p) (Some value) = Some (write_request p.from p (all_cells value))
bit_of _ _ = None

-- first the count, and then whether inputs are real
abbrev pub next_sign : Signs → Option Request
next_sign s =
    if s.is_beating && is_some s.beat then word_of s.beat s.count else bit_of s.ready s.tells

abbrev pub after_sign : Signs → Signs
after_sign s =
    if s.is_beating && is_some s.beat then record s { is_beating = false }
    else record s { is_beating = false; tells = None }
