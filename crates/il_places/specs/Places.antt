-- Where the instruction at each position of a text's program stands in the text. Positions are those that a debugger
-- counts: the instructions of the program, which are the lines of the text, or in a text of units those of its
-- program's expansion; each from 0.
use Rattle.std.specs.Prelude.{◌≡◌, ℕ, List, [], map, Option, Some, None, option_map, Bool, true, false, not, ◌&&◌}
use Rattle.std.specs.Prelude.{◌≤◌, slice_get, length, take}
use Rattle.il_reader.specs.Grammar.{LineText, Labelled, Plain}
use Rattle.il_reader.specs.Texts.{SourceText, Reads, place_at, place_behind}
use Rattle.il_reader.specs.declared.place.Place.{Place}
use Rattle.il_units.specs.Units.{UnitText}
use Rattle.il_units.specs.Spelling.{has_units, SaysUnits}
use Rattle.il_places.specs.declared.origins.Origin.{Origin}
use Rattle.il_places.specs.declared.reaching.Reached.{Reached}
use Rattle.il_places.specs.Origins.{by_itself, program_origins}

-- a text, and where the instruction at each position comes from
pub record PlacesText : Type 0 where
  pub text : List ℕ
  pub origins : List Origin

abbrev pub nowhere : PlacesText
nowhere = record { text = []; origins = [] }

-- where the instruction at a position stands
abbrev pub place_in : PlacesText → ℕ → Option Place
place_in ps n = option_map (λ (o : Origin). place_at ps.text o.left) (slice_get ps.origins n)

-- a text is read so far
pub record IsReached (text : List ℕ) (r : Reached) : Type 0 where
  pub within : r.offset ≤ length text
  pub is : r.place ≡ place_behind (take r.offset text)

abbrev pub instance_of : Option Origin → List ℕ
instance_of None = []
instance_of (Some o) = o.instance

-- the instance in whose body it does
abbrev pub instance_in : PlacesText → ℕ → List ℕ
instance_in ps n = instance_of (slice_get ps.origins n)

-- ---- texts without units

-- from where on a line's instruction stands: its operator, or a label alone
abbrev pub left_in : LineText → ℕ
left_in (Labelled t None) = t.left
left_in (Labelled t (Some o)) = o.operator.left
left_in (Plain o) = o.operator.left

abbrev pub plain_origin : LineText → Origin
plain_origin l = by_itself (left_in l)

-- ---- any text

abbrev pub AreOriginsBy : Bool → List ℕ → List Origin → Type 0
AreOriginsBy true text os = (us : List UnitText) × SaysUnits text us × (os ≡ program_origins text us)
AreOriginsBy false text os = (s : SourceText) × Reads text s × (os ≡ map plain_origin s.says.lines)

-- the places of a text: an instruction for each line; in a text of units, for each line of its program's expansion
abbrev pub ArePlaces : List ℕ → PlacesText → Type 0
ArePlaces text ps = (ps.text ≡ text) × AreOriginsBy (has_units text) text ps.origins

abbrev pub AreKnownBy : Bool → List ℕ → PlacesText → Type 0
AreKnownBy true text ps = ArePlaces text ps
AreKnownBy false text ps = ps ≡ nowhere

-- those that are told beside answers: of a text of units, where no other program goes on
abbrev pub AreKnownPlaces : List ℕ → Bool → PlacesText → Type 0
AreKnownPlaces text changed ps = AreKnownBy (not changed && has_units text) text ps
