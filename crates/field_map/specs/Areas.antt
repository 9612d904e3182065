-- Cells of an area of the controller.
use Rattle.std.specs.Prelude.{ℕ, ◌%◌, ◌==◌, Bool, true, false}
use Rattle.il_model.specs.declared.limits.TheConstants.{BITS, WORDS}
use Rattle.field_map.specs.declared.places.Kind.{Kind}
use Rattle.field_map.specs.declared.places.Kind.TheVariants as kinds
use Rattle.field_map.specs.declared.layout.Layout.{Layout}
use Rattle.field_map.specs.declared.layout.Layout.TheVariants.{Single, HighFirst, LowFirst}

-- how many cells of a kind an area has
abbrev pub area_length : Kind → ℕ
area_length kinds.Bits = BITS
area_length kinds.Words = WORDS

abbrev pub is_one_kind : Kind → Kind → Bool
is_one_kind kinds.Bits kinds.Bits = true
is_one_kind kinds.Bits kinds.Words = false
is_one_kind kinds.Words kinds.Bits = false
is_one_kind kinds.Words kinds.Words = true

abbrev pub are_pairs : Kind → ℕ → Bool
are_pairs kinds.Bits count = false
are_pairs kinds.Words count = count % 2 == 0

-- where two words are one value, they are words, and even many
abbrev pub is_whole : Layout → Kind → ℕ → Bool
is_whole Single kind count = true
is_whole HighFirst kind count = are_pairs kind count
is_whole LowFirst kind count = are_pairs kind count
