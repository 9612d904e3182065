-- How many variables, instances, instructions and words the image of a version has room for.
use Rattle.std.specs.Prelude.{ℕ, Bool, not, ◌&&◌, nat_lt, nat_le, List, length}
use Rattle.il_model.specs.declared.limits.TheConstants.{MOST_VARIABLES, MOST_INSTANCES, MOST_INSTRUCTIONS, MOST_WORDS}
use Rattle.il_model.specs.declared.limits.TheConstants.{EARLIER_VARIABLES, EARLIER_INSTANCES, EARLIER_INSTRUCTIONS}
use Rattle.il_model.specs.declared.limits.TheConstants.{EARLIER_CONSTANTS, MOST_IMAGE_BYTES, SHORT_IMAGE_BYTES}
use Rattle.il_model.specs.declared.codes.Version.{Version}
use Rattle.il_model.specs.declared.codes.Version.TheVariants as versions
use Rattle.il_model.specs.declared.program.Variable.{Variable}
use Rattle.il_model.specs.declared.program.Instance.{Instance}
use Rattle.il_model.specs.declared.program.Instr.{Instr}
use Rattle.il_model.specs.Marks.{words_in}

abbrev pub most_variables : Version → ℕ
most_variables versions.Three = MOST_VARIABLES
most_variables version = EARLIER_VARIABLES

abbrev pub most_instances : Version → ℕ
most_instances versions.Three = MOST_INSTANCES
most_instances version = EARLIER_INSTANCES

-- no more labels either
abbrev pub most_instructions : Version → ℕ
most_instructions versions.Three = MOST_INSTRUCTIONS
most_instructions version = EARLIER_INSTRUCTIONS

abbrev pub most_constants : Version → ℕ
most_constants versions.Three = MOST_WORDS
most_constants version = EARLIER_CONSTANTS

-- So many instructions have too many words. Up to as many as the first two versions have room for none are too many,
-- since an instruction of a typed program has nine at most.
abbrev pub is_crowded : ℕ → ℕ → Bool
is_crowded instructions words = nat_lt EARLIER_INSTRUCTIONS instructions && nat_lt MOST_WORDS words

abbrev pub has_room : Version → List Variable → List Instance → List Instr → Bool
has_room version variables instances code = nat_le (length variables) (most_variables version)
    && (nat_le (length instances) (most_instances version)
    && (nat_le (length code) (most_instructions version) && not (is_crowded (length code) (words_in code))))

-- ---- the image that a change brings, which has one of two spellings, in frames and in JSON

abbrev pub is_short_image : List ℕ → Bool
is_short_image image = nat_le (length image) SHORT_IMAGE_BYTES

abbrev pub is_long_image : List ℕ → Bool
is_long_image image = not (is_short_image image) && nat_le (length image) MOST_IMAGE_BYTES
