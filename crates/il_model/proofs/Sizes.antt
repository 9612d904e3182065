-- What an image of a version has room for.
use Rattle.std.proofs.Common.{◌≡◌, ℕ, ◌*◌, ◌<◌, ◌≤◌, Bool, true, false, leb, ltb, List, length, refl, not, ◌&&◌, arith}
use Rattle.std.proofs.lemmas.Bool.{leb-true, le-leb, ltb-true, ltb-false, lt-ltb}
use Rattle.il_model.specs.declared.codes.Version.{Version}
use Rattle.il_model.specs.declared.codes.Version.TheVariants as versions
use Rattle.il_model.specs.declared.program.Variable.{Variable}
use Rattle.il_model.specs.declared.program.Instance.{Instance}
use Rattle.il_model.specs.declared.program.Instr.{Instr}
use Rattle.il_model.specs.Marks.{words_in}
use Rattle.il_model.specs.Limits.{most_variables, most_instances, most_instructions, most_constants, is_crowded, has_room}
use Rattle.il_model.proofs.RowTypes.{and_yes}

-- no more than there is room for
pub record IsWithin (version : Version) (vs : List Variable) (xs : List Instance) (lines : List Instr) : Type 0 where
  pub variables : length vs ≤ most_variables version
  pub instances : length xs ≤ most_instances version
  pub code : length lines ≤ most_instructions version
  pub words : is_crowded (length lines) (words_in lines) ≡ false

not_true : (b : Bool) → not b ≡ true → b ≡ false
not_true true e = absurd cc
not_true false e = refl

pub within_room : (version : Version) (vs : List Variable) (xs : List Instance) (code : List Instr) → has_room version vs xs code ≡ true → IsWithin version vs xs code
within_room version vs xs code e =
    let a = and_yes (leb (length vs) (most_variables version)) _ e in
    let b = and_yes (leb (length xs) (most_instances version)) _ a.1 in
    let c = and_yes (leb (length code) (most_instructions version)) (not (is_crowded (length code) (words_in code))) b.1 in
    record {
      variables = leb-true (length vs) (most_variables version) a.0;
      instances = leb-true (length xs) (most_instances version) b.0;
      code = leb-true (length code) (most_instructions version) c.0;
      words = not_true (is_crowded (length code) (words_in code)) c.1;
    }

all_four : (a b c d : Bool) → a ≡ true → b ≡ true → c ≡ true → d ≡ false → (a && (b && (c && not d))) ≡ true
all_four true true true false p q r s = refl
all_four true true true true p q r s = absurd cc
all_four true true false d p q r s = absurd cc
all_four true false c d p q r s = absurd cc
all_four false b c d p q r s = absurd cc

pub room_within : (version : Version) (vs : List Variable) (xs : List Instance) (code : List Instr) → IsWithin version vs xs code → has_room version vs xs code ≡ true
room_within version vs xs code is =
    all_four (leb (length vs) (most_variables version)) (leb (length xs) (most_instances version)) (leb (length code) (most_instructions version)) (is_crowded (length code) (words_in code))
    (le-leb (length vs) (most_variables version) is.variables) (le-leb (length xs) (most_instances version) is.instances) (le-leb (length code) (most_instructions version) is.code) is.words

pub variables_most : (version : Version) → most_variables version ≤ 4096
variables_most versions.One = omega arith
variables_most versions.Two = omega arith
variables_most versions.Three = omega arith

pub instances_most : (version : Version) → most_instances version ≤ 1024
instances_most versions.One = omega arith
instances_most versions.Two = omega arith
instances_most versions.Three = omega arith

pub instructions_most : (version : Version) → most_instructions version ≤ 16384
instructions_most versions.One = omega arith
instructions_most versions.Two = omega arith
instructions_most versions.Three = omega arith

pub constants_most : (version : Version) → most_constants version ≤ 32767
constants_most versions.One = omega arith
constants_most versions.Two = omega arith
constants_most versions.Three = omega arith

-- in each version there is room for no more than in the third
pub room_is_small : (version : Version) (vs : List Variable) (xs : List Instance) (code : List Instr) → has_room version vs xs code ≡ true
    → (length vs ≤ 4096) × (length xs ≤ 1024) × (length code ≤ 16384) × (is_crowded (length code) (words_in code) ≡ false)
room_is_small version vs xs code e =
    let is = within_room version vs xs code e in
    let a : length vs ≤ most_variables version = is.variables in
    let b : length xs ≤ most_instances version = is.instances in
    let c : length code ≤ most_instructions version = is.code in
    (omega (arith, a, variables_most version), omega (arith, b, instances_most version), omega (arith, c, instructions_most version), is.words)

-- ---- words and constants

second_false : (a b : Bool) → (a && b) ≡ false → a ≡ true → b ≡ false
second_false true b e h = e
second_false false b e h = absurd cc

-- more instructions than the first two versions have room for have few words
pub words_short : (n words : ℕ) → is_crowded n words ≡ false → 4096 < n → words ≤ 32767
words_short n words e lt = ltb-false 32767 words (second_false (ltb 4096 n) (ltb 32767 words) e (lt-ltb 4096 n lt))

words_by : (b : Bool) (n words : ℕ) → ltb 4096 n ≡ b → is_crowded n words ≡ false → words ≤ 9 * n → words ≤ 36864
words_by true n words e f le = let short = words_short n words f (ltb-true 4096 n e) in omega (arith, short)
words_by false n words e f le = let few = ltb-false 4096 n e in omega (arith, few, le)

pub words_small : (n words : ℕ) → is_crowded n words ≡ false → words ≤ 9 * n → words ≤ 36864
words_small n words e le = words_by (ltb 4096 n) n words refl e le

constants_by : (b : Bool) (n words constants : ℕ) → ltb 4096 n ≡ b → is_crowded n words ≡ false → constants ≤ 5 * n → constants ≤ words → constants ≤ 32767
constants_by true n words constants e f le within = let short = words_short n words f (ltb-true 4096 n e) in omega (arith, short, within)
constants_by false n words constants e f le within = let few = ltb-false 4096 n e in omega (arith, few, le)

pub constants_small : (n words constants : ℕ) → is_crowded n words ≡ false → constants ≤ 5 * n → constants ≤ words → constants ≤ 32767
constants_small n words constants e le within = constants_by (ltb 4096 n) n words constants refl e le within

-- ---- fewer of both

less_by : (a b : Bool) (n fewer words short : ℕ) → ltb 4096 fewer ≡ a → ltb 32767 short ≡ b → fewer ≤ n → short ≤ words → is_crowded n words ≡ false → (a && b) ≡ false
less_by true true n fewer words short e f le lt uncrowded =
    let above = ltb-true 4096 fewer e in
    let over = ltb-true 32767 short f in
    let most = words_short n words uncrowded (omega (arith, above, le)) in
    absurd (omega (arith, over, lt, most))
less_by true false n fewer words short e f le lt uncrowded = refl
less_by false b n fewer words short e f le lt uncrowded = refl

pub crowded_less : (n fewer words short : ℕ) → fewer ≤ n → short ≤ words → is_crowded n words ≡ false → is_crowded fewer short ≡ false
crowded_less n fewer words short le lt uncrowded = less_by (ltb 4096 fewer) (ltb 32767 short) n fewer words short refl refl le lt uncrowded
