-- Letters of jumps, returns and calls.
use Rattle.std.proofs.Common.{◌≡◌, Bool, true, false, Option, Some, None, refl, sym, ap, ◌∙◌, codes}
use Rattle.std.specs.Prelude.{not, option_map, if◌then◌else◌}
use Rattle.il_values.specs.declared.op.Modifier.{Modifier}
use Rattle.il_values.specs.Spelled.{spells}
use Rattle.il_model.specs.Words.{plain, letter_c, letters_cn, mnemonic_of, look}
use Rattle.il_units.specs.Words.{jump_with}
use Rattle.il_units.specs.Calls.{skip_word}
use Rattle.laws_calls.specs.Machines.{Turn, test, where_met}
use Rattle.laws_calls.specs.Lines.{letters_of}

letters_jump : letters_of (codes "JMP") ≡ plain
unfolding mnemonic_of look spells
letters_jump = refl

letters_jump_c : letters_of (codes "JMPC") ≡ letter_c
unfolding mnemonic_of look spells
letters_jump_c = refl

letters_jump_cn : letters_of (codes "JMPCN") ≡ letters_cn
unfolding mnemonic_of look spells
letters_jump_cn = refl

same_test : (m n : Modifier) → m.conditional ≡ n.conditional → m.negated ≡ n.negated → (t : Option Bool) → test m t ≡ test n t
same_test m n c d None = rw c refl
same_test m n c d (Some b) = rw (c, d) refl

jump_by : (m : Modifier) (c n : Bool) → m.conditional ≡ c → m.negated ≡ n → (t : Option Bool) → test m t ≡ test (letters_of (if c then (if n then codes "JMPCN" else codes "JMPC") else codes "JMP")) t
jump_by m false n c d t = rw c (sym (ap (λ (x : Modifier). test x t) letters_jump))
jump_by m true true c d t = same_test m letters_cn c d t ∙ sym (ap (λ (x : Modifier). test x t) letters_jump_cn)
jump_by m true false c d t = same_test m letter_c c d t ∙ sym (ap (λ (x : Modifier). test x t) letters_jump_c)

-- a return is made where the jump is made that stands for it
pub jump_test : (m : Modifier) (t : Option Bool) → test m t ≡ test (letters_of (jump_with m)) t
jump_test m t = jump_by m m.conditional m.negated refl refl t

twice : (b : Bool) → not (not b) ≡ b
twice true = refl
twice false = refl

skip_by : (m : Modifier) (n : Bool) → m.conditional ≡ true → m.negated ≡ n → (t : Option Bool) → test (letters_of (if n then codes "JMPC" else codes "JMPCN")) t ≡ option_map not (test m t)
skip_by m true c d None = ap (λ (x : Modifier). test x None) letters_jump_c ∙ sym (ap (option_map not) (same_test m letters_cn c d None))
skip_by m true c d (Some b) = ap (λ (x : Modifier). test x (Some b)) letters_jump_c ∙ sym (ap Some (twice b)) ∙ sym (ap (option_map not) (same_test m letters_cn c d (Some b)))
skip_by m false c d None = ap (λ (x : Modifier). test x None) letters_jump_cn ∙ sym (ap (option_map not) (same_test m letter_c c d None))
skip_by m false c d (Some b) = ap (λ (x : Modifier). test x (Some b)) letters_jump_cn ∙ sym (ap (option_map not) (same_test m letter_c c d (Some b)))

-- the jump past a call is made where the call isn't
pub skip_test : (m : Modifier) → m.conditional ≡ true → (t : Option Bool) → test (letters_of (skip_word m)) t ≡ option_map not (test m t)
skip_test m c t = skip_by m m.negated c refl t

pub other_met : {C S : Type 0} (t : Option Bool) (a b : Turn C S) → where_met (option_map not t) a b ≡ where_met t b a
other_met None a b = refl
other_met (Some true) a b = refl
other_met (Some false) a b = refl

pub unconditional : (m : Modifier) → m.conditional ≡ false → (t : Option Bool) → test m t ≡ Some true
unconditional m c t = rw c refl
