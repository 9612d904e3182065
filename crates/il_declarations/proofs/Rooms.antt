-- How many words more there is room for.
use Rattle.std.proofs.Common.{◌≡◌, ℕ, suc, ◌+◌, ◌-◌, ◌<◌, Bool, true, false, leb, ltb, List, [], ◌∷◌, ◌++◌, refl, sym, ap, ◌∙◌, ◌||◌, ◌&&◌, arith}
use Rattle.std.proofs.lemmas.Bool.{ltb-true, ltb-false, lt-ltb, le-ltb, leb-true, leb-false}
use Rattle.il_model.specs.declared.dialect.Dialect.{Dialect}
use Rattle.il_model.specs.declared.program.Instr.{Instr}
use Rattle.il_model.specs.Dialects.{newest}
use Rattle.il_model.specs.Limits.{most_instructions}
use Rattle.il_model.specs.Marks.{word_count, words_in}
use Rattle.il_model.proofs.Marks.{words_in-append}
use Rattle.il_declarations.specs.Resolution.{are_too_many}

-- one more is too many where there are as many
reached : (b : Bool) (most n : ℕ) → leb most n ≡ b → leb most n ≡ ltb most (suc n)
reached true most n e = let le = leb-true most n e in e ∙ sym (lt-ltb most (suc n) (omega (arith, le)))
reached false most n e = let lt = leb-false most n e in e ∙ sym (le-ltb most (suc n) (omega (arith, lt)))

-- what is left is less than the words to come where all are more than there is room for
short : (b : Bool) (all left words : ℕ) → left ≡ 32767 - all → 0 < words → ltb left words ≡ b → ltb left words ≡ ltb 32767 (all + words)
short true all left words is some e = let lt = ltb-true left words e in e ∙ sym (lt-ltb 32767 (all + words) (omega (arith, is, some, lt)))
short false all left words is some e = let le = ltb-false left words e in e ∙ sym (le-ltb 32767 (all + words) (omega (arith, is, some, le)))

pub past_room : (dialect : Dialect) (n all left words : ℕ) → left ≡ 32767 - all → 0 < words
    → (leb (most_instructions (newest dialect)) n || (leb 4096 n && ltb left words)) ≡ are_too_many dialect (suc n) (all + words)
past_room dialect n all left words is some =
    let most = most_instructions (newest dialect) in
    ap (λ (b : Bool). b || (leb 4096 n && ltb left words)) (reached (leb most n) most n refl)
    ∙ ap (λ (b : Bool). ltb most (suc n) || (b && ltb left words)) (reached (leb 4096 n) 4096 n refl)
    ∙ ap (λ (b : Bool). ltb most (suc n) || (ltb 4096 (suc n) && b)) (short (ltb left words) all left words is some refl)

-- with an instruction more there is room for so many words less
pub one_more : (code : List Instr) (line : Instr) (left next : ℕ) → left ≡ 32767 - words_in code → next ≡ left - word_count line → next ≡ 32767 - words_in (code ++ line ∷ [])
one_more code line left next is less =
    let sum : words_in (code ++ line ∷ []) ≡ words_in code + word_count line = omega (arith, words_in-append code (line ∷ [])) in
    omega (arith, is, less, sum)
