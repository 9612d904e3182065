-- What is read is what the text says, and what the text says is read.
use Rattle.std.proofs.Common.{◌≡◌, ℕ, List, Result, Ok, Err, refl, subst}
use Rattle.std.specs.Prelude.{IfOk}
use Rattle.il_model.specs.declared.dialect.Dialect.{Dialect}
use Rattle.il_reader.specs.declared.fault.Failure.{Failure}
use Rattle.il_reader.specs.declared.contents.Contents.{Contents}
use Rattle.il_reader.specs.Tokens.{tokens_of}
use Rattle.il_reader.specs.Reading.{Gives}
use Rattle.il_reader.specs.Grammar.{ProgramText, program_text}
use Rattle.il_reader.specs.Walk.{text_of, program_at}
use Rattle.il_reader.specs.Spelling.{Spell, Says, spelled_program}
use Rattle.il_reader.proofs.Laws.{bind_ok, ok_is}
use Rattle.il_reader.proofs.Programs.{program_law}

-- what was read of a text is what it says
pub said : (dialect : Dialect) → (bytes : List ℕ) (p : ProgramText) → text_of dialect bytes ≡ Ok p → Says dialect bytes p
unfolding text_of
said dialect bytes p given =
    let m = bind_ok (program_at dialect (tokens_of dialect bytes)) (λ x. Ok x.0) p given in
    let g = (program_law dialect).takes (tokens_of dialect bytes) m.0 m.1 in
    let P : ProgramText → Type 0 = λ y. Spell (spelled_program dialect y) (tokens_of dialect bytes) m.0.1 in
    (m.0.1, subst P (ok_is m.0.0 p m.2) g.1)

pub is_found : (dialect : Dialect) → (bytes : List ℕ) (r : Result Contents Failure) → Gives program_text r (text_of dialect bytes) → IfOk r (λ s. Says dialect bytes (program_text s))
is_found dialect bytes (Ok s) given = said dialect bytes (program_text s) given
is_found dialect bytes (Err e) given = tt

pub is_read : (dialect : Dialect) → (bytes : List ℕ) (s : ProgramText) → Says dialect bytes s → text_of dialect bytes ≡ Ok s
unfolding text_of
is_read dialect bytes s says = rw ((program_law dialect).again s (tokens_of dialect bytes) says.0 tt says.1) refl
