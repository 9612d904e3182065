-- A text has one source at most.
use Rattle.std.proofs.Common.{◌≡◌, ℕ, ◌≤◌, List, Result, Ok, Err, sym, ap, subst, ◌∙◌, arith}
use Rattle.il_model.specs.declared.dialect.Dialect.{Dialect}
use Rattle.il_model.specs.declared.dialect.Dialect.TheVariants as dialects
use Rattle.il_reader.specs.declared.fault.FaultAt.{FaultAt}
use Rattle.il_reader.specs.declared.fault.Fault.{Fault}
use Rattle.il_reader.specs.Grammar.{dialect_of, ProgramText}
use Rattle.il_reader.specs.Walk.{text_of}
use Rattle.il_reader.specs.Spelling.{Says}
use Rattle.il_reader.specs.Texts.{SourceText, Reads, text_limit}

abbrev read_as : ProgramText → Result ProgramText FaultAt
read_as p = Ok p

abbrev source_as : SourceText → Result SourceText Fault
source_as s = Ok s

abbrev made : List ℕ → ProgramText → SourceText
made bytes p = record { text = bytes; says = p }

same_program : (p q : ProgramText) → read_as p ≡ read_as q → p ≡ q
same_program p q e = cc

pub says_here : (bytes : List ℕ) (dialect : Dialect) (s : SourceText) → dialect ≡ dialect_of bytes → Reads bytes s → Says dialect bytes s.says
says_here bytes dialect s e r =
    let P : List ℕ → Type 0 = λ b. Says (dialect_of b) b s.says in
    let Q : Dialect → Type 0 = λ d. Says d bytes s.says in
    subst Q (sym e) (subst P r.0 r.1.said)

pub same_source : (bytes : List ℕ) (dialect : Dialect) (p : ProgramText) (s : SourceText) → Reads bytes s → text_of dialect bytes ≡ Ok s.says → text_of dialect bytes ≡ Ok p → source_as s ≡ source_as (made bytes p)
same_source bytes dialect p s r a b =
    ap (λ (t : List ℕ). source_as (made t s.says)) r.0 ∙ ap (λ (q : ProgramText). source_as (made bytes q)) (same_program s.says p (sym a ∙ b))

pub one_outcome : (read : Result ProgramText FaultAt) (p : ProgramText) (f : FaultAt) → read ≡ Ok p → read ≡ Err f → ⊥
one_outcome (Ok q) p f a b = absurd cc
one_outcome (Err g) p f a b = absurd cc

-- every text's bytes can be counted in 32 bits
pub limit_small : (dialect : Dialect) → text_limit dialect ≤ 8388608
limit_small dialects.Plain = omega arith
limit_small dialects.Extended = omega arith
