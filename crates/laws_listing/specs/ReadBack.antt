-- A program whose listing is read as the same program.
use Rattle.il_model.specs.Program.{Program}
use Rattle.il_model.specs.Settled.{IsTypedProgramOf}
use Rattle.il_reader.specs.Grammar.{dialect_of}
use Rattle.il_reader.specs.Texts.{SourceText, Reads}
use Rattle.il_declarations.specs.Declaring.{IsProgramOf}
use Rattle.il_declarations.specs.FirstFault.{HasNoFault}
use Rattle.il_lister.specs.Listing.{listing}

-- the listing is a text that declares the program and has no fault, plain or extended as its first word tells, and the
-- program is its own typed program
pub record ReadsBack (Q : Program) : Type 0 where
  pub source : SourceText
  pub read : Reads (listing Q) source
  pub declared : IsProgramOf (dialect_of source.text) source.says Q
  pub faultless : HasNoFault (dialect_of source.text) source.says
  pub settled : IsTypedProgramOf Q Q
