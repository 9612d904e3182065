use Rattle.std.proofs.Common.{inl, inr, ℕ, List}
use Rattle.std.proofs.lemmas.Result.{err_from_is_err_and}
use Rattle.il_text.specs.declared.fault.Fault.{Fault}
use Rattle.il_text.specs.Meaning.{IsTextFault, OrMemory}
use Rattle.plc_symbols.specs.Told.{IsFaultOfEither}
use Rattle.plc_symbols.proofs.calls.comparison.Goals as goal

first : (old new : List ℕ) (told : Fault) → OrMemory (IsTextFault old) told → OrMemory (IsFaultOfEither old new) told
first old new told (inl fault) = inl (inl fault)
first old new told (inr memory) = inr memory

second : (old new : List ℕ) (told : Fault) → OrMemory (IsTextFault new) told → OrMemory (IsFaultOfEither old new) told
second old new told (inl fault) = inl (inr fault)
second old new told (inr memory) = inr memory

pub returns-in_err-before-clause-refused : goal.returns-in_err-before-clause-refused
returns-in_err-before-clause-refused c =
    let p = err_from_is_err_and c.from_residual.result c.from_residual.ensures.1 in
    rw (p.1, p.2) (first c.args.old.now c.args.new.now c.in_err-before.field-0.0 c.in_err-before.ensures.refused)

pub returns-in_err-after-clause-refused : goal.returns-in_err-after-clause-refused
returns-in_err-after-clause-refused c =
    let p = err_from_is_err_and c.from_residual-in_err-after.result c.from_residual-in_err-after.ensures.1 in
    rw (p.1, p.2) (second c.args.old.now c.args.new.now c.in_err-after.field-0.0 c.in_err-after.ensures.refused)
