use mathlib.Core.Bool.{beq}
use Rattle.std.proofs.Common.{◌≡◌, Bool, true, false, List, ℕ, ◌++◌, refl, ap}
use Rattle.std.specs.Prelude.{codes}
use Rattle.il_lister.specs.Listing.{section_text, turn_text}
use Rattle.il_lister.proofs.Parts.{equally, stop, then}
use Rattle.il_lister.proofs.declaration.write_turn.Goals as goal

turn_is : (before retained : Bool) (name : List ℕ) → beq before retained ≡ false → codes "END_VAR\n" ++ section_text retained name ≡ turn_text before retained name
turn_is true true name other = absurd cc
turn_is false false name other = absurd cc
turn_is true false name other = refl
turn_is false true name other = refl

pub returns-in_err-write_text : goal.returns-in_err-write_text
returns-in_err-write_text g c = equally (turn_is c.args.before c.args.retained c.args.name.now c.if-before-retained.false) (stop _ c.from_residual.ensures.0 c.in_err-write_text.ensures)

pub returns : goal.returns
returns g c = equally (turn_is c.args.before c.args.retained c.args.name.now c.if-before-retained.false) (then c.in_ok-write_text.ensures (equally (ap (section_text c.args.retained) c.bytes.ensures) c.write_section.ensures))
