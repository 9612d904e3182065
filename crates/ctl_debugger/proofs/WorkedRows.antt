-- Worked rows of scans and of the debugger, by computing the command table.
use Rattle.std.proofs.Common.{◌≡◌, ◌≤◌, ℕ, zero, suc, Bool, true, false, List, [], ◌∷◌, replicate, None, Some, Result, Ok, Err, refl, sym, ap, ◌∙◌, arith}
use Rattle.std.specs.Prelude.{pos, slice_set, codes}
use Rattle.il_values.specs.declared.value.Value.TheVariants as values
use Rattle.il_values.specs.declared.value.Ty.TheVariants as types
use Rattle.il_values.specs.declared.value.Stop.TheVariants as stops
use Rattle.il_values.specs.declared.op.Op.{Op}
use Rattle.il_values.specs.declared.op.Op.TheVariants as ops
use Rattle.il_model.specs.declared.program.Instr.{Instr}
use Rattle.il_model.specs.declared.program.Side.TheVariants as sides
use Rattle.il_model.specs.declared.kind.BlockKind.TheVariants as kinds
use Rattle.il_model.specs.declared.program.Area.TheVariants as areas
use Rattle.il_model.specs.declared.program.Loc.TheVariants.{Bit, Word}
use Rattle.il_model.specs.declared.program.Operand.{Operand}
use Rattle.il_model.specs.declared.program.Operand.TheVariants as operands
use Rattle.il_model.specs.declared.slot.Slot.{Slot}
use Rattle.il_model.specs.declared.command.Command.{Command}
use Rattle.il_model.specs.declared.command.Command.TheVariants as commands
use Rattle.il_model.specs.declared.command.Answer.{Answer}
use Rattle.il_model.specs.declared.command.Answer.TheVariants as answers
use Rattle.il_model.specs.declared.command.Refusal.TheVariants as refusals
use Rattle.il_model.specs.Locations.{clear_inputs, safe_image}
use Rattle.il_model.specs.Program.{Program}
use Rattle.il_model.specs.Words.{is_well_spelled, plain, look, mnemonic_of}
use Rattle.il_values.specs.Spelled.{spells}
use Rattle.il_model.specs.Codes.{usage_of, allows, has_form}
use Rattle.il_model.specs.Image.{spelling}
use Rattle.il_model.proofs.Judged.{is_typed}
use Rattle.il_loader.specs.Images.{IsName, IsOperand, IsInstruction, IsWellFormed, Reading, AreBytes, ReadsImages}
use Rattle.il_records.specs.declared.fault.LoadFault.{LoadFault}
use Rattle.il_records.specs.declared.fault.LoadFault.TheVariants.{Truncated}
use Rattle.il_loader.specs.Reading.{items_from, name_at, variable_at, instance_at, mark_at, instruction_at, argument_at, word_at, bodies_at, tables_at}
use Rattle.il_records.specs.Fields.{counts_at, header_at, spelled_name_at, first_value_at, declared_at, constant_at}
use Rattle.il_loader.specs.Judging.{image_of, judged_tables, is_own_version}
use Rattle.ctl_debugger.specs.Owned.{Owned, cold_owned}
use Rattle.ctl_debugger.specs.Outcome.{on_image, owned_from, answers_from, answers_with, answers_of}
use Rattle.ctl_model.specs.Scan.{next_count}

abbrev line : Op → Operand → Instr
line op operand = record { label = None; op = op; modifier = record { negated = false; conditional = false; opens = false }; operand = operand; arguments = [] }

abbrev code : List Instr → Program
code lines = record { variables = []; instances = []; code = lines }

abbrev number : ℕ → Operand
number n = operands.Literal (values.Int (pos n))

abbrev bits : Bool → List Bool
bits b = slice_set (replicate 512 false) 0 b

-- a scan at a moment with the first input bit as given
abbrev scan : Bool → Command
scan b = commands.Scan (record { cells = record { bits = bits b; words = replicate 64 (pos 0) } }) 0

abbrev outputs : ℕ → Bool → ℕ → Answer
outputs count b n = answers.Outputs count (record { cells = record { bits = bits b; words = slice_set (replicate 64 (pos 0)) 0 (pos n) } })

abbrev first_input : Slot
first_input = record { 0 = 0 }

abbrev first_output : Slot
first_output = record { 0 = 4096 }

-- no instruction: one scan, all FALSE and 0
nothing_to_do : answers_of (code []) 10 (scan false ∷ []) ≡ outputs 1 false 0 ∷ []
nothing_to_do = refl

abbrev overflowing : Program
overflowing = code (line ops.Ld (number 32767) ∷ line ops.Add (number 1) ∷ [])

abbrev overflow : Answer
overflow = answers.Stopped stops.Overflow 1 safe_image

-- a stop stays until a reset, and its current result can be read
overflow_stays : answers_of overflowing 10 (scan false ∷ scan false ∷ commands.ReadCr ∷ commands.Step ∷ commands.Reset ∷ commands.ReadCr ∷ scan false ∷ [])
    ≡ overflow ∷ overflow ∷ answers.Value (values.Int (pos 32767)) ∷ answers.Refused refusals.NotHeld ∷ answers.Done ∷ answers.Refused refusals.NotHeld ∷ overflow ∷ []
overflow_stays = refl

abbrev copying : Program
copying = code (line ops.Ld (operands.Direct (Bit areas.Input 0)) ∷ line ops.St (operands.Direct (Bit areas.Output 0)) ∷ line ops.Ld (number 5) ∷ line ops.St (operands.Direct (Word areas.Output 0)) ∷ [])

-- held at a breakpoint; another scan changes nothing; a step; then to the end
held_and_on : answers_of copying 10 (commands.SetBreak 4 ∷ commands.SetBreak 2 ∷ scan true ∷ scan false ∷ commands.ReadCr ∷ commands.Step ∷ commands.Continue ∷ commands.Continue ∷ [])
    ≡ answers.Refused refusals.BadPosition ∷ answers.Done ∷ answers.Held 2 ∷ answers.Held 2 ∷ answers.Value (values.Bool true) ∷ answers.Held 3 ∷ outputs 1 true 5 ∷ answers.Refused refusals.NotHeld ∷ []
held_and_on = refl

-- the budget comes before the breakpoint
budget_first : answers_of copying 2 (commands.SetBreak 2 ∷ scan true ∷ []) ≡ answers.Done ∷ answers.Stopped stops.Budget 2 safe_image ∷ []
budget_first = refl

-- a forced input is read in the place of the one handed in, until it is freed
forced_input : answers_of copying 10 (commands.Force first_input (values.Bool true) ∷ scan false ∷ commands.Unforce first_input ∷ scan false ∷ [])
    ≡ answers.Done ∷ outputs 1 true 5 ∷ answers.Done ∷ outputs 2 false 5 ∷ []
forced_input = refl

-- a forced output is released, and %Q itself stays as the program left it
forced_output : answers_of copying 10 (commands.Force first_output (values.Bool true) ∷ scan false ∷ commands.ReadVar first_output ∷ commands.Force first_output (values.Int (pos 1)) ∷ commands.Force (record { 0 = 8192 }) (values.Bool true) ∷ [])
    ≡ answers.Done ∷ outputs 1 true 5 ∷ answers.Value (values.Bool false) ∷ answers.Refused refusals.BadType ∷ answers.Refused refusals.BadSlot ∷ []
forced_output = refl

-- Forces are laid over inputs as they are latched, and over outputs as they are released: what is freed while the scan is held was
-- latched with the force, but is released without it.
freed_while_held : answers_of copying 10 (commands.Force first_input (values.Bool true) ∷ commands.SetBreak 0 ∷ scan false ∷ commands.Unforce first_input ∷ commands.Continue ∷ commands.ClearBreak 0 ∷ scan false ∷ [])
    ≡ answers.Done ∷ answers.Done ∷ answers.Held 0 ∷ answers.Done ∷ outputs 1 true 5 ∷ answers.Done ∷ outputs 2 false 5 ∷ []
freed_while_held = refl

freed_before_release : answers_of copying 10 (commands.Force first_output (values.Bool true) ∷ commands.SetBreak 3 ∷ scan false ∷ commands.Unforce first_output ∷ commands.Continue ∷ [])
    ≡ answers.Done ∷ answers.Done ∷ answers.Held 3 ∷ answers.Done ∷ outputs 1 false 5 ∷ []
freed_before_release = refl

-- CAL T1(IN := TRUE, PT := T#100ms) of a TON
abbrev delaying : Program
delaying = record {
  variables = [];
  instances = record { name = codes "T1"; kind = kinds.Ton; retained = false } ∷ [];
  code = record {
    label = None;
    op = ops.Cal;
    modifier = record { negated = false; conditional = false; opens = false };
    operand = operands.Instance (codes "T1");
    arguments = record { field = codes "IN"; side = sides.Input; operand = operands.Literal (values.Bool true) }
        ∷ record { field = codes "PT"; side = sides.Input; operand = operands.Literal (values.Time (pos 100)) } ∷ [];
  } ∷ [];
}

abbrev scan_at : ℕ → Command
scan_at moment = commands.Scan clear_inputs moment

abbrev elapsed : Command
elapsed = commands.ReadVar (record { 0 = 20483 })

-- time doesn't go back: at 40 ms behind 50 it is still 50
moment_goes_back : answers_of delaying 10 (scan_at 0 ∷ elapsed ∷ scan_at 50 ∷ elapsed ∷ scan_at 40 ∷ elapsed ∷ scan_at 100 ∷ elapsed ∷ [])
    ≡ outputs 1 false 0 ∷ answers.Value (values.Time (pos 0)) ∷ outputs 2 false 0 ∷ answers.Value (values.Time (pos 50))
    ∷ outputs 3 false 0 ∷ answers.Value (values.Time (pos 50)) ∷ outputs 4 false 0 ∷ answers.Value (values.Time (pos 100)) ∷ []
moment_goes_back = refl

-- the greatest count of scans stays
last_count : next_count 18446744073709551615 ≡ 18446744073709551615
last_count = refl

-- ---- a warm start

-- an own variable, one at a place and a timer, of which each is retained or not
abbrev keeping : Bool → Program
keeping retained = record {
  variables = record { name = codes "N"; ty = types.Int; location = None; initial = values.Int (pos 7); retained = retained }
      ∷ record { name = codes "W"; ty = types.Int; location = Some (Word areas.Memory 0); initial = values.Int (pos 3); retained = retained } ∷ [];
  instances = record { name = codes "T1"; kind = kinds.Ton; retained = retained } ∷ [];
  code = line ops.Ld (operands.Variable (codes "N")) ∷ line ops.Add (number 1) ∷ line ops.St (operands.Variable (codes "N"))
      ∷ line ops.St (operands.Variable (codes "W")) ∷ line ops.St (operands.Direct (Word areas.Memory 1))
      ∷ record {
        label = None;
        op = ops.Cal;
        modifier = record { negated = false; conditional = false; opens = false };
        operand = operands.Instance (codes "T1");
        arguments = record { field = codes "IN"; side = sides.Input; operand = operands.Literal (values.Bool true) } ∷ [];
      } ∷ [];
}

abbrev read_at : ℕ → Command
read_at slot = commands.ReadVar (record { 0 = slot })

-- N, W, the word behind it, and the input of the timer
abbrev all_read : List Command
all_read = read_at 16384 ∷ read_at 16385 ∷ read_at 9217 ∷ read_at 20480 ∷ []

abbrev all_told : ℕ → ℕ → Bool → List Answer
all_told n w b = answers.Value (values.Int (pos n)) ∷ answers.Value (values.Int (pos w)) ∷ answers.Value (values.Int (pos 0)) ∷ answers.Value (values.Bool b) ∷ []

-- what is retained stays
warm_keeps : answers_of (keeping true) 10 (scan false ∷ commands.Warm ∷ all_read) ≡ outputs 1 false 0 ∷ answers.Done ∷ all_told 8 8 true
warm_keeps = refl

-- all else begins as when cold
warm_begins : answers_of (keeping false) 10 (scan false ∷ commands.Warm ∷ all_read) ≡ outputs 1 false 0 ∷ answers.Done ∷ all_told 7 3 false
warm_begins = refl

-- and behind a reset all does
reset_begins : answers_of (keeping true) 10 (scan false ∷ commands.Reset ∷ all_read) ≡ outputs 1 false 0 ∷ answers.Done ∷ all_told 7 3 false
reset_begins = refl

-- ---- another program

abbrev counting : ℕ → Program
counting n = record {
  variables = record { name = codes "N"; ty = types.Int; location = None; initial = values.Int (pos 0); retained = false } ∷ [];
  instances = [];
  code = line ops.Ld (operands.Variable (codes "N")) ∷ line ops.Add (number n) ∷ line ops.St (operands.Variable (codes "N")) ∷ line ops.St (operands.Direct (Word areas.Output 0)) ∷ [];
}

-- the image of the program that adds 10
abbrev tens : List ℕ
tens = 73 ∷ 76 ∷ 80 ∷ 67 ∷ 0 ∷ 1 ∷ 0 ∷ 1 ∷ 0 ∷ 0 ∷ 0 ∷ 0 ∷ 0 ∷ 1 ∷ 0 ∷ 4
    ∷ 1 ∷ 78 ∷ 1 ∷ 255 ∷ 255 ∷ 0 ∷ 0 ∷ 0 ∷ 0
    ∷ 1 ∷ 0 ∷ 0 ∷ 0 ∷ 10
    ∷ 1 ∷ 0 ∷ 64 ∷ 0 ∷ 9 ∷ 0 ∷ 128 ∷ 0 ∷ 2 ∷ 0 ∷ 64 ∷ 0 ∷ 2 ∷ 0 ∷ 20 ∷ 0 ∷ []

tens_are : image_of tens ≡ Ok (counting 10)
unfolding image_of judged_tables is_own_version tables_at bodies_at header_at counts_at items_from spelled_name_at name_at first_value_at declared_at variable_at instance_at mark_at constant_at instruction_at argument_at word_at is_well_spelled spells look mnemonic_of
tens_are = refl

abbrev one_byte : List ℕ
one_byte = 73 ∷ []

one_byte_is_none : image_of one_byte ≡ Err Truncated
unfolding image_of tables_at header_at
one_byte_is_none = refl

abbrev after_two : Owned
after_two = owned_from (cold_owned (counting 1) 10) (scan false ∷ scan false ∷ [])

-- N goes on
counts_on : answers_of (counting 1) 10 (scan false ∷ scan false ∷ commands.Change tens ∷ scan false ∷ []) ≡ outputs 1 false 1 ∷ outputs 2 false 2 ∷ answers.Done ∷ outputs 3 false 12 ∷ []
counts_on = ap (λ (r : Result Program LoadFault). outputs 1 false 1 ∷ outputs 2 false 2 ∷ (on_image after_two r).0 ∷ answers_from (on_image after_two r).1 (scan false ∷ [])) tens_are

-- bytes that are no image change nothing
no_image : answers_of (counting 1) 10 (scan false ∷ scan false ∷ commands.Change one_byte ∷ scan false ∷ []) ≡ outputs 1 false 1 ∷ outputs 2 false 2 ∷ answers.Refused refusals.BadImage ∷ outputs 3 false 3 ∷ []
no_image = ap (λ (r : Result Program LoadFault). outputs 1 false 1 ∷ outputs 2 false 2 ∷ (on_image after_two r).0 ∷ answers_from (on_image after_two r).1 (scan false ∷ [])) one_byte_is_none

-- ---- whatever reads images

n_named : IsName (codes "N")
unfolding is_well_spelled spells look mnemonic_of
n_named = record { lawful = refl; short = (let le : 1 ≤ 96 = omega arith in le) }

does : (op : Op) (operand : Operand) → allows (usage_of op).letters plain ≡ true → has_form (usage_of op).form false operand ≡ true → IsOperand operand → (op ≡ ops.Empty → ⊥) → IsInstruction (line op operand)
does op operand letters form is some = record { label = λ name e. absurd cc; letters = letters; form = form; operands = (is, tt); labelled = λ e. absurd (some e) }

counting_is : IsWellFormed (counting 10)
counting_is = record {
  small = record { variables = (let le : 1 ≤ 4096 = omega arith in le); instances = (let le : 0 ≤ 1024 = omega arith in le); code = (let le : 4 ≤ 16384 = omega arith in le); words = refl };
  variables = (record { name = n_named; type = refl; range = refl; location = λ loc e. absurd cc }, tt);
  instances = tt;
  names = (tt, tt);
  apart = tt;
  locations = tt;
  code = (
    does ops.Ld (operands.Variable (codes "N")) refl refl tt (λ e. cc),
    (does ops.Add (number 10) refl refl refl (λ e. cc), (does ops.St (operands.Variable (codes "N")) refl refl tt (λ e. cc), (does ops.St (operands.Direct (Word areas.Output 0)) refl refl (refl, refl) (λ e. cc), tt))),
  );
  typed = is_typed (counting 10) refl;
}

tens_spelled : spelling (counting 10) ≡ tens
tens_spelled = refl

counts_on_by : (reading : Reading) → ReadsImages reading → answers_with reading (cold_owned (counting 1) 10) (scan false ∷ scan false ∷ commands.Change tens ∷ scan false ∷ [])
    ≡ outputs 1 false 1 ∷ outputs 2 false 2 ∷ answers.Done ∷ outputs 3 false 12 ∷ []
counts_on_by reading is =
    ap (λ (r : Result Program LoadFault). outputs 1 false 1 ∷ outputs 2 false 2 ∷ (on_image after_two r).0 ∷ answers_with reading (on_image after_two r).1 (scan false ∷ []))
    (ap reading (sym tens_spelled) ∙ is.read (counting 10) counting_is)

is_byte : AreBytes one_byte
is_byte zero = omega arith
is_byte (suc i) = omega arith

refused_so : (reading : Reading) (r : Result Program LoadFault) → ReadsImages reading → reading one_byte ≡ r
    → outputs 1 false 1 ∷ outputs 2 false 2 ∷ (on_image after_two r).0 ∷ answers_with reading (on_image after_two r).1 (scan false ∷ [])
    ≡ outputs 1 false 1 ∷ outputs 2 false 2 ∷ answers.Refused refusals.BadImage ∷ outputs 3 false 3 ∷ []
refused_so reading (Ok R) is e = absurd (let spelled = (is.only one_byte R is_byte e).1 in cc)
refused_so reading (Err fault) is e = refl

no_image_by : (reading : Reading) → ReadsImages reading → answers_with reading (cold_owned (counting 1) 10) (scan false ∷ scan false ∷ commands.Change one_byte ∷ scan false ∷ [])
    ≡ outputs 1 false 1 ∷ outputs 2 false 2 ∷ answers.Refused refusals.BadImage ∷ outputs 3 false 3 ∷ []
no_image_by reading is = refused_so reading (reading one_byte) is refl

-- nor does a change while a scan is held
held_alone : answers_of (counting 1) 10 (commands.SetBreak 1 ∷ scan false ∷ commands.Change tens ∷ commands.Continue ∷ []) ≡ answers.Done ∷ answers.Held 1 ∷ answers.Refused refusals.NotIdle ∷ outputs 1 false 1 ∷ []
held_alone = refl
