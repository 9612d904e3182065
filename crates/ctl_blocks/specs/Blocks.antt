-- A block of any kind: called with the list of its inputs' values, and its fields by their numbers.
use Rattle.std.specs.Prelude.{◌≡◌, ℕ, ◌-◌, Bool, true, false, ◌&&◌, nat_lt, List, [], ◌∷◌, Option, Some, None, ℤ, pos}
use Rattle.std.specs.Prelude.{slice_get, if◌then◌else◌}
use Rattle.il_model.specs.Kinds.{kind_fields, input_count}
use Rattle.il_values.specs.declared.value.Value.{Value}
use Rattle.il_values.specs.declared.value.Value.TheVariants as values
use Rattle.il_model.specs.declared.kind.Field.{Field}
use Rattle.il_model.specs.declared.kind.BlockKind.{BlockKind}
use Rattle.il_model.specs.declared.kind.BlockKind.TheVariants as kinds
use Rattle.ctl_blocks.specs.declared.block.Block.{Block}
use Rattle.ctl_blocks.specs.declared.block.Block.TheVariants as blocks
use Rattle.ctl_blocks.specs.Bistables.{sr_after, rs_after, is_bistable, cold_bistable, bistable_words}
use Rattle.ctl_blocks.specs.Bistables.{bistable_outs}
use Rattle.ctl_blocks.specs.Edges.{r_trig_after, f_trig_after, is_edge, cold_edge, edge_words, edge_outs}
use Rattle.ctl_blocks.specs.Counters.{ctu_after, fits_counter, fits_ctud, ctu_holds, ctd_holds, ctud_holds}
use Rattle.ctl_blocks.specs.Counters.{cold_counter, counter_words, counter_outs, ctd_after, ctud_after, cold_ctud}
use Rattle.ctl_blocks.specs.Counters.{ctud_words, ctud_outs}
use Rattle.ctl_blocks.specs.Timers.{tp_after, ton_after, tof_after, fits_timer, tp_holds, ton_holds, tof_holds}
use Rattle.ctl_blocks.specs.Timers.{cold_timer, timer_words, timer_outs}
use Rattle.ctl_blocks.specs.declared.bistable.SrIn.{SrIn}
use Rattle.ctl_blocks.specs.declared.bistable.RsIn.{RsIn}
use Rattle.ctl_blocks.specs.declared.edge.EdgeIn.{EdgeIn}
use Rattle.ctl_blocks.specs.declared.counter.CtuIn.{CtuIn}
use Rattle.ctl_blocks.specs.declared.counter.CtdIn.{CtdIn}
use Rattle.ctl_blocks.specs.declared.counter.CtudIn.{CtudIn}
use Rattle.ctl_blocks.specs.declared.timer.TimerIn.{TimerIn}
use Rattle.ctl_blocks.specs.declared.bistable.BistableOut.{BistableOut}
use Rattle.ctl_blocks.specs.declared.edge.EdgeOut.{EdgeOut}
use Rattle.ctl_blocks.specs.declared.counter.CounterOut.{CounterOut}
use Rattle.ctl_blocks.specs.declared.counter.CtudOut.{CtudOut}
use Rattle.ctl_blocks.specs.declared.timer.TimerOut.{TimerOut}

-- the value of an input; FALSE or 0 where none of its type was handed in
abbrev pub bool_of : Option Value → Bool
bool_of (Some (values.Bool b)) = b
bool_of _ = false

abbrev pub int_of : Option Value → ℤ
int_of (Some (values.Int z)) = z
int_of _ = pos 0

abbrev pub time_of : Option Value → ℤ
time_of (Some (values.Time z)) = z
time_of _ = pos 0

-- the inputs of a kind from the list of their values, in the order of its fields
abbrev pub sr_inputs : List Value → SrIn
sr_inputs vs = record { s1 = bool_of (slice_get vs 0); r = bool_of (slice_get vs 1) }

abbrev pub rs_inputs : List Value → RsIn
rs_inputs vs = record { s = bool_of (slice_get vs 0); r1 = bool_of (slice_get vs 1) }

abbrev pub edge_inputs : List Value → EdgeIn
edge_inputs vs = record { clk = bool_of (slice_get vs 0) }

abbrev pub ctu_inputs : List Value → CtuIn
ctu_inputs vs = record { cu = bool_of (slice_get vs 0); r = bool_of (slice_get vs 1); pv = int_of (slice_get vs 2) }

abbrev pub ctd_inputs : List Value → CtdIn
ctd_inputs vs = record { cd = bool_of (slice_get vs 0); ld = bool_of (slice_get vs 1); pv = int_of (slice_get vs 2) }

abbrev pub ctud_inputs : List Value → CtudIn
ctud_inputs vs = record {
  cu = bool_of (slice_get vs 0);
  cd = bool_of (slice_get vs 1);
  r = bool_of (slice_get vs 2);
  ld = bool_of (slice_get vs 3);
  pv = int_of (slice_get vs 4);
}

abbrev pub timer_inputs : List Value → TimerIn
timer_inputs vs = record { input = bool_of (slice_get vs 0); pt = time_of (slice_get vs 1) }

-- the values of the outputs, in the order of the fields
abbrev pub bistable_values : BistableOut → List Value
bistable_values o = values.Bool o.q1 ∷ []

abbrev pub edge_values : EdgeOut → List Value
edge_values o = values.Bool o.q ∷ []

abbrev pub counter_values : CounterOut → List Value
counter_values o = values.Bool o.q ∷ values.Int o.cv ∷ []

abbrev pub ctud_values : CtudOut → List Value
ctud_values o = values.Bool o.qu ∷ values.Bool o.qd ∷ values.Int o.cv ∷ []

abbrev pub timer_values : TimerOut → List Value
timer_values o = values.Bool o.q ∷ values.Time o.et ∷ []

abbrev pub kind_of : Block → BlockKind
kind_of (blocks.Sr s) = kinds.Sr
kind_of (blocks.Rs s) = kinds.Rs
kind_of (blocks.RTrig s) = kinds.RTrig
kind_of (blocks.FTrig s) = kinds.FTrig
kind_of (blocks.Ctu s) = kinds.Ctu
kind_of (blocks.Ctd s) = kinds.Ctd
kind_of (blocks.Ctud s) = kinds.Ctud
kind_of (blocks.Tp s) = kinds.Tp
kind_of (blocks.Ton s) = kinds.Ton
kind_of (blocks.Tof s) = kinds.Tof

abbrev pub cold_block : BlockKind → Block
cold_block kinds.Sr = blocks.Sr cold_bistable
cold_block kinds.Rs = blocks.Rs cold_bistable
cold_block kinds.RTrig = blocks.RTrig cold_edge
cold_block kinds.FTrig = blocks.FTrig cold_edge
cold_block kinds.Ctu = blocks.Ctu cold_counter
cold_block kinds.Ctd = blocks.Ctd cold_counter
cold_block kinds.Ctud = blocks.Ctud cold_ctud
cold_block kinds.Tp = blocks.Tp cold_timer
cold_block kinds.Ton = blocks.Ton cold_timer
cold_block kinds.Tof = blocks.Tof cold_timer

abbrev pub block_after : Block → List Value → ℕ → Block
block_after (blocks.Sr s) vs now = blocks.Sr (sr_after s (sr_inputs vs))
block_after (blocks.Rs s) vs now = blocks.Rs (rs_after s (rs_inputs vs))
block_after (blocks.RTrig s) vs now = blocks.RTrig (r_trig_after s (edge_inputs vs))
block_after (blocks.FTrig s) vs now = blocks.FTrig (f_trig_after s (edge_inputs vs))
block_after (blocks.Ctu s) vs now = blocks.Ctu (ctu_after s (ctu_inputs vs))
block_after (blocks.Ctd s) vs now = blocks.Ctd (ctd_after s (ctd_inputs vs))
block_after (blocks.Ctud s) vs now = blocks.Ctud (ctud_after s (ctud_inputs vs))
block_after (blocks.Tp s) vs now = blocks.Tp (tp_after s (timer_inputs vs) now)
block_after (blocks.Ton s) vs now = blocks.Ton (ton_after s (timer_inputs vs) now)
block_after (blocks.Tof s) vs now = blocks.Tof (tof_after s (timer_inputs vs) now)

abbrev pub outputs_of : Block → List Value
outputs_of (blocks.Sr s) = bistable_values (bistable_outs s)
outputs_of (blocks.Rs s) = bistable_values (bistable_outs s)
outputs_of (blocks.RTrig s) = edge_values (edge_outs s)
outputs_of (blocks.FTrig s) = edge_values (edge_outs s)
outputs_of (blocks.Ctu s) = counter_values (counter_outs s)
outputs_of (blocks.Ctd s) = counter_values (counter_outs s)
outputs_of (blocks.Ctud s) = ctud_values (ctud_outs s)
outputs_of (blocks.Tp s) = timer_values (timer_outs s)
outputs_of (blocks.Ton s) = timer_values (timer_outs s)
outputs_of (blocks.Tof s) = timer_values (timer_outs s)

-- the output with that number among all fields; None at an input
abbrev pub output_field : BlockKind → ℕ → Option Field
output_field kind number = if nat_lt number (input_count kind) then None else slice_get (kind_fields kind) number

-- its value
abbrev pub output_value : Block → ℕ → Option Value
output_value b number = if nat_lt number (input_count (kind_of b)) then None
    else slice_get (outputs_of b) (number - input_count (kind_of b))

abbrev pub is_block : Block → Bool
is_block (blocks.Sr s) = is_bistable s
is_block (blocks.Rs s) = is_bistable s
is_block (blocks.RTrig s) = is_edge s
is_block (blocks.FTrig s) = is_edge s
is_block (blocks.Ctu s) = fits_counter s && ctu_holds s
is_block (blocks.Ctd s) = fits_counter s && ctd_holds s
is_block (blocks.Ctud s) = fits_ctud s && ctud_holds s
is_block (blocks.Tp s) = fits_timer s && tp_holds s
is_block (blocks.Ton s) = fits_timer s && ton_holds s
is_block (blocks.Tof s) = fits_timer s && tof_holds s

abbrev pub block_words : Block → List ℕ
block_words (blocks.Sr s) = bistable_words s
block_words (blocks.Rs s) = bistable_words s
block_words (blocks.RTrig s) = edge_words s
block_words (blocks.FTrig s) = edge_words s
block_words (blocks.Ctu s) = counter_words s
block_words (blocks.Ctd s) = counter_words s
block_words (blocks.Ctud s) = ctud_words s
block_words (blocks.Tp s) = timer_words s
block_words (blocks.Ton s) = timer_words s
block_words (blocks.Tof s) = timer_words s

-- of two lawful blocks of one kind with the same words, both are one
abbrev pub IsKnown : Block → Block → Type 0
IsKnown a b = is_block a ≡ true → is_block b ≡ true → kind_of a ≡ kind_of b → block_words a ≡ block_words b → a ≡ b
