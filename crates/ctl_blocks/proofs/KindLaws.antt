-- A block is of its kind before its first call, and stays so.
use Rattle.std.proofs.Common.{◌≡◌, ℕ, refl}
use Rattle.std.specs.Prelude.{List}
use Rattle.il_values.specs.declared.value.Value.{Value}
use Rattle.il_model.specs.declared.kind.BlockKind.{BlockKind}
use Rattle.il_model.specs.declared.kind.BlockKind.TheVariants as kinds
use Rattle.ctl_blocks.specs.declared.block.Block.{Block}
use Rattle.ctl_blocks.specs.declared.block.Block.TheVariants as blocks
use Rattle.ctl_blocks.specs.Blocks.{kind_of, cold_block, block_after}

pub kind_of-cold : (kind : BlockKind) → kind_of (cold_block kind) ≡ kind
kind_of-cold kinds.Sr = refl
kind_of-cold kinds.Rs = refl
kind_of-cold kinds.RTrig = refl
kind_of-cold kinds.FTrig = refl
kind_of-cold kinds.Ctu = refl
kind_of-cold kinds.Ctd = refl
kind_of-cold kinds.Ctud = refl
kind_of-cold kinds.Tp = refl
kind_of-cold kinds.Ton = refl
kind_of-cold kinds.Tof = refl

pub kind_of-after : (b : Block) (vs : List Value) (now : ℕ) → kind_of (block_after b vs now) ≡ kind_of b
kind_of-after (blocks.Sr s) vs now = refl
kind_of-after (blocks.Rs s) vs now = refl
kind_of-after (blocks.RTrig s) vs now = refl
kind_of-after (blocks.FTrig s) vs now = refl
kind_of-after (blocks.Ctu s) vs now = refl
kind_of-after (blocks.Ctd s) vs now = refl
kind_of-after (blocks.Ctud s) vs now = refl
kind_of-after (blocks.Tp s) vs now = refl
kind_of-after (blocks.Ton s) vs now = refl
kind_of-after (blocks.Tof s) vs now = refl
