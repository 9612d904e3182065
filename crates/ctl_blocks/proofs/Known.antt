-- A lawful block is known by its kind and its words.
use Rattle.std.proofs.Common.{◌≡◌, ℕ, true, List, sym, ap, ◌∙◌}
use Rattle.il_model.specs.declared.kind.BlockKind.{BlockKind}
use Rattle.il_model.specs.declared.kind.BlockKind.TheVariants as kinds
use Rattle.ctl_blocks.specs.declared.block.Block.{Block}
use Rattle.ctl_blocks.specs.declared.block.Block.TheVariants as blocks
use Rattle.ctl_blocks.specs.Blocks.{kind_of, is_block, block_words, IsKnown}
use Rattle.ctl_blocks.specs.Counters.{fits_counter, fits_ctud, ctu_holds, ctd_holds, ctud_holds}
use Rattle.ctl_blocks.specs.Timers.{fits_timer, tp_holds, ton_holds, tof_holds}
use Rattle.ctl_blocks.proofs.Logic.{and_yes}
use Rattle.ctl_blocks.proofs.Bistables.{bistable_in, bistable_back}
use Rattle.ctl_blocks.proofs.Edges.{edge_in, edge_back}
use Rattle.ctl_blocks.proofs.Counters.{counter_in, ctud_in, counter_back, ctud_back}
use Rattle.ctl_blocks.proofs.Timers.{timer_in, timer_back}

-- the block that words stand for
abbrev block_of : BlockKind → List ℕ → Block
block_of kinds.Sr ws = blocks.Sr (bistable_in ws)
block_of kinds.Rs ws = blocks.Rs (bistable_in ws)
block_of kinds.RTrig ws = blocks.RTrig (edge_in ws)
block_of kinds.FTrig ws = blocks.FTrig (edge_in ws)
block_of kinds.Ctu ws = blocks.Ctu (counter_in ws)
block_of kinds.Ctd ws = blocks.Ctd (counter_in ws)
block_of kinds.Ctud ws = blocks.Ctud (ctud_in ws)
block_of kinds.Tp ws = blocks.Tp (timer_in ws)
block_of kinds.Ton ws = blocks.Ton (timer_in ws)
block_of kinds.Tof ws = blocks.Tof (timer_in ws)

block_again : (b : Block) → is_block b ≡ true → block_of (kind_of b) (block_words b) ≡ b
block_again (blocks.Sr s) h = ap (λ t. blocks.Sr t) (bistable_back s)
block_again (blocks.Rs s) h = ap (λ t. blocks.Rs t) (bistable_back s)
block_again (blocks.RTrig s) h = ap (λ t. blocks.RTrig t) (edge_back s)
block_again (blocks.FTrig s) h = ap (λ t. blocks.FTrig t) (edge_back s)
block_again (blocks.Ctu s) h = ap (λ t. blocks.Ctu t) (counter_back s (and_yes (fits_counter s) (ctu_holds s) h).0)
block_again (blocks.Ctd s) h = ap (λ t. blocks.Ctd t) (counter_back s (and_yes (fits_counter s) (ctd_holds s) h).0)
block_again (blocks.Ctud s) h = ap (λ t. blocks.Ctud t) (ctud_back s (and_yes (fits_ctud s) (ctud_holds s) h).0)
block_again (blocks.Tp s) h = ap (λ t. blocks.Tp t) (timer_back s (and_yes (fits_timer s) (tp_holds s) h).0)
block_again (blocks.Ton s) h = ap (λ t. blocks.Ton t) (timer_back s (and_yes (fits_timer s) (ton_holds s) h).0)
block_again (blocks.Tof s) h = ap (λ t. blocks.Tof t) (timer_back s (and_yes (fits_timer s) (tof_holds s) h).0)

pub block_same : (a b : Block) → IsKnown a b
block_same a b la lb k w = sym (block_again a la) ∙ ap (λ (kind : BlockKind). block_of kind (block_words a)) k ∙ ap (block_of (kind_of b)) w ∙ block_again b lb
