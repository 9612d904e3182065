use Rattle.std.proofs.Common.{◌+◌, Vec, Global, refl, ap, ◌∙◌}
use Rattle.il_model.specs.declared.snapshot.ForcedSlot.{ForcedSlot}
use Rattle.ctl_scan.proofs.Restored.{word_step, word_free}
use Rattle.ctl_scan.proofs.forces.save_words.Goals.{in-Some+in_ok-push, in_default}
use Rattle.ctl_scan.proofs.forces.save_words.Goals as goal

pub loop-i-preserved : goal.loop-i-preserved
loop-i-preserved c = elim c.match-forced_word.branch [
  | in-Some+in_ok-push w ↦ word_step c.args.slots.now.items c.loop-i.slots.items c.match-forced_word.slots.items c.args.base c.loop-i.i (c.args.base + c.loop-i.i) c.args.words.now _ c.forced_word.result w.in-Some.forced c.loop-i-test.true refl c.forced_word.ensures w.in-Some.is c.loop-i.invariant (ap (λ (v : Vec ForcedSlot Global). v.items) w.slots-is ∙ w.in_ok-push.ensures.items)
  | in_default w ↦ ap (λ (v : Vec ForcedSlot Global). v.items) w.slots-is ∙ word_free c.args.slots.now.items c.loop-i.slots.items c.args.base c.loop-i.i (c.args.base + c.loop-i.i) c.args.words.now _ c.forced_word.result c.loop-i-test.true c.forced_word.ensures w.in_default.is c.loop-i.invariant
]
