use Rattle.std.proofs.Common.{ℕ, List, ◌++◌, length, ap, ◌∙◌, subst, sym, ◌<◌}
use Rattle.std.specs.List.{flat_map}
use Rattle.il_model.specs.Marks.{Mark, marks_from}
use Rattle.il_model.specs.Image.{mark_bytes}
use Rattle.il_assembler.proofs.Addresses.{first_address, label_gone, addresses_count}
use Rattle.il_assembler.proofs.encode.put_labels.Goals as goal

pub loop-n-init : goal.loop-n-init
loop-n-init c = ap (λ (ms : List Mark). c.args.out.now.items ++ flat_map mark_bytes ms) (first_address c.args.code.now)

pub bounds-addresses-n : goal.bounds-addresses-n
bounds-addresses-n c = subst (λ (k : ℕ). c.loop-n.n < k) (sym (ap length c.requires ∙ addresses_count c.args.code.now 0)) c.loop-n-test.true

pub loop-n-preserved : goal.loop-n-preserved
loop-n-preserved c =
    label_gone c.args.code.now c.args.addresses.now c.loop-n.n c.index-code-n.result _ c.loop-n.out.items c.put_label_of.new.out.items (c.args.out.now.items ++ flat_map mark_bytes (marks_from 0 c.args.code.now))
    c.loop-n-test.true c.requires c.index-code-n.is c.in_ok-put_label_of.ensures c.loop-n.invariant
