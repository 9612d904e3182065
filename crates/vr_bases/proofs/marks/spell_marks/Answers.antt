use Rattle.std.proofs.Common.{rules}
use Rattle.vr_bases.proofs.Numbers.{spelled}
use Rattle.vr_bases.proofs.marks.spell_marks.Goals as goal

pub returns : goal.returns
returns c =
    spelled c.args.marks.now c.put_number.new.out.items c.put_number-2.new.out.items c.put_numbers.new.out.items c.put_number-3.new.out.items c.put_flags.new.out.items (search rules) (search rules) (search rules) (search rules) (search rules)
