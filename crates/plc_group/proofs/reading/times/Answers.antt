use Rattle.std.proofs.Common.{None, ◌≡◌, [], ◌++◌, subst}
use Rattle.toml.specs.View.{table_view}
use Rattle.plc_group.specs.Faults.{IsFirst, fresh_faults, resend_faults, times_faults, wanted_faults}
use Rattle.plc_group.specs.Said.{SaysTimes}
use Rattle.plc_group.specs.Values.{number_in, number_or}
use Rattle.plc_group.specs.declared.key.Key.TheVariants as keys
use Rattle.plc_group.specs.declared.key.TheConstants.{IDLES, PATIENCES}
use Rattle.plc_group.proofs.Firsts.{handed, told_front}
use Rattle.plc_group.proofs.reading.times.Goals as goal

pub returns-in_err-resend : goal.returns-in_err-resend
returns-in_err-resend c =
    let table = table_view c.args.table.now in
    let patience = c.in_ok-patience.patience in
    let e = c.in_err-resend.field-0.0 in
    let more = fresh_faults c.args.period table ++ wanted_faults (number_in IDLES) None keys.Idle table in
    handed (times_faults c.args.period table) (SaysTimes table c.args.period) c.from_residual-in_err-resend.result e c.from_residual-in_err-resend.ensures.1
    (rw c.in_ok-patience.ensures.judged.0
    (subst (λ p. IsFirst (resend_faults p table ++ more) e) c.in_ok-patience.ensures.judged.1
    (told_front (resend_faults patience table) more e c.in_err-resend.ensures)))

pub returns-in_err-fresh : goal.returns-in_err-fresh
returns-in_err-fresh c =
    let table = table_view c.args.table.now in
    let e = c.in_err-fresh.field-0.0 in
    let resend : resend_faults (number_or 100 PATIENCES keys.Patience table) table ≡ [] =
    subst (λ p. resend_faults p table ≡ []) c.in_ok-patience.ensures.judged.1 c.in_ok-resend.ensures.0 in
    handed (times_faults c.args.period table) (SaysTimes table c.args.period) c.from_residual-in_err-fresh.result e c.from_residual-in_err-fresh.ensures.1
    (rw (c.in_ok-patience.ensures.judged.0, resend)
    (told_front (fresh_faults c.args.period table) (wanted_faults (number_in IDLES) None keys.Idle table) e c.in_err-fresh.ensures))
