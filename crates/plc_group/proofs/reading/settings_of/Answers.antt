use Rattle.std.proofs.Common.{None, ◌≡◌, [], ◌++◌, subst}
use Rattle.toml.specs.Data.{as_bool}
use Rattle.toml.specs.View.{table_view}
use Rattle.plc_group.specs.Faults.{IsFirst, access_faults, clients_faults, settings_faults, times_faults, wanted_faults}
use Rattle.plc_group.specs.Said.{SaysSettings}
use Rattle.plc_group.specs.Values.{cold_start_of, console_key_of, number_in, number_or, path_of}
use Rattle.plc_group.specs.declared.key.TheConstants.{BUDGETS, DISTANCES, PERIODS}
use Rattle.plc_group.specs.declared.key.Key.TheVariants as keys
use Rattle.plc_group.proofs.Firsts.{handed, told_front}
use Rattle.plc_group.proofs.reading.settings_of.Goals as goal

pub returns-in_err-period : goal.returns-in_err-period
returns-in_err-period c =
    let table = table_view c.args.table.now in
    let e = c.in_err-period.field-0.0 in
    let more = wanted_faults (number_in BUDGETS) None keys.Budget table
    ++ (wanted_faults (number_in DISTANCES) None keys.Every table
    ++ (times_faults (number_or 100 PERIODS keys.Period table) table
    ++ (wanted_faults cold_start_of None keys.ColdStart table
    ++ (wanted_faults console_key_of None keys.ConsoleKey table
    ++ (wanted_faults path_of None keys.ConsoleSockets table ++ access_faults table))))) in
    handed (settings_faults table) (SaysSettings table) c.from_residual-in_err-period.result e c.from_residual-in_err-period.ensures.1
    (rw c.in_ok-name.ensures.0
    (told_front (wanted_faults (number_in PERIODS) None keys.Period table) more e c.in_err-period.ensures.judged))

pub returns-in_err-instructions : goal.returns-in_err-instructions
returns-in_err-instructions c =
    let table = table_view c.args.table.now in
    let e = c.in_err-instructions.field-0.0 in
    let more = wanted_faults (number_in DISTANCES) None keys.Every table
    ++ (times_faults (number_or 100 PERIODS keys.Period table) table
    ++ (wanted_faults cold_start_of None keys.ColdStart table
    ++ (wanted_faults console_key_of None keys.ConsoleKey table
    ++ (wanted_faults path_of None keys.ConsoleSockets table ++ access_faults table)))) in
    handed (settings_faults table) (SaysSettings table) c.from_residual-in_err-instructions.result e c.from_residual-in_err-instructions.ensures.1
    (rw (c.in_ok-name.ensures.0, c.in_ok-period.ensures.judged.0)
    (told_front (wanted_faults (number_in BUDGETS) None keys.Budget table) more e c.in_err-instructions.ensures.judged))

pub returns-in_err-every : goal.returns-in_err-every
returns-in_err-every c =
    let table = table_view c.args.table.now in
    let e = c.in_err-every.field-0.0 in
    let more = times_faults (number_or 100 PERIODS keys.Period table) table
    ++ (wanted_faults cold_start_of None keys.ColdStart table
    ++ (wanted_faults console_key_of None keys.ConsoleKey table
    ++ (wanted_faults path_of None keys.ConsoleSockets table ++ access_faults table))) in
    handed (settings_faults table) (SaysSettings table) c.from_residual-in_err-every.result e c.from_residual-in_err-every.ensures.1
    (rw (c.in_ok-name.ensures.0, c.in_ok-period.ensures.judged.0, c.in_ok-instructions.ensures.judged.0)
    (told_front (wanted_faults (number_in DISTANCES) None keys.Every table) more e c.in_err-every.ensures.judged))

pub returns-in_err-times : goal.returns-in_err-times
returns-in_err-times c =
    let table = table_view c.args.table.now in
    let period = c.in_ok-period.period in
    let e = c.in_err-times.field-0.0 in
    let more = wanted_faults cold_start_of None keys.ColdStart table
    ++ (wanted_faults console_key_of None keys.ConsoleKey table
    ++ (wanted_faults path_of None keys.ConsoleSockets table ++ access_faults table)) in
    handed (settings_faults table) (SaysSettings table) c.from_residual-in_err-times.result e c.from_residual-in_err-times.ensures.1
    (rw (c.in_ok-name.ensures.0, c.in_ok-period.ensures.judged.0, c.in_ok-instructions.ensures.judged.0, c.in_ok-every.ensures.judged.0)
    (subst (λ p. IsFirst (times_faults p table ++ more) e) c.in_ok-period.ensures.judged.1
    (told_front (times_faults period table) more e c.in_err-times.ensures)))

pub returns-in_err-cold_start : goal.returns-in_err-cold_start
returns-in_err-cold_start c =
    let table = table_view c.args.table.now in
    let e = c.in_err-cold_start.field-0.0 in
    let times : times_faults (number_or 100 PERIODS keys.Period table) table ≡ [] =
    subst (λ p. times_faults p table ≡ []) c.in_ok-period.ensures.judged.1 c.in_ok-times.ensures.0 in
    let more = wanted_faults console_key_of None keys.ConsoleKey table
    ++ (wanted_faults path_of None keys.ConsoleSockets table ++ access_faults table) in
    handed (settings_faults table) (SaysSettings table) c.from_residual-in_err-cold_start.result e c.from_residual-in_err-cold_start.ensures.1
    (rw (c.in_ok-name.ensures.0, c.in_ok-period.ensures.judged.0, c.in_ok-instructions.ensures.judged.0, c.in_ok-every.ensures.judged.0, times)
    (told_front (wanted_faults cold_start_of None keys.ColdStart table) more e c.in_err-cold_start.ensures))

pub returns-in_err-console_key : goal.returns-in_err-console_key
returns-in_err-console_key c =
    let table = table_view c.args.table.now in
    let e = c.in_err-console_key.field-0.0 in
    let times : times_faults (number_or 100 PERIODS keys.Period table) table ≡ [] =
    subst (λ p. times_faults p table ≡ []) c.in_ok-period.ensures.judged.1 c.in_ok-times.ensures.0 in
    let more = wanted_faults path_of None keys.ConsoleSockets table ++ access_faults table in
    handed (settings_faults table) (SaysSettings table) c.from_residual-in_err-console_key.result e c.from_residual-in_err-console_key.ensures.1
    (rw (c.in_ok-name.ensures.0, c.in_ok-period.ensures.judged.0, c.in_ok-instructions.ensures.judged.0, c.in_ok-every.ensures.judged.0, times, c.in_ok-cold_start.ensures.0)
    (told_front (wanted_faults console_key_of None keys.ConsoleKey table) more e c.in_err-console_key.ensures))

pub returns-in_err-console_sockets : goal.returns-in_err-console_sockets
returns-in_err-console_sockets c =
    let table = table_view c.args.table.now in
    let e = c.in_err-console_sockets.field-0.0 in
    let times : times_faults (number_or 100 PERIODS keys.Period table) table ≡ [] =
    subst (λ p. times_faults p table ≡ []) c.in_ok-period.ensures.judged.1 c.in_ok-times.ensures.0 in
    handed (settings_faults table) (SaysSettings table) c.from_residual-in_err-console_sockets.result e c.from_residual-in_err-console_sockets.ensures.1
    (rw (c.in_ok-name.ensures.0, c.in_ok-period.ensures.judged.0, c.in_ok-instructions.ensures.judged.0, c.in_ok-every.ensures.judged.0, times, c.in_ok-cold_start.ensures.0, c.in_ok-console_key.ensures.0)
    (told_front (wanted_faults path_of None keys.ConsoleSockets table) (access_faults table) e c.in_err-console_sockets.ensures))

pub returns-in_err-key_file : goal.returns-in_err-key_file
returns-in_err-key_file c =
    let table = table_view c.args.table.now in
    let e = c.in_err-key_file.field-0.0 in
    let times : times_faults (number_or 100 PERIODS keys.Period table) table ≡ [] =
    subst (λ p. times_faults p table ≡ []) c.in_ok-period.ensures.judged.1 c.in_ok-times.ensures.0 in
    handed (settings_faults table) (SaysSettings table) c.from_residual-in_err-key_file.result e c.from_residual-in_err-key_file.ensures.1
    (rw (c.in_ok-name.ensures.0, c.in_ok-period.ensures.judged.0, c.in_ok-instructions.ensures.judged.0, c.in_ok-every.ensures.judged.0, times, c.in_ok-cold_start.ensures.0, c.in_ok-console_key.ensures.0, c.in_ok-console_sockets.ensures.0)
    (told_front (wanted_faults path_of None keys.KeyFile table) (wanted_faults as_bool None keys.Insecure table ++ clients_faults table) e c.in_err-key_file.ensures))

pub returns-in_err-is_insecure : goal.returns-in_err-is_insecure
returns-in_err-is_insecure c =
    let table = table_view c.args.table.now in
    let e = c.in_err-is_insecure.field-0.0 in
    let times : times_faults (number_or 100 PERIODS keys.Period table) table ≡ [] =
    subst (λ p. times_faults p table ≡ []) c.in_ok-period.ensures.judged.1 c.in_ok-times.ensures.0 in
    handed (settings_faults table) (SaysSettings table) c.from_residual-in_err-is_insecure.result e c.from_residual-in_err-is_insecure.ensures.1
    (rw (c.in_ok-name.ensures.0, c.in_ok-period.ensures.judged.0, c.in_ok-instructions.ensures.judged.0, c.in_ok-every.ensures.judged.0, times, c.in_ok-cold_start.ensures.0, c.in_ok-console_key.ensures.0, c.in_ok-console_sockets.ensures.0, c.in_ok-key_file.ensures.0)
    (told_front (wanted_faults as_bool None keys.Insecure table) (clients_faults table) e c.in_err-is_insecure.ensures))
