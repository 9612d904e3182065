use Rattle.std.proofs.Common.{rules, ◌≡◌, List, [], ◌++◌, None, subst, sym, ◌∙◌}
use Rattle.std.specs.Prelude.{is_some, ◌||◌}
use Rattle.toml.specs.View.{table_view}
use Rattle.plc_group.specs.Faults.{IsFirst, all_exposed_faults, beside_faults, consoles_faults, faults_of, identity_faults, machines_faults, replicas_faults, settings_faults, unknown_faults}
use Rattle.plc_group.specs.Said.{Says}
use Rattle.plc_group.specs.declared.key.Key.{Key}
use Rattle.plc_group.specs.declared.key.TheConstants.{GROUP_KEYS}
use Rattle.plc_group.proofs.Consoles.{consoles_are}
use Rattle.plc_group.proofs.Reached.{replicas_are}
use Rattle.plc_group.proofs.Firsts.{handed, none_both, told_behind, told_front}
use Rattle.plc_group.proofs.reading.group_of.Goals as goal

pub returns-in_err-refuse_unknown : goal.returns-in_err-refuse_unknown
returns-in_err-refuse_unknown c =
    let table = table_view c.args.table.now in
    let e = c.in_err-refuse_unknown.field-0.0 in
    let more = settings_faults table ++ (machines_faults table ++ (consoles_faults table ++ (replicas_faults table ++ identity_faults table))) in
    handed (faults_of table) (Says table) c.from_residual.result e c.from_residual.ensures.1
    (subst (λ (known : List Key). IsFirst (unknown_faults None known table ++ more) e) c.as_slice.ensures
    (told_front (unknown_faults None c.as_slice.result.now table) more e c.in_err-refuse_unknown.ensures))

pub returns-in_err-settings : goal.returns-in_err-settings
returns-in_err-settings c =
    let table = table_view c.args.table.now in
    let e = c.in_err-settings.field-0.0 in
    let none : unknown_faults None GROUP_KEYS table ≡ [] =
    subst (λ (known : List Key). unknown_faults None known table ≡ []) c.as_slice.ensures c.in_ok-refuse_unknown.ensures.0 in
    let more = machines_faults table ++ (consoles_faults table ++ (replicas_faults table ++ identity_faults table)) in
    handed (faults_of table) (Says table) c.from_residual-in_err-settings.result e c.from_residual-in_err-settings.ensures.1
    (told_behind (unknown_faults None GROUP_KEYS table) (settings_faults table ++ more) e none
    (told_front (settings_faults table) more e c.in_err-settings.ensures))

pub returns-in_err-machines : goal.returns-in_err-machines
returns-in_err-machines c =
    let table = table_view c.args.table.now in
    let e = c.in_err-machines.field-0.0 in
    let none : unknown_faults None GROUP_KEYS table ≡ [] =
    subst (λ (known : List Key). unknown_faults None known table ≡ []) c.as_slice.ensures c.in_ok-refuse_unknown.ensures.0 in
    let more = consoles_faults table ++ (replicas_faults table ++ identity_faults table) in
    handed (faults_of table) (Says table) c.from_residual-in_err-machines.result e c.from_residual-in_err-machines.ensures.1
    (told_behind (unknown_faults None GROUP_KEYS table) (settings_faults table ++ (machines_faults table ++ more)) e none
    (told_behind (settings_faults table) (machines_faults table ++ more) e c.in_ok-settings.ensures.0
    (told_front (machines_faults table) more e c.in_err-machines.ensures.judged)))

pub returns-in_err-refuse_ports : goal.returns-in_err-refuse_ports
returns-in_err-refuse_ports c =
    let table = table_view c.args.table.now in
    let e = c.in_err-refuse_ports.field-0.0 in
    let none : unknown_faults None GROUP_KEYS table ≡ [] =
    subst (λ (known : List Key). unknown_faults None known table ≡ []) c.as_slice.ensures c.in_ok-refuse_unknown.ensures.0 in
    let sockets = c.in_ok-settings.settings.console_sockets in
    let machines = c.in_ok-machines.machines.items in
    let told : IsFirst (beside_faults (is_some sockets) machines) e = search rules in
    let consoles : consoles_faults table ≡ beside_faults (is_some sockets) machines =
    consoles_are table sockets machines c.in_ok-settings.ensures.1.consoles.1 c.in_ok-machines.ensures.judged.1 in
    let more = consoles_faults table ++ (replicas_faults table ++ identity_faults table) in
    handed (faults_of table) (Says table) c.from_residual-in_err-refuse_ports.result e c.from_residual-in_err-refuse_ports.ensures.1
    (told_behind (unknown_faults None GROUP_KEYS table) (settings_faults table ++ (machines_faults table ++ more)) e none
    (told_behind (settings_faults table) (machines_faults table ++ more) e c.in_ok-settings.ensures.0
    (told_behind (machines_faults table) more e c.in_ok-machines.ensures.judged.0
    (told_front (consoles_faults table) (replicas_faults table ++ identity_faults table) e (subst (λ fs. IsFirst fs e) (sym consoles) told)))))

pub returns-in_err-refuse_exposed : goal.returns-in_err-refuse_exposed
returns-in_err-refuse_exposed c =
    let table = table_view c.args.table.now in
    let e = c.in_err-refuse_exposed.field-0.0 in
    let none : unknown_faults None GROUP_KEYS table ≡ [] =
    subst (λ (known : List Key). unknown_faults None known table ≡ []) c.as_slice.ensures c.in_ok-refuse_unknown.ensures.0 in
    let settings = c.in_ok-settings.settings in
    let sockets = settings.console_sockets in
    let machines = c.in_ok-machines.machines.items in
    let alone : beside_faults (is_some sockets) machines ≡ [] = search rules in
    let consoles : consoles_faults table ≡ beside_faults (is_some sockets) machines =
    consoles_are table sockets machines c.in_ok-settings.ensures.1.consoles.1 c.in_ok-machines.ensures.judged.1 in
    let may_be = is_some settings.key_file || settings.is_insecure in
    let told : IsFirst (all_exposed_faults may_be machines) e = search rules in
    let replicas : replicas_faults table ≡ all_exposed_faults may_be machines =
    replicas_are table settings.key_file settings.is_insecure machines c.in_ok-settings.ensures.1.key.0 c.in_ok-settings.ensures.1.key.1 c.in_ok-machines.ensures.judged.1 in
    let more = replicas_faults table ++ identity_faults table in
    handed (faults_of table) (Says table) c.from_residual-in_err-refuse_exposed.result e c.from_residual-in_err-refuse_exposed.ensures.1
    (told_behind (unknown_faults None GROUP_KEYS table) (settings_faults table ++ (machines_faults table ++ (consoles_faults table ++ more))) e none
    (told_behind (settings_faults table) (machines_faults table ++ (consoles_faults table ++ more)) e c.in_ok-settings.ensures.0
    (told_behind (machines_faults table) (consoles_faults table ++ more) e c.in_ok-machines.ensures.judged.0
    (told_behind (consoles_faults table) more e (consoles ∙ alone)
    (told_front (replicas_faults table) (identity_faults table) e (subst (λ fs. IsFirst fs e) (sym replicas) told))))))

pub returns-in_err-identity : goal.returns-in_err-identity
returns-in_err-identity c =
    let table = table_view c.args.table.now in
    let e = c.in_err-identity.field-0.0 in
    let none : unknown_faults None GROUP_KEYS table ≡ [] =
    subst (λ (known : List Key). unknown_faults None known table ≡ []) c.as_slice.ensures c.in_ok-refuse_unknown.ensures.0 in
    let settings = c.in_ok-settings.settings in
    let sockets = settings.console_sockets in
    let machines = c.in_ok-machines.machines.items in
    let alone : beside_faults (is_some sockets) machines ≡ [] = search rules in
    let consoles : consoles_faults table ≡ beside_faults (is_some sockets) machines =
    consoles_are table sockets machines c.in_ok-settings.ensures.1.consoles.1 c.in_ok-machines.ensures.judged.1 in
    let may_be = is_some settings.key_file || settings.is_insecure in
    let closed : all_exposed_faults may_be machines ≡ [] = search rules in
    let replicas : replicas_faults table ≡ all_exposed_faults may_be machines =
    replicas_are table settings.key_file settings.is_insecure machines c.in_ok-settings.ensures.1.key.0 c.in_ok-settings.ensures.1.key.1 c.in_ok-machines.ensures.judged.1 in
    let more = replicas_faults table ++ identity_faults table in
    handed (faults_of table) (Says table) c.from_residual-in_err-identity.result e c.from_residual-in_err-identity.ensures.1
    (told_behind (unknown_faults None GROUP_KEYS table) (settings_faults table ++ (machines_faults table ++ (consoles_faults table ++ more))) e none
    (told_behind (settings_faults table) (machines_faults table ++ (consoles_faults table ++ more)) e c.in_ok-settings.ensures.0
    (told_behind (machines_faults table) (consoles_faults table ++ more) e c.in_ok-machines.ensures.judged.0
    (told_behind (consoles_faults table) more e (consoles ∙ alone)
    (told_behind (replicas_faults table) (identity_faults table) e (replicas ∙ closed) c.in_err-identity.ensures)))))

pub returns : goal.returns
returns c =
    let table = table_view c.args.table.now in
    let none : unknown_faults None GROUP_KEYS table ≡ [] =
    subst (λ (known : List Key). unknown_faults None known table ≡ []) c.as_slice.ensures c.in_ok-refuse_unknown.ensures.0 in
    let settings = c.in_ok-settings.settings in
    let sockets = settings.console_sockets in
    let machines = c.in_ok-machines.machines.items in
    let alone : beside_faults (is_some sockets) machines ≡ [] = search rules in
    let consoles : consoles_faults table ≡ beside_faults (is_some sockets) machines =
    consoles_are table sockets machines c.in_ok-settings.ensures.1.consoles.1 c.in_ok-machines.ensures.judged.1 in
    let may_be = is_some settings.key_file || settings.is_insecure in
    let closed : all_exposed_faults may_be machines ≡ [] = search rules in
    let replicas : replicas_faults table ≡ all_exposed_faults may_be machines =
    replicas_are table settings.key_file settings.is_insecure machines c.in_ok-settings.ensures.1.key.0 c.in_ok-settings.ensures.1.key.1 c.in_ok-machines.ensures.judged.1 in
    let more = replicas_faults table ++ identity_faults table in
    let nothing : faults_of table ≡ [] =
    none_both (unknown_faults None GROUP_KEYS table) (settings_faults table ++ (machines_faults table ++ (consoles_faults table ++ more))) none
    (none_both (settings_faults table) (machines_faults table ++ (consoles_faults table ++ more)) c.in_ok-settings.ensures.0
    (none_both (machines_faults table) (consoles_faults table ++ more) c.in_ok-machines.ensures.judged.0
    (none_both (consoles_faults table) more (consoles ∙ alone)
    (none_both (replicas_faults table) (identity_faults table) (replicas ∙ closed) c.in_ok-identity.ensures.0)))) in
    (nothing, search rules)
