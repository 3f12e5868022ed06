use Rattle.cli_matches.proofs.definition.check.Goals as goal

pub returns : goal.returns
returns c =
    let objects = c.with_objects-check.ensures _ c.command-check.ensures in
    let fp = c.with_switch-check.ensures _ objects in
    let retpoline = c.with_switch-check-2.ensures _ fp in
    let rethunk = c.with_switch-check-3.ensures _ retpoline in
    let uaccess = c.with_switch-check-4.ensures _ rethunk in
    let unreachable = c.with_switch-check-5.ensures _ uaccess in
    let link = c.with_switch-check-6.ensures _ unreachable in
    let of_module = c.with_switch-check-7.ensures _ link in
    let backtrace = c.with_switch-check-8.ensures _ of_module in
    c.with_common_options.ensures _ backtrace
