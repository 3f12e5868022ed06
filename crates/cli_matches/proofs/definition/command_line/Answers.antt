use Rattle.std.proofs.Common.{refl}
use Rattle.cli_matches.proofs.definition.command_line.Goals as goal

pub returns : goal.returns
returns c =
    let check = c.with_command-line.ensures _ _ refl c.program.ensures c.check.ensures in
    let dump = c.with_command-line-2.ensures _ _ refl check c.dump.ensures in
    let unwind = c.with_command-line-3.ensures _ _ refl dump c.unwind.ensures in
    let sites = c.with_command-line-4.ensures _ _ refl unwind c.sites.ensures in
    let list = c.with_command-line-5.ensures _ _ refl sites c.list.ensures in
    let entry = c.with_command-line-6.ensures _ _ refl list c.entry.ensures in
    let cfi = c.with_command-line-7.ensures _ _ refl entry c.cfi.ensures in
    let cfa = c.with_command-line-8.ensures _ _ refl cfi c.cfa.ensures in
    let merge = c.with_command-line-9.ensures _ _ refl cfa c.merge.ensures in
    let find = c.with_command-line-10.ensures _ _ refl merge c.find.ensures in
    let show = c.with_command-line-11.ensures _ _ refl find c.show.ensures in
    let explain = c.with_command-line-12.ensures _ _ refl show c.explain.ensures in
    let demo = c.with_command-line-13.ensures _ _ refl explain c.demo.ensures in
    let help = c.with_text-line.ensures _ demo in
    c.with_text.ensures _ help
