use Rattle.std.proofs.Common.{◌≡◌, ℕ, ◌<◌, ◌∙◌, subst, ap}
use Rattle.elf_objects.specs.Elf.{Elf}
use Rattle.elf_objects.specs.declared.TheConstants.{MAX_SYMBOLS}
use Rattle.flow_defs.specs.Coded.{coded_by}
use Rattle.site_lists.specs.Listed.{Listed, listed}
use Rattle.site_lists.specs.Sites.{sites_of}
use Rattle.site_lists.specs.Tables.{symbols_needed}
use Rattle.code_commands.specs.Sites.{no_memory, too_many_symbols}
use Rattle.code_commands.proofs.SitesEnds.{lists_sites}
use Rattle.code_commands.proofs.sites_writing.with_its_sites.Goals as goal

pub returns-in-Ok-clause-lists : goal.returns-in-Ok-clause-lists
returns-in-Ok-clause-lists c =
    lists_sites c.lists_are_determined.ensures c.args.options (coded_by c.args.map c.args.object.now) (listed c.in_ok-lists.lists) c.in-Ok.file.items c.in_ok-lists.ensures.are c.in-Ok.ensures.sites

pub returns-in-Err-TooManySymbols-clause-stopped : goal.returns-in-Err-TooManySymbols-clause-stopped
returns-in-Err-TooManySymbols-clause-stopped c bytes is =
    let o : Elf = c.args.object.now in
    let lists : Listed = listed c.in_ok-lists.lists in
    let room = c.in_ok-check_room.ensures in
    let same : symbols_needed o lists ≡ symbols_needed o (sites_of c.args.options (coded_by c.args.map o)) = ap (symbols_needed o) c.in_ok-lists.ensures.are in
    let told = rw c.in-Err-TooManySymbols.field-0-is at c.in-Err-TooManySymbols.ensures.err in
    too_many_symbols o is c.in_ok-lists.ensures.right room.new room.few (subst (λ (n : ℕ). MAX_SYMBOLS < n) same told.0) (told.1 ∙ same)

pub returns-clause-stopped : goal.returns-clause-stopped
returns-clause-stopped c bytes is = no_memory
