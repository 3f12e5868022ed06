-- What is printed of bytes that break no rule, that break rules, and that can't be checked.
use Rattle.std.proofs.Common.{◌≡◌, ℕ, List, length, refl, sym, ap, ◌∙◌, subst, inl, inr}
use Rattle.std.specs.Prelude.{◌≢◌}
use Rattle.ot_base.specs.NameLists.{NameLists, built_in}
use Rattle.ot_base.specs.declared.row.PlacedRow.{PlacedRow}
use Rattle.ot_base.specs.declared.warning.Warning.{Warning}
use Rattle.elf_objects.specs.Elf.{Elf}
use Rattle.elf_objects.specs.Object.{IsObject}
use Rattle.flow_defs.specs.Coded.{coded_by}
use Rattle.flow_defs.specs.Program.{program_of}
use Rattle.object_check.specs.Allowances.{allowances_of}
use Rattle.x86_decode.specs.Decoding.{OneOutcome}
use Rattle.object_check.specs.Counts.{IsCounted}
use Rattle.object_check.specs.Order.{IsCheckable}
use Rattle.object_check.specs.Outcome.{AreWarnings, HasRows, IsUnbroken}
use Rattle.object_check.specs.declared.counts.CodeCounts.{CodeCounts}
use Rattle.object_check.proofs.OneCount.{one_counts}
use Rattle.command_base.specs.declared.refusal.Refusal.{Refusal}
use Rattle.command_base.specs.declared.status.Status.{Status}
use Rattle.command_base.specs.declared.status.Status.TheVariants.{Done, Warnings, Refused, FileFault, SinkFault, NoMemory}
use Rattle.command_base.specs.declared.stop.CommandStop.{CommandStop}
use Rattle.command_base.specs.declared.stop.CommandStop.TheVariants as stop
use Rattle.command_base.specs.Outside.{Output}
use Rattle.command_base.specs.Printing.{Concludes, Prints, fails, fault_stays, runs_out, silent, tells, whole}
use Rattle.command_base.proofs.ConcludeLemmas.{concluded_no_memory}
use Rattle.command_base.proofs.PrintLemmas.{nothing_printed}
use Rattle.objtool_cli.specs.Checked.{BreaksRule, IsUncheckable, IsUncheckableStop}
use Rattle.objtool_cli.specs.Summary.{IsOrFails, Passes, SumsUp, no_options, passed, stopped, summary_line, warned}
use Rattle.command_base.specs.Warnings.{warnings_text}
use Rattle.objtool_cli.proofs.AcceptsLemmas.{breaks_unbroken, warns_breaks}
use Rattle.command_base.proofs.DumpLaws.{one_object}
use Rattle.objtool_cli.proofs.CheckableLemmas.{checkable_unrefused, one_rows}

-- ---- what the check comes to

pub passes_of : (bytes : List ℕ) (o : Elf) (lists : NameLists) (counts : CodeCounts) (rows : List PlacedRow) (n : ℕ)
    → lists ≡ built_in → IsObject bytes o → IsCheckable (coded_by no_options.map o) lists × IsUnbroken (program_of (coded_by no_options.map o) lists) (allowances_of (coded_by no_options.map o) lists no_options.rules) no_options.rules × HasRows (program_of (coded_by no_options.map o) lists) rows × IsCounted (coded_by no_options.map o) counts → n ≡ length rows → Passes bytes counts n
passes_of bytes o lists counts rows n same is found so_many = record {
  object = o;
  is = is;
  checkable = subst (IsCheckable (coded_by no_options.map o)) same found.0;
  unbroken = subst (λ (l : NameLists). IsUnbroken (program_of (coded_by no_options.map o) l) (allowances_of (coded_by no_options.map o) l no_options.rules) no_options.rules) same found.1;
  counted = found.3;
  all = rows;
  has_rows = subst (λ (l : NameLists). HasRows (program_of (coded_by no_options.map o) l) rows) same found.2;
  so_many = so_many;
}

pub warned_of : (title bytes : List ℕ) (o : Elf) (lists : NameLists) (warnings told : List Warning) (out out' : Output) (x : Status)
    → lists ≡ built_in → IsObject bytes o → IsCheckable (coded_by no_options.map o) lists × AreWarnings (program_of (coded_by no_options.map o) lists) (allowances_of (coded_by no_options.map o) lists no_options.rules) no_options.rules warnings → told ≡ warnings → Prints Warnings (warnings_text o told) out out' x
    → SumsUp title bytes out out' x
warned_of title bytes o lists warnings told out out' x same is found shown t =
    warned o warnings
    (record { is = is; checkable = subst (IsCheckable (coded_by no_options.map o)) same found.0; are = subst (λ (l : NameLists). AreWarnings (program_of (coded_by no_options.map o) l) (allowances_of (coded_by no_options.map o) l no_options.rules) no_options.rules warnings) same found.1 })
    (subst (λ (ws : List Warning). Prints Warnings (warnings_text o ws) out out' x) shown t)

-- ---- bytes break no rule in one way

same_counts : (bytes : List ℕ) (a b : CodeCounts) (m n : ℕ) → Passes bytes a m → Passes bytes b n → a ≡ b
same_counts bytes a b m n h k =
    let same = one_object bytes h.object k.object h.is k.is in
    one_counts (coded_by no_options.map k.object) a b (subst (λ (o : Elf). IsCounted (coded_by no_options.map o) a) same h.counted) k.counted

same_rows : (bytes : List ℕ) (a b : CodeCounts) (m n : ℕ) → Passes bytes a m → Passes bytes b n → m ≡ n
same_rows bytes a b m n h k =
    let same = one_object bytes h.object k.object h.is k.is in
    let rows = one_rows (program_of (coded_by no_options.map k.object) built_in) h.all k.all (subst (λ (o : Elf). HasRows (program_of (coded_by no_options.map o) built_in) h.all) same h.has_rows) k.has_rows in
    h.so_many ∙ ap length rows ∙ sym k.so_many

-- ---- that break none

passes_no_warning : (bytes : List ℕ) (counts : CodeCounts) (rows : ℕ) → Passes bytes counts rows → BreaksRule bytes built_in no_options → ⊥
passes_no_warning bytes counts rows p breaks = breaks_unbroken bytes built_in no_options p.object breaks p.is p.unbroken

-- where memory runs out, nothing was printed
unprinted : (end : Status) (text : List ℕ) (out out' : Output) (x : Status) → Concludes stop.NoMemory out out' x → Prints end text out out' x
unprinted end text out out' x (tells other t) = absurd (other refl)
unprinted end text out out' NoMemory (silent is same) = nothing_printed end text out out' same

passes_stop : OneOutcome → (s : CommandStop) (title bytes : List ℕ) (counts : CodeCounts) (rows : ℕ) (out out' : Output) (x : Status) → Passes bytes counts rows → IsUncheckableStop no_options.map bytes built_in s → Concludes s out out' x → Prints Done (summary_line title counts rows) out out' x
passes_stop one (stop.Refused told) title bytes counts rows out out' x p h t = absurd (checkable_unrefused one no_options.map bytes built_in p.object told p.is p.checkable h)
passes_stop one stop.NoMemory title bytes counts rows out out' x p h t = unprinted Done _ out out' x t
passes_stop one (stop.Usage usage) title bytes counts rows out out' x p h t = absurd h
passes_stop one (stop.PartMissing part file) title bytes counts rows out out' x p h t = absurd h
passes_stop one (stop.PartTooLong part file limit) title bytes counts rows out out' x p h t = absurd h
passes_stop one (stop.PartRefused part refusal) title bytes counts rows out out' x p h t = absurd h
passes_stop one (stop.Missing file) title bytes counts rows out out' x p h t = absurd h
passes_stop one (stop.TooLong file limit) title bytes counts rows out out' x p h t = absurd h
passes_stop one (stop.FileFault file) title bytes counts rows out out' x p h t = absurd h

pub sums_passed : OneOutcome → (title bytes : List ℕ) (counts : CodeCounts) (rows : ℕ) (out out' : Output) (x : Status) → SumsUp title bytes out out' x → Passes bytes counts rows → Prints Done (summary_line title counts rows) out out' x
sums_passed one title bytes counts rows out out' x (passed others more q t) p =
    subst (λ (n : ℕ). Prints Done (summary_line title counts n) out out' x) (same_rows bytes others counts more rows q p)
    (subst (λ (c : CodeCounts). Prints Done (summary_line title c more) out out' x) (same_counts bytes others counts more rows q p) t)
sums_passed one title bytes counts rows out out' x (warned o warnings w t) p = absurd (passes_no_warning bytes counts rows p (warns_breaks bytes built_in no_options o warnings w))
sums_passed one title bytes counts rows out out' x (stopped s h t) p = passes_stop one s title bytes counts rows out out' x p h t

-- ---- that break some, and that can't be checked

ends_or_fails : (end : Status) (text : List ℕ) (out out' : Output) (x : Status) → Prints end text out out' x → end ≢ FileFault → IsOrFails end x
ends_or_fails end text out out' x (whole at all) other = inl at
ends_or_fails end text out out' FileFault (fault_stays prefix rose at) other = absurd (other at)
ends_or_fails end text out out' SinkFault (fails prefix rose at) other = inr (inl refl)
ends_or_fails end text out out' NoMemory (runs_out prefix) other = inr (inr refl)

warnings_no_fault : Warnings ≢ FileFault
warnings_no_fault e = cc

refused_no_fault : Refused ≢ FileFault
refused_no_fault e = cc

memory_fails : (end : Status) (out out' : Output) (x : Status) → Concludes stop.NoMemory out out' x → IsOrFails end x
memory_fails end out out' x t = inr (inr (concluded_no_memory out out' x t))

breaks_stop : OneOutcome → (s : CommandStop) (bytes : List ℕ) (out out' : Output) (x : Status) → BreaksRule bytes built_in no_options → IsUncheckableStop no_options.map bytes built_in s → Concludes s out out' x → IsOrFails Warnings x
breaks_stop one (stop.Refused told) bytes out out' x b h t = absurd (checkable_unrefused one no_options.map bytes built_in b.object told b.is b.checkable h)
breaks_stop one stop.NoMemory bytes out out' x b h t = memory_fails Warnings out out' x t
breaks_stop one (stop.Usage usage) bytes out out' x b h t = absurd h
breaks_stop one (stop.PartMissing part file) bytes out out' x b h t = absurd h
breaks_stop one (stop.PartTooLong part file limit) bytes out out' x b h t = absurd h
breaks_stop one (stop.PartRefused part refusal) bytes out out' x b h t = absurd h
breaks_stop one (stop.Missing file) bytes out out' x b h t = absurd h
breaks_stop one (stop.TooLong file limit) bytes out out' x b h t = absurd h
breaks_stop one (stop.FileFault file) bytes out out' x b h t = absurd h

pub sums_broken : OneOutcome → (title bytes : List ℕ) (out out' : Output) (x : Status) → SumsUp title bytes out out' x → BreaksRule bytes built_in no_options → IsOrFails Warnings x
sums_broken one title bytes out out' x (passed counts rows p t) b = absurd (passes_no_warning bytes counts rows p b)
sums_broken one title bytes out out' x (warned o warnings w t) b = ends_or_fails Warnings _ out out' x t warnings_no_fault
sums_broken one title bytes out out' x (stopped s h t) b = breaks_stop one s bytes out out' x b h t

refusal_ends : (told : Refusal) (out out' : Output) (x : Status) → Concludes (stop.Refused told) out out' x → IsOrFails Refused x
refusal_ends told out out' x (tells other t) = ends_or_fails Refused _ out out' x t refused_no_fault
refusal_ends told out out' NoMemory (silent is same) = inr (inr refl)

uncheckable_stop : (s : CommandStop) (bytes : List ℕ) (out out' : Output) (x : Status) → IsUncheckableStop no_options.map bytes built_in s → Concludes s out out' x → IsOrFails Refused x
uncheckable_stop (stop.Refused told) bytes out out' x h t = refusal_ends told out out' x t
uncheckable_stop stop.NoMemory bytes out out' x h t = memory_fails Refused out out' x t
uncheckable_stop (stop.Usage usage) bytes out out' x h t = absurd h
uncheckable_stop (stop.PartMissing part file) bytes out out' x h t = absurd h
uncheckable_stop (stop.PartTooLong part file limit) bytes out out' x h t = absurd h
uncheckable_stop (stop.PartRefused part refusal) bytes out out' x h t = absurd h
uncheckable_stop (stop.Missing file) bytes out out' x h t = absurd h
uncheckable_stop (stop.TooLong file limit) bytes out out' x h t = absurd h
uncheckable_stop (stop.FileFault file) bytes out out' x h t = absurd h

pub sums_uncheckable : OneOutcome → (title bytes : List ℕ) (told : Refusal) (out out' : Output) (x : Status) → SumsUp title bytes out out' x → IsUncheckable no_options.map bytes built_in told → IsOrFails Refused x
sums_uncheckable one title bytes told out out' x (passed counts rows p t) u = absurd (checkable_unrefused one no_options.map bytes built_in p.object told p.is p.checkable u)
sums_uncheckable one title bytes told out out' x (warned o warnings w t) u = absurd (checkable_unrefused one no_options.map bytes built_in o told w.is w.checkable u)
sums_uncheckable one title bytes told out out' x (stopped s h t) u = uncheckable_stop s bytes out out' x h t
