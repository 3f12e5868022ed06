use Rattle.std.proofs.Common.{◌≡◌, ℕ, subst, ◌∙◌, sym, ap, arith}
use Rattle.elf_objects.specs.declared.symbol.Home.TheVariants as home
use Rattle.elf_objects.specs.Elf.{SymbolEntry}
use Rattle.orc_bytes.specs.Faults.{StandsForText}
use Rattle.orc_bytes.proofs.OneList.{symbol_below, symbol_home}
use Rattle.site_lists.proofs.reading.text_of.Goals as goal

pub returns-then-sym-symbols-clause-none : goal.returns-then-sym-symbols-clause-none
returns-then-sym-symbols-clause-none c = λ sec section stands. let below = symbol_below c.args.object.now sec c.args.sym stands.symbol in absurd (omega arith)

pub returns-in_default : goal.returns-in_default
returns-in_default c = record {
  some = tt;
  known = tt;
  none = λ sec section stands. c.in_default.not-Section sec (ap (λ (s : SymbolEntry). s.home) c.symbol.ensures ∙ symbol_home c.args.object.now sec c.args.sym stands.symbol);
}

pub returns-else-stands_for_text-clause-none : goal.returns-else-stands_for_text-clause-none
returns-else-stands_for_text-clause-none c = λ sec section stands.
    let here : home.Section c.in-Section.sec ≡ home.Section sec = sym c.in-Section.is ∙ ap (λ (s : SymbolEntry). s.home) c.symbol.ensures ∙ symbol_home c.args.object.now sec c.args.sym stands.symbol in
    c.stands_for_text.ensures.none c.if-stands_for_text.false section (subst (λ (j : ℕ). StandsForText c.args.object.now c.args.sym j section) (same here) stands)
  where
    same : {i j : ℕ} → home.Section i ≡ home.Section j → j ≡ i
    same h = cc
