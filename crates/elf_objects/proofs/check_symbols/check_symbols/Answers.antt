use Rattle.std.proofs.Common.{◌≡◌, ℕ, arith, below_more, inr, subst}
use Rattle.std.proofs.lemmas.Result.{err_from_is_err_and}
use Rattle.elf_objects.specs.File.{section_count}
use Rattle.elf_objects.specs.Found.{AreSectionSymbols, stands_for_section}
use Rattle.elf_objects.proofs.Found.{AreLeast-none}
use Rattle.elf_objects.proofs.check_symbols.check_symbols.Goals as goal

pub loop-k-init : goal.loop-k-init
loop-k-init c =
    let b = c.args.symbols.now.headers.bytes.now in
    record {
      symbols = λ k h. absurd (omega arith);
      found = AreLeast-none (stands_for_section b) (section_count b) _ _ (c.args.symbols.now.headers.count_is) c.in_ok-found.ensures.ok;
    }

pub loop-k-preserved : goal.loop-k-preserved
loop-k-preserved c = record {
  symbols = below_more _ _ c.loop-k.invariant.symbols c.in_ok-check_symbol.ensures;
  found = c.note_symbol.ensures;
}

pub returns-in_err-check_symbol-clause-err : goal.returns-in_err-check_symbol-clause-err
returns-in_err-check_symbol-clause-err c =
    let p = err_from_is_err_and c.from_residual-in_err-check_symbol.result c.from_residual-in_err-check_symbol.ensures.1 in
    rw (p.1, p.2) (inr (record {
      index = c.loop-k.k;
      inside = omega (arith, c.requires.count_is);
      lower = c.loop-k.invariant.symbols;
      fault = c.in_err-check_symbol.ensures;
    }))

pub returns : goal.returns
returns c =
    let b = c.args.symbols.now.headers.bytes.now in
    let all : c.loop-k.k ≡ c.args.count = omega arith in
    record {
      ok = λ k h. c.loop-k.invariant.symbols k (omega (arith, c.requires.count_is));
      found = subst (λ (n : ℕ). AreSectionSymbols b n c.loop-k.found.items) all c.loop-k.invariant.found;
      err = tt;
    }
