use Rattle.std.proofs.Common.{ℕ, List, Option, length, sym, subst}
use Rattle.symbols_relocs.specs.Names.{AreFound, KnowsParents}
use Rattle.symbols_relocs.proofs.Found.{known_symbols}
use Rattle.symbols_relocs.proofs.Numbers.{stem_found}
use Rattle.symbols_relocs.proofs.parents.find_parents.Goals as goal

pub list_stems-requires-clause-symbols : goal.list_stems-requires-clause-symbols
list_stems-requires-clause-symbols c = known_symbols c.args.object.now c.args.functions.now c.requires.all

pub add_parents-requires-clause-found : goal.add_parents-requires-clause-found
add_parents-requires-clause-found c =
    let stems : List (Option ℕ) = c.in_ok-stems.stems.items in
    let first : List (Option ℕ) = c.in_ok-first.first.items in
    let K : List (Option ℕ) → Type 0 = λ l. KnowsParents c.args.object.now c.first_symbols.new.texts.texts l first in
    let knows = subst K c.as_slice.ensures.value c.in_ok-first.ensures.first in
    let S : List (Option ℕ) → Type 0 = λ l. AreFound c.args.object.now c.args.functions.now l c.as_slice-3.result.now in
    let F : List (Option ℕ) → Type 0 = λ l. AreFound c.args.object.now c.args.functions.now stems l in
    subst S (sym c.as_slice-2.ensures.value) (subst F (sym c.as_slice-3.ensures.value) (record {
      len = let w = c.in_ok-stems.ensures.stems in w.len;
      each = λ i low. stem_found c.args.object.now c.list_stems.new.texts.texts c.first_symbols.new.texts.texts c.in_ok-first.ensures.kept stems first knows c.args.functions.now (length c.args.functions.now) i c.in_ok-stems.ensures.stems low;
    }))
