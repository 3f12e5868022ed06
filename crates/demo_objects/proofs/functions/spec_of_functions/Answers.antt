use Rattle.std.proofs.Common.{List, [], ◌∷◌, ◌++◌, sym, ap, ◌∙◌}
use Rattle.std.proofs.lemmas.List.{map-append}
use Rattle.demo_objects.specs.Demo.{demo_symbols, demo_text}
use Rattle.demo_objects.specs.Spec.{NewSymbol, symbol_of, symbols_of}
use Rattle.demo_objects.proofs.CanDemo.{symbols-more, text-more}
use Rattle.demo_objects.proofs.functions.spec_of_functions.Goals as goal

pub loop-i-preserved : goal.loop-i-preserved
loop-i-preserved c = record {
  symbols =
      ap symbols_of c.in_ok-push-2.ensures.items
      ∙ map-append symbol_of c.loop-i.symbols.items (c.in_ok-function.field-0 ∷ [])
      ∙ ap (λ (xs : List NewSymbol). xs ++ symbol_of c.in_ok-function.field-0 ∷ []) c.loop-i.invariant.symbols
      ∙ ap (λ (x : NewSymbol). demo_symbols c.loop-i.i ++ x ∷ []) c.in_ok-function.ensures
      ∙ sym (symbols-more c.loop-i.i);
  text =
      c.in_ok-push_bytes.ensures
      ∙ ap (λ (xs : List _). xs ++ c.code_of.result.now) c.loop-i.invariant.text
      ∙ ap (λ (xs : List _). demo_text c.loop-i.i ++ xs) c.code_of.ensures
      ∙ sym (text-more c.loop-i.i);
}
