use Rattle.std.proofs.Common.{◌≡◌, ℕ, ◌<◌, ◌+◌, ◌∙◌, [], ◌∷◌, ◌++◌, ap, sym, length, true, false, below_more, arith}
use Rattle.elf_objects.specs.Elf.{Elf}
use Rattle.elf_objects.proofs.LeastBelow.{none-least_below}
use Rattle.symbols_relocs.specs.Functions.{is_function, leaves_section}
use Rattle.symbols_relocs.proofs.Least.{some-least_below}
use Rattle.symbols_relocs.proofs.Listed.{one_more, no_more, as_bound, as_symbols}
use Rattle.symbols_relocs.proofs.symbols.list_symbols.Goals as goal
use Rattle.symbols_relocs.proofs.symbols.list_symbols.Goals.{then-stands_for_function+in_ok-push, else-stands_for_function}

pub returns-then-leaves_section-clause-err : goal.returns-then-leaves_section-clause-err
returns-then-leaves_section-clause-err c =
    let o : Elf = c.args.object.now in
    some-least_below (leaves_section o) (length o.symbols) c.loop-k.k (omega (arith, c.symbols-k-end.ensures.value, c.loop-k-test.true)) (sym c.leaves_section.ensures ∙ c.if-leaves_section.true) c.loop-k.invariant.1

pub loop-k-preserved : goal.loop-k-preserved
loop-k-preserved c =
    let o : Elf = c.args.object.now in
    let k : ℕ = c.loop-k.k in
    let stays : (j : ℕ) → j < k + 1 → leaves_section o j ≡ false = below_more (λ j. leaves_section o j ≡ false) k c.loop-k.invariant.1 (sym c.leaves_section.ensures ∙ c.if-leaves_section.false) in
    elim c.if-stands_for_function.branch [
      | then-stands_for_function+in_ok-push w ↦
          let some : is_function o k ≡ true = sym c.stands_for_function.ensures ∙ w.if-stands_for_function.true in
          (as_symbols o (k + 1) _ _ (ap (λ l. l.items) w.list-is ∙ w.in_ok-push.ensures.items ∙ ap (λ f. c.loop-k.list.items ++ f ∷ []) w.function_symbol.ensures) (one_more o k c.loop-k.list.items c.loop-k.invariant.0 some), stays)
      | else-stands_for_function w ↦
          let none : is_function o k ≡ false = sym c.stands_for_function.ensures ∙ w.if-stands_for_function.false in
          (as_symbols o (k + 1) _ _ (ap (λ l. l.items) w.list-is) (no_more o k c.loop-k.list.items c.loop-k.invariant.0 none), stays)
    ]

pub returns-clause-ok : goal.returns-clause-ok
returns-clause-ok c =
    as_bound c.args.object.now c.loop-k.k (length c.args.object.now.symbols) _ (omega (arith, c.symbols-k-end.ensures.value, c.loop-k-test.false)) c.loop-k.invariant.0

pub returns-clause-right : goal.returns-clause-right
returns-clause-right c =
    let o : Elf = c.args.object.now in
    none-least_below (leaves_section o) (length o.symbols) (λ k low. c.loop-k.invariant.1 k (omega (arith, c.symbols-k-end.ensures.value, c.loop-k-test.false)))
