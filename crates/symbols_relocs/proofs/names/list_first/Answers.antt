use Rattle.std.proofs.Common.{◌≡◌, ◌+◌, ℕ, Bool, List, Option, length, length-set, true, ap, sym, subst, ◌∙◌, arith}
use Rattle.text_numbers.specs.Texts.{AreKept, Numbered}
use Rattle.elf_objects.specs.Elf.{Elf}
use Rattle.symbols_relocs.specs.Functions.{is_function}
use Rattle.symbols_relocs.specs.Names.{strings, with_first}
use Rattle.symbols_relocs.proofs.Numbers.{function_added, no_function_added, no_mark_added, no_text_added, none_below, AreFirstBelow}
use Rattle.symbols_relocs.proofs.names.list_first.Goals as goal
use Rattle.symbols_relocs.proofs.names.list_first.Goals.{then-is_function+then-is_marked+in_ok-number+then-number-len, then-is_function+then-is_marked+in_ok-number+else-number-len, else-is_function, else-is_function-via-then-is_function+else-is_marked, else-is_function-via-else-is_function}

pub loop-k-init : goal.loop-k-init
loop-k-init c = record {
  len = c.in_ok-first.ensures.len ∙ c.len.ensures.len;
  table = c.requires.table;
  kept = λ n text at. at;
  first = none_below c.args.object.now c.args.texts.now.texts c.args.marks.now c.in_ok-first.first.items c.in_ok-first.ensures.none;
}

pub loop-k-preserved : goal.loop-k-preserved
loop-k-preserved c =
    let o : Elf = c.args.object.now in
    let k : ℕ = c.loop-k.k in
    let texts : List (List ℕ) = c.args.texts.now.texts in
    let marks : List Bool = c.args.marks.now in
    let old : List (Option ℕ) = c.loop-k.first.items in
    let T : Numbered → Type 0 = λ t. (t.table ≡ strings o) × AreKept texts t.texts in
    let Q : List (Option ℕ) → Type 0 = λ first. (length first ≡ length texts) × AreFirstBelow o texts marks (k + 1) first in
    let kept : T c.if-is_function.texts = elim c.if-is_function.branch [
      | then-is_function+then-is_marked+in_ok-number+then-number-len w ↦ subst T (sym w.texts-is) (w.number_name.ensures.table ∙ c.loop-k.invariant.table, λ n text at. w.number_name.ensures.kept n text (c.loop-k.invariant.kept n text at))
      | then-is_function+then-is_marked+in_ok-number+else-number-len w ↦ subst T (sym w.texts-is) (w.number_name.ensures.table ∙ c.loop-k.invariant.table, λ n text at. w.number_name.ensures.kept n text (c.loop-k.invariant.kept n text at))
      | else-is_function w ↦ subst T (sym w.texts-is) (c.loop-k.invariant.table, c.loop-k.invariant.kept)
    ] in
    let first : Q c.if-is_function.first.items = elim c.if-is_function.branch [
      | then-is_function+then-is_marked+in_ok-number+then-number-len w ↦
          let some : is_function o k ≡ true = sym c.is_function.ensures ∙ w.if-is_function.true in
          let number : ℕ = w.in_ok-number.number in
          let is : c.if-is_function.first.items ≡ with_first old number k = ap (λ l. l.items) w.first-is ∙ w.add_symbol.ensures in
          subst Q (sym is) (
            length-set old number _ ∙ c.loop-k.invariant.len,
            function_added o texts marks old k c.loop-k.invariant.first w.number_name.new.texts.texts (λ n text at. w.number_name.ensures.kept n text (c.loop-k.invariant.kept n text at)) w.in_ok-number.ensures.different number w.in_ok-number.ensures.number some (omega (arith, w.if-number-len.true)),
          )
      | then-is_function+then-is_marked+in_ok-number+else-number-len w ↦
          let number : ℕ = w.in_ok-number.number in
          let is : c.if-is_function.first.items ≡ old = ap (λ l. l.items) w.first-is in
          subst Q (sym is) (
            c.loop-k.invariant.len,
            no_text_added o texts marks old k c.loop-k.invariant.first w.number_name.new.texts.texts (λ n text at. w.number_name.ensures.kept n text (c.loop-k.invariant.kept n text at)) w.in_ok-number.ensures.different number w.in_ok-number.ensures.number (omega (arith, w.if-number-len.false, c.loop-k.invariant.len)),
          )
      | else-is_function w ↦
          let is : c.if-is_function.first.items ≡ old = ap (λ l. l.items) w.first-is in
          subst Q (sym is) (
            c.loop-k.invariant.len,
            elim w.else-is_function.branch [
              | else-is_function-via-then-is_function+else-is_marked v ↦ no_mark_added o texts marks old k c.loop-k.invariant.first (sym v.is_marked.ensures ∙ v.if-is_marked.false)
              | else-is_function-via-else-is_function v ↦ no_function_added o texts marks old k c.loop-k.invariant.first (sym c.is_function.ensures ∙ v.if-is_function.false)
            ],
          )
    ] in
    record { len = first.0; table = kept.0; kept = kept.1; first = first.1 }
