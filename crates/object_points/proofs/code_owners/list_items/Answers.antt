use Rattle.std.proofs.Common.{◌≡◌, ℕ, ◌++◌, ◌∷◌, [], List, Some, None, length, sym, ap, ◌∙◌, subst, arith}
use Rattle.std.specs.Prelude.{slice_get}
use Rattle.elf_objects.specs.Elf.{Elf}
use Rattle.symbols_relocs.specs.declared.function.Function.{Function}
use Rattle.symbols_relocs.specs.Lists.{symbol_of}
use Rattle.symbols_relocs.specs.Parts.{owner_of}
use Rattle.object_points.specs.declared.code_owners.CodeOwner.{CodeOwner}
use Rattle.object_points.specs.CodeOwners.{AreItemsTo, IsItemBy}
use Rattle.object_points.proofs.Items.{earlier_item, last_item, one_more}
use Rattle.object_points.proofs.code_owners.list_items.Goals as goal

pub loop-function-preserved : goal.loop-function-preserved
loop-function-preserved c =
    let o : Elf = c.args.index.now.elf in
    let fs : List Function = c.args.index.now.functions in
    let P : ℕ → CodeOwner → Type 0 = λ i x. IsItemBy o (Some (symbol_of fs i)) (Some (owner_of o (symbol_of fs i))) x in
    let here : P (length c.loop-function.items.items) c.item_of.result = subst (λ (i : ℕ). P i c.item_of.result) (sym c.loop-function.invariant.long) c.item_of.ensures in
    record {
      long = omega (arith, c.in_ok-push.ensures.len, c.loop-function.invariant.long);
      each = subst (AreItemsTo o fs) (sym c.in_ok-push.ensures.items)
          (one_more P c.loop-function.items.items c.item_of.result c.loop-function.invariant.each here);
    }

pub returns-clause-items : goal.returns-clause-items
returns-clause-items c =
    let o : Elf = c.args.index.now.elf in
    let fs : List Function = c.args.index.now.functions in
    let items : List CodeOwner = c.loop-function.items.items in
    let whole : c.loop-function.function ≡ length fs = omega (arith, c.loop-function-test.false, ap length c.functions-count.ensures.value) in
    let long : length items ≡ length fs = c.loop-function.invariant.long ∙ whole in
    let pushed : c.push-2.new.self.items ≡ items ++ c.no_item.result ∷ [] = c.in_ok-push-2.ensures.items in
    record {
      long = omega (arith, c.in_ok-push-2.ensures.len, long);
      each = λ i x below at. c.loop-function.invariant.each i x (earlier_item items c.no_item.result x i (omega arith) (subst (λ (xs : List CodeOwner). slice_get xs i ≡ Some x) pushed at));
      last = λ x at. subst (IsItemBy o None None) (last_item items c.no_item.result x (length fs) (sym long) (subst (λ (xs : List CodeOwner). slice_get xs (length fs) ≡ Some x) pushed at)) (c.no_item.ensures o);
    }

pub returns-clause-few : goal.returns-clause-few
returns-clause-few c = omega (arith, c.in_ok-push-2.ensures.len, c.loop-function.invariant.long, c.loop-function-test.false, c.functions-count.ensures.few)
